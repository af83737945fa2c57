-- matrix::product
use Rattle.std.proofs.Common.{arith, rules}
use Rattle.matrix.proofs.Transposition.{summed_next, summed_all}
use Rattle.matrix.proofs.product.Goals as goal

pub loop-j-preserved : goal.loop-j-preserved
loop-j-preserved g c =
    let l = c.loop-j in
    let r = c.args in
    let n = c.add_column-next in
    (search rules, summed_next g.row.WIDTH r.d r.columns.now r.x.now l.j l.sums l.invariant.1 n.result (omega arith) (omega arith) (omega arith) n.ensures)

pub returns : goal.returns
returns g c =
    let l = c.loop-j in
    let r = c.args in
    summed_all g.row.WIDTH r.d r.columns.now r.x.now l.j l.sums l.invariant.1 (omega arith) (omega arith)
