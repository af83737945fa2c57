-- lorenz96::jacobian_vector_product
use native.Mathlib.Omega.{arith}
use mathlib.Core.Path.{◌∙◌}
use lib.ListN.{length-set}
use Rattle.lorenz96.proofs.Ring.{at_second, last_after, written_two, written_all, written_last, front_tangent}
use Rattle.lorenz96.proofs.jacobian_vector_product.Goals as goal

pub loop-pair-preserved : goal.loop-pair-preserved
loop-pair-preserved c =
    let v = c.loop-pair.invariant in
    let e = v.state.next (omega arith) in
    let f = v.direction.next (omega arith) in
    let y = c.next_pair-next.ensures in
    let z = c.next_pair-along.ensures in
    let a = c.shifted-s1.ensures _ _ _ (omega arith) v.state.around e in
    let b = c.shifted-u1.ensures _ _ _ (omega arith) v.direction.around f in
    record {
      long = length-set _ _ _ ∙ length-set _ _ _ ∙ v.long;
      written = written_two _ _ _ _ (omega arith) (omega arith) (c.cell_tangent.ensures _ _ _ _ v.state.around e v.direction.around f) (c.cell_tangent-in-loop-pair.ensures _ _ _ _ a y.first b z.first) v.written;
      state = at_second (omega arith) y (c.shifted-s.ensures _ _ _ (omega arith) a y.first);
      direction = at_second (omega arith) z (c.shifted-u.ensures _ _ _ (omega arith) b z.first);
    }

-- an odd ring has one cell more
pub returns-then-cells-eq1 : goal.returns-then-cells-eq1
returns-then-cells-eq1 c =
    let v = c.loop-pair.invariant in
    let ar = c.args in
    let e = last_after ar.cells ar.x.now _ (omega arith) (omega arith) in
    let f = last_after ar.cells ar.t.now _ (omega arith) (omega arith) in
    (length-set _ _ _ ∙ v.long, λ q. front_tangent _ _ _ _ (written_last _ _ _ (omega arith) (omega arith) (omega arith) (c.cell_tangent-then-cells-eq1.ensures _ _ _ _ v.state.around e v.direction.around f) v.written))

pub returns-else-cells-eq1 : goal.returns-else-cells-eq1
returns-else-cells-eq1 c =
    let v = c.loop-pair.invariant in
    (v.long, λ q. front_tangent _ _ _ _ (written_all _ _ _ (omega arith) (omega arith) v.written))
