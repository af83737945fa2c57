-- rk4::arrays::copy_front
use Rattle.std.proofs.Common.{◌≡◌, length, take, arith, rules, sym, ◌∙◌}
use Rattle.std.specs.Float.{nan}
use lib.ListN.{length-take}
use lib.Seq.{get_or-take}
use Rattle.rk4.proofs.Copy.{copied_next, copied_past, copied_over}
use Rattle.rk4.proofs.arrays.copy_front.Goals as goal
use Rattle.rk4.proofs.arrays.copy_front.Goals.{then-i-out, else-i-out}

pub loop-i-preserved : goal.loop-i-preserved
loop-i-preserved g c =
    let l = c.loop-i in
    let o = c.args.out.now in
    let from = c.args.from in
    let L = take (length o) from in
    let n = length-take (length o) from in
    let m : length from ≡ 16 = search rules in
    elim c.if-i-out.branch [
      | then-i-out w ↦ w.out-is ∙ copied_next L o l.out l.i l.invariant _ (sym (get_or-take (length o) from l.i nan (omega arith))) (omega arith) (omega arith)
      | else-i-out w ↦ w.out-is ∙ copied_past L o l.out l.i l.invariant (omega arith)
    ]

pub returns : goal.returns
returns g c =
    let r = c.args in
    let e : c.loop-i.i ≡ g.row.WIDTH = omega arith in
    let m : length r.from ≡ 16 = search rules in
    copied_over r.from r.out.now _ g.row.WIDTH (rw e at c.loop-i.invariant) (omega arith)
