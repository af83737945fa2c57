-- rk4::arrays::zero_padded
use Rattle.std.proofs.Common.{◌≡◌, length, take, arith, refl, ap, ◌∙◌, length-set}
use lib.Ieee.{of_bits}
use lib.ListN.{length-take}
use Rattle.system.proofs.Padding.{in16_drop}
use Rattle.rk4.proofs.Copy.{copied_next, copied_past}
use Rattle.rk4.proofs.arrays.zero_padded.Goals as goal
use Rattle.rk4.proofs.arrays.zero_padded.Goals.{then-i-s, else-i-s}

pub loop-i-preserved : goal.loop-i-preserved
loop-i-preserved g c =
    let l = c.loop-i in
    let s = c.args.s.now in
    elim c.if-i-s.branch [
      | then-i-s w ↦ (ap length w.out-is ∙ simp length-set l.invariant.0, w.out-is ∙ copied_next s _ l.out l.i l.invariant.1 _ refl (omega arith) (omega arith))
      | else-i-s w ↦ (ap length w.out-is ∙ l.invariant.0, w.out-is ∙ copied_past s _ l.out l.i l.invariant.1 (omega arith))
    ]

pub returns : goal.returns
unfolding of_bits
returns g c =
    let e : c.loop-i.i ≡ g.row.WIDTH = omega arith in
    rw e at c.loop-i.invariant.1 ∙ in16_drop (take g.row.WIDTH c.args.s.now) _ refl (rw length-take (omega arith))
