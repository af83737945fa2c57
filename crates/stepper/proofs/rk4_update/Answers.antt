-- stepper::rk4_update
use Rattle.std.proofs.Common.{◌<◌, ◌≢◌, [], ◌∷◌, length, arith, below_more, length-set, get_or-set_other, get_or-set_same}
use lib.Ieee.{of_bits}
use Rattle.stepper.specs.Stepper.{rk4, rk4_update}
use Rattle.stepper.proofs.Entrywise.{front_written}
use Rattle.stepper.proofs.rk4_update.Goals as goal

pub loop-i-preserved : goal.loop-i-preserved
unfolding of_bits
loop-i-preserved g c =
    let l = c.loop-i in
    let lt : l.i < length l.out = omega arith in (
      simp length-set l.invariant.0,
      below_more _ _ (λ j h. let ne : j ≢ l.i = omega arith in rw get_or-set_other (l.invariant.1 j h)) (rw get_or-set_same),
    )

pub returns : goal.returns
unfolding rk4
returns g c =
    let l = c.loop-i in
    let r = c.args in
    front_written (rk4_update r.h) (r.k4 ∷ r.k3 ∷ r.k2 ∷ r.k1 ∷ []) r.v g.row.WIDTH l.out (omega arith) (omega arith) (λ i h. l.invariant.1 i (omega arith))
