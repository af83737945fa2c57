-- stepper::rk4_update
use Rattle.std.proofs.Common.{◌≡◌, ℕ, [], ◌∷◌, ◌<◌, length}
use Rattle.stepper.specs.Stepper.{at, rk4_update}
use Rattle.stepper.proofs.rk4_update.Given as goal

abbrev pub invariant-loop-i : goal.invariant-loop-i
invariant-loop-i g l = (length l.out ≡ 16) × ((j : ℕ) → j < l.i → at j l.out ≡ rk4_update l.h (at j l.k4 ∷ at j l.k3 ∷ at j l.k2 ∷ at j l.k1 ∷ []) (at j l.v))
