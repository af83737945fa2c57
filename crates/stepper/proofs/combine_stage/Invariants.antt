-- stepper::combine_stage
use Rattle.std.proofs.Common.{◌≡◌, ℕ, [], ◌∷◌, ◌<◌, length}
use Rattle.stepper.specs.Stepper.{at, combine_stage}
use Rattle.stepper.proofs.combine_stage.Given as goal

abbrev pub invariant-loop-i : goal.invariant-loop-i
invariant-loop-i g l = (length l.out ≡ 16) × ((j : ℕ) → j < l.i → at j l.out ≡ combine_stage l.scale (at j l.k ∷ []) (at j l.v))
