-- Tests in their order, by computation.
use Rattle.std.specs.Prelude.{◌≡◌, refl, true, false, [], ◌∷◌}
use Rattle.std.proofs.Math.Option.{none, some}
use Rattle.error.specs.Refusal.{refuse}
use Rattle.error.specs.Tests.{test, first_failing, ◌else◌}

pub first : (first_failing (test true 3 1 ∷ test false 13 2 ∷ test false 17 9 ∷ []) ≡ some (refuse 13 2)) × (first_failing (test true 3 1 ∷ []) ≡ none)
    × ((some (refuse 13 2) else some (refuse 17 9)) ≡ some (refuse 13 2)) × ((none else some (refuse 17 9)) ≡ some (refuse 17 9))
unfolding first_failing ◌else◌
first = (refl, refl, refl, refl)
