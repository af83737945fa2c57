-- Each block passed and failed, by computation.
use Rattle.std.specs.Prelude.{◌≡◌, refl, true, [], ◌∷◌}
use Rattle.std.proofs.Math.Option.{none, some}
use Rattle.std.specs.Float.{inf}
use Rattle.std.specs.Float.Ieee.{lt, neg, of_int}
use Rattle.error.specs.Refusal.{refuse}
use Rattle.error.specs.Tests.{first_failing}
use Rattle.floats.specs.Arithmetic.{whole, minus}
use Rattle.system.specs.declared.System.TheVariants.{Linear, Lorenz96}
use Rattle.system_validation.specs.Tests.{dimension_tests, matrix_tests, length_tests, time_tests, step_size_tests}

-- rings of 0, 3, 4, 16 and 17 cells, and a linear system of dimension 3
pub dimensions : (first_failing (dimension_tests (Lorenz96 0 (whole 8))) ≡ some (refuse 7 0))
    × (first_failing (dimension_tests (Lorenz96 3 (whole 8))) ≡ some (refuse 25 0))
    × (first_failing (dimension_tests (Lorenz96 4 (whole 8))) ≡ none)
    × (first_failing (dimension_tests (Lorenz96 16 (whole 8))) ≡ none)
    × (first_failing (dimension_tests (Lorenz96 17 (whole 8))) ≡ some (refuse 8 0))
    × (first_failing (dimension_tests (Linear 3)) ≡ none)
unfolding first_failing
dimensions = (refl, refl, refl, refl, refl, refl)

-- of a linear system of dimension 2: a matrix of four entries and one of three, a state of two entries and one of three
pub lent : (first_failing (matrix_tests (Linear 2) (whole 3 ∷ whole 5 ∷ whole 7 ∷ whole 11 ∷ [])) ≡ none)
    × (first_failing (matrix_tests (Linear 2) (whole 3 ∷ whole 5 ∷ whole 7 ∷ [])) ≡ some (refuse 9 0))
    × (first_failing (length_tests (Linear 2) (whole 3 ∷ whole 5 ∷ [])) ≡ none)
    × (first_failing (length_tests (Linear 2) (whole 3 ∷ whole 5 ∷ whole 7 ∷ [])) ≡ some (refuse 10 0))
unfolding first_failing
lent = (refl, refl, refl, refl)

-- a time may be negative, and a step size may not
pub time_and_size : (first_failing (time_tests (minus 5)) ≡ none) × (first_failing (time_tests (inf true)) ≡ some (refuse 6 0))
    × (first_failing (step_size_tests (whole 3)) ≡ none) × (first_failing (step_size_tests (minus 3)) ≡ some (refuse 2 0))
unfolding first_failing lt neg of_int
time_and_size = (refl, refl, refl, refl)
