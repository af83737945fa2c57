-- The tests of a step called alone, a block for each subject, and what is known of a step that passes them. Definitions only.
use Rattle.std.specs.Prelude.{ℕ, ◌*◌, ◌≤◌, ◌<◌, ◌≡◌, true, List, [], ◌∷◌, ◌++◌, leb, eqb, length, Float}
use Rattle.error.specs.Tests.{Test, test}
use Rattle.floats.specs.Finite.{positive}
use Rattle.system.specs.System.{dim, matrix_fits, cells_fit}
use Rattle.system.specs.declared.System.{System}
use Rattle.system_validation.specs.Tests.{dimension_tests, matrix_tests, length_tests, time_tests, step_size_tests}

-- 19: at most 16 directions, which fill their slice
abbrev pub tangent_tests : System → List Float → ℕ → List Test
tangent_tests S t n = test (leb n 16) 19 0 ∷ test (eqb (length t) (n * dim S)) 19 0 ∷ []

-- 7, 8, 25, 9, 10, 19, 6, 2: of the state x and n directions in t, at a time, with the step size h
abbrev pub step_tests : System → List Float → Float → List Float → List Float → ℕ → Float → List Test
step_tests S m time x t n h = dimension_tests S ++ matrix_tests S m ++ length_tests S x ++ tangent_tests S t n ++ time_tests time ++ step_size_tests h

-- what is known of the state x, k directions and the step size h once the tests are passed, by a step and by a run
pub record Passed (S : System) (m x : List Float) (k : ℕ) (h : Float) : Type 0 where
  pub dimension_above : 0 < dim S
  pub dimension_within : dim S ≤ 16
  pub cells : cells_fit S ≡ true
  pub matrix : matrix_fits S m ≡ true
  pub state : length x ≡ dim S
  pub count : k ≤ 16
  pub step_size : positive h ≡ true
