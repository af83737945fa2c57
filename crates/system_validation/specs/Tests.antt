-- The tests of a system, of what is lent beside it, and of the time and size of a step, a block for each. Definitions only.
use Rattle.std.specs.Prelude.{List, [], ◌∷◌, ltb, leb, eqb, length, Float}
use Rattle.std.specs.Float.Ieee.Scale.{finite}
use Rattle.error.specs.Tests.{Test, test}
use Rattle.floats.specs.Finite.{positive}
use Rattle.system.specs.System.{dim, matrix_fits, cells_fit}
use Rattle.system.specs.declared.System.{System}

-- 7, 8 and 25: the dimension is 1 to 16, and that of a ring at least 4
abbrev pub dimension_tests : System → List Test
dimension_tests S = test (ltb 0 (dim S)) 7 0 ∷ test (leb (dim S) 16) 8 0 ∷ test (cells_fit S) 25 0 ∷ []

-- 9: the matrix of a linear system
abbrev pub matrix_tests : System → List Float → List Test
matrix_tests S m = test (matrix_fits S m) 9 0 ∷ []

-- 10: the length of a state
abbrev pub length_tests : System → List Float → List Test
length_tests S x = test (eqb (length x) (dim S)) 10 0 ∷ []

-- 6: the time
abbrev pub time_tests : Float → List Test
time_tests time = test (finite time) 6 0 ∷ []

-- 2: the step size
abbrev pub step_size_tests : Float → List Test
step_size_tests h = test (positive h) 2 0 ∷ []
