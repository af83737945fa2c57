-- The product of a matrix of two rows, and of one whose terms are all -0.0, by computation.
use Rattle.std.specs.Prelude.{◌≡◌, refl, [], ◌∷◌}
use Rattle.std.specs.Float.Ieee.{add, mul, neg, of_int}
use Rattle.floats.specs.Arithmetic.{whole, minus, zero⁺}
use Rattle.floats.specs.Vector.{chunks}
use Rattle.matrix.specs.Matrix.{times}

-- the rows 2, 3 and 5, 7, and the vector 11, 13
pub two_rows : times (chunks 2 2 (whole 2 ∷ whole 3 ∷ whole 5 ∷ whole 7 ∷ [])) (whole 11 ∷ whole 13 ∷ []) ≡ whole 61 ∷ whole 146 ∷ []
unfolding times chunks add mul of_int
two_rows = refl

-- the row -2, -3 and the vector 0, 0: a row's sum starts at +0.0
pub zero_row : times ((minus 2 ∷ minus 3 ∷ []) ∷ []) (zero⁺ ∷ zero⁺ ∷ []) ≡ zero⁺ ∷ []
unfolding times add mul neg of_int
zero_row = refl
