-- The product of a matrix and a vector; then how the code holds a matrix, which a reader may skip. Definitions only.
use Rattle.std.specs.Prelude.{ℕ, ◌+◌, ◌*◌, ◌≤◌, ◌<◌, ◌≡◌, List, map, length, get_or, Float}
use Rattle.std.specs.Float.{nan}
use Rattle.floats.specs.Arithmetic.{zero⁺}
use Rattle.floats.specs.Vector.{dot_from}

-- the zero that a row's sum starts from
abbrev pub row_start : Float
row_start = zero⁺

-- the product of a matrix, given by its rows, and a vector
unfoldable pub times : List (List Float) → List Float → List Float
unfolding dot_from
times rows v = map (λ r. dot_from row_start r v) rows

-- the d rows of m, column after column, each column at the front of w entries
abbrev pub Transposed : ℕ → ℕ → List Float → List Float → Type 0
Transposed w d m columns = (i j : ℕ) → i < d → j < d → get_or columns (w * j + i) nan ≡ get_or m (i * d + j) nan

-- columns of 16 entries hold the matrix m of d rows
pub record Held (d : ℕ) (m columns : List Float) : Type 0 where
  pub within : d ≤ 16
  pub room : 16 * d ≤ length columns
  pub square : length m ≡ d * d
  pub transposed : Transposed 16 d m columns
