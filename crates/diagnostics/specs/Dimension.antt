-- The Kaplan-Yorke dimension of a list of exponents. Definitions only.
use Rattle.std.specs.Prelude.{cond, List, [], ◌∷◌, ℕ, zero, suc, Float}
use Rattle.std.specs.Float.Ieee.{add, div, lt, of_int}
use Rattle.floats.specs.Arithmetic.{◌⊕◌, ◌⊘◌, whole, zero⁺}
use Rattle.floats.specs.Magnitude.{magnitude}
use Rattle.diagnostics.specs.Sorting.{descending}

-- the value where the walk stops, at index i, with the sum s before the entry x
unfoldable pub stopped : ℕ → Float → Float → Float
unfolding add div of_int
stopped zero s x = zero⁺
stopped (suc i) s x = whole (suc i) ⊕ s ⊘ magnitude x

-- the walk from index i on, with the sum s so far: it stops at the first index where the next sum is below 0
unfoldable pub walk : ℕ → Float → List Float → Float
unfolding stopped lt
walk i s [] = whole i
walk i s (x ∷ xs) = let next = s ⊕ x in cond (lt next zero⁺) (stopped i s x) (walk (suc i) next xs)

unfoldable pub kaplan_yorke : List Float → Float
unfolding walk descending
kaplan_yorke xs = walk 0 zero⁺ (descending xs)
