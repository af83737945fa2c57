-- The Kolmogorov-Sinai entropy of a list of exponents. Definitions only.
use Rattle.std.specs.Prelude.{cond, List, [], ◌∷◌, Float}
use Rattle.std.specs.Float.Ieee.{add, lt}
use Rattle.floats.specs.Arithmetic.{◌⊕◌, zero⁺, zero⁻}

-- where the sum starts: document 02, d)
abbrev pub entropy_start : Float
entropy_start = zero⁻

-- s and the entries above 0, added in the order given
unfoldable pub sum_positive : Float → List Float → Float
unfolding add lt
sum_positive s [] = s
sum_positive s (x ∷ xs) = sum_positive (cond (lt zero⁺ x) (s ⊕ x) s) xs

unfoldable pub kolmogorov_sinai : List Float → Float
unfolding sum_positive
kolmogorov_sinai xs = sum_positive entropy_start xs
