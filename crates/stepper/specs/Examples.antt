-- A vector moved by the classical stepper, by computation.
use Rattle.std.specs.Prelude.{ℕ, ◌≡◌, refl, List, [], ◌∷◌, map, Float}
use Rattle.std.specs.Float.Ieee.{add, mul, div, of_int}
use Rattle.floats.specs.Arithmetic.{◌⊗◌, whole, six}
use Rattle.stepper.specs.Stepper.{entrywise, derivatives, moved, rk4}

abbrev times_all : ℕ → List Float → List Float
times_all n v = map (λ x. whole n ⊗ x) v

-- a derivative map for each stage, times 2, 3, 5 and 7; h 6, and the vector 11, 13
pub four_maps : moved (rk4 six) (times_all 2 ∷ times_all 3 ∷ times_all 5 ∷ times_all 7 ∷ []) (whole 11 ∷ whole 13 ∷ []) ≡ whole 155452 ∷ whole 183716 ∷ []
unfolding moved derivatives rk4 entrywise add mul div of_int
four_maps = refl
