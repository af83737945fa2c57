-- A ring of four and one of five cells, by computation.
use Rattle.std.specs.Prelude.{◌≡◌, refl, [], ◌∷◌}
use Rattle.std.specs.Float.Ieee.{add, sub, mul, neg, of_int}
use Rattle.floats.specs.Arithmetic.{whole, minus}
use Rattle.lorenz96.specs.Ring.{ring_field, ring_tangent}

-- F 17 at 2, 3, 5, 11, with the direction 7, 13, 19, 31
pub four : (ring_field 4 (whole 17) (whole 2 ∷ whole 3 ∷ whole 5 ∷ whole 11 ∷ []) ≡ minus 7 ∷ whole 2 ∷ whole 39 ∷ whole 1 ∷ [])
    × (ring_tangent 4 (whole 2 ∷ whole 3 ∷ whole 5 ∷ whole 11 ∷ []) (whole 7 ∷ whole 13 ∷ whole 19 ∷ whole 31 ∷ []) ≡ minus 135 ∷ minus 79 ∷ whole 170 ∷ minus 80 ∷ [])
unfolding ring_field ring_tangent add sub mul neg of_int
four = (refl, refl)

-- F 23 at 2, 3, 7, 19, 5, with the direction 11, 13, 29, 31, 17
pub five : (ring_field 5 (whole 23) (whole 2 ∷ whole 3 ∷ whole 7 ∷ whole 19 ∷ whole 5 ∷ []) ≡ minus 59 ∷ whole 24 ∷ whole 67 ∷ whole 18 ∷ minus 77 ∷ [])
    × (ring_tangent 5 (whole 2 ∷ whole 3 ∷ whole 7 ∷ whole 19 ∷ whole 5 ∷ []) (whole 11 ∷ whole 13 ∷ whole 29 ∷ whole 31 ∷ whole 17 ∷ []) ≡ minus 373 ∷ whole 33 ∷ whole 252 ∷ whole 55 ∷ minus 514 ∷ [])
unfolding ring_field ring_tangent add sub mul neg of_int
five = (refl, refl)
