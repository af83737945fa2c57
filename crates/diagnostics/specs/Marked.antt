-- Document 01's marked examples of rates, an order, lists without a rate above 0, and a list for each refusal, computed from the definitions.
use Rattle.std.specs.Prelude.{◌≡◌, refl, true, false, [], ◌∷◌, pos, negsuc, replicate}
use Rattle.std.specs.Float.{inf, fin}
use Rattle.std.specs.Float.Ieee.{neg, of_int, to_bits}
use Rattle.error.specs.Refusal.{value, refused, refuse}
use Rattle.floats.specs.Arithmetic.{whole, minus, zero⁺, zero⁻, one, two, minus_two, half}
use Rattle.diagnostics.specs.Sorting.{descending, occurrences}
use Rattle.diagnostics.specs.Rates.{dimension, entropy}

abbrev pub Marked : Type 0
Marked =
    (dimension (one ∷ zero⁺ ∷ minus_two ∷ []) ≡ value (fin false 5 (negsuc 0)))
    × (dimension (one ∷ two ∷ []) ≡ value two)
    × (dimension (fin true 1 (pos 0) ∷ []) ≡ value zero⁺)
    × (entropy (fin true 1 (pos 0) ∷ half ∷ fin false 1 (negsuc 1) ∷ []) ≡ value (fin false 3 (negsuc 1)))

pub marked : Marked
unfolding dimension entropy
marked = (refl, refl, refl, refl)

-- 2 + (3 + 0.5) / 14, and 3 + 0.5
pub unordered : (dimension (minus 14 ∷ whole 3 ∷ half ∷ []) ≡ value (fin false 9 (negsuc 1))) × (entropy (minus 14 ∷ whole 3 ∷ half ∷ []) ≡ value (fin false 7 (negsuc 0)))
    × (descending (zero⁻ ∷ minus 14 ∷ whole 3 ∷ zero⁺ ∷ half ∷ []) ≡ whole 3 ∷ half ∷ zero⁺ ∷ zero⁻ ∷ minus 14 ∷ [])
    × (occurrences 0 (zero⁺ ∷ whole 3 ∷ zero⁺ ∷ zero⁻ ∷ []) ≡ 2)
unfolding dimension entropy descending occurrences to_bits of_int neg
unordered = (refl, refl, refl, refl)

-- Without a rate above 0 the entropy is -0.0 (document 02, d). The walk of the dimension starts at +0.0.
pub no_positive : (entropy (minus 1 ∷ []) ≡ value zero⁻) × (entropy (minus 1 ∷ minus 2 ∷ []) ≡ value zero⁻) × (entropy (zero⁺ ∷ []) ≡ value zero⁻)
    × (dimension (minus 1 ∷ minus 2 ∷ []) ≡ value zero⁺)
unfolding dimension entropy of_int neg
no_positive = (refl, refl, refl, refl)

-- 20, 21 and 22 with the place of the infinity
pub refusals : (dimension [] ≡ refused (refuse 20 0)) × (entropy (replicate 257 half) ≡ refused (refuse 21 0)) × (dimension (whole 3 ∷ half ∷ inf true ∷ []) ≡ refused (refuse 22 2))
unfolding dimension entropy of_int
refusals = (refl, refl, refl)
