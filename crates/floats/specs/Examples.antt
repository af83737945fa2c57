-- The definitions on small lists, by computation.
use Rattle.std.specs.Prelude.{◌≡◌, refl, true, false, [], ◌∷◌, ◌-◌, ◌^◌}
use Rattle.std.proofs.Math.Option.{none, some}
use Rattle.std.specs.Float.{nan, inf}
use Rattle.std.specs.Float.Ieee.{add, sub, mul, neg, lt, of_int, to_bits}
use Rattle.floats.specs.Arithmetic.{◌⊕◌, ◌⊖◌, ◌⊗◌, whole, minus, zero⁺, zero⁻}
use Rattle.floats.specs.Finite.{positive, first_not_finite}
use Rattle.floats.specs.Magnitude.{magnitude}
use Rattle.floats.specs.TotalOrder.{rank}
use Rattle.floats.specs.Vector.{zip, updated, dot_from, part, chunks, concat}

pub entry_by_entry : (zip (◌⊖◌) (whole 9 ∷ whole 5 ∷ whole 4 ∷ []) (whole 2 ∷ whole 8 ∷ []) ≡ whole 7 ∷ minus 3 ∷ [])
    × (updated (◌⊖◌) (whole 9 ∷ whole 5 ∷ whole 4 ∷ []) (whole 2 ∷ whole 8 ∷ []) ≡ whole 7 ∷ minus 3 ∷ whole 4 ∷ [])
    × (updated (◌⊕◌) (whole 9 ∷ []) (whole 2 ∷ whole 8 ∷ []) ≡ whole 11 ∷ [])
unfolding zip updated add sub neg of_int
entry_by_entry = (refl, refl, refl)

-- 7 + 2 * 5 + 3 * 11
pub products : dot_from (whole 7) (whole 2 ∷ whole 3 ∷ []) (whole 5 ∷ whole 11 ∷ []) ≡ whole 50
unfolding dot_from add mul of_int
products = refl

-- a sum is -0.0 only where it starts there and every term is -0.0
pub zeros : (zero⁻ ⊕ minus 3 ⊗ zero⁺ ≡ zero⁻) × (zero⁺ ⊕ minus 3 ⊗ zero⁺ ≡ zero⁺) × (zero⁻ ⊕ minus 3 ⊗ zero⁻ ≡ zero⁺)
unfolding add mul neg of_int
zeros = (refl, refl, refl)

pub vectors : (part 1 2 (whole 3 ∷ whole 5 ∷ whole 7 ∷ whole 9 ∷ []) ≡ whole 5 ∷ whole 7 ∷ [])
    × (chunks 2 2 (whole 3 ∷ whole 5 ∷ whole 7 ∷ whole 9 ∷ whole 11 ∷ []) ≡ (whole 3 ∷ whole 5 ∷ []) ∷ (whole 7 ∷ whole 9 ∷ []) ∷ [])
    × (concat ((whole 3 ∷ []) ∷ [] ∷ (whole 5 ∷ whole 7 ∷ []) ∷ []) ≡ whole 3 ∷ whole 5 ∷ whole 7 ∷ [])
unfolding chunks concat
vectors = (refl, refl, refl)

pub not_finite : (first_not_finite (whole 3 ∷ minus 5 ∷ nan ∷ inf true ∷ []) ≡ some 2) × (first_not_finite (whole 3 ∷ []) ≡ none)
    × (positive (whole 3) ≡ true) × (positive (minus 3) ≡ false) × (positive zero⁺ ≡ false) × (positive (inf false) ≡ false)
unfolding first_not_finite lt neg of_int
not_finite = (refl, refl, refl, refl, refl, refl)

-- -0.0 stands just below +0.0, and -infinity and +infinity as far from them
pub order : (magnitude (minus 3) ≡ whole 3) × (rank (inf true) ≡ 2 ^ 63 - 1 - 0x7ff0_0000_0000_0000) × (rank zero⁻ ≡ 2 ^ 63 - 1)
    × (rank zero⁺ ≡ 2 ^ 63) × (rank (whole 1) ≡ 0xbff0_0000_0000_0000) × (rank (inf false) ≡ 0xfff0_0000_0000_0000)
unfolding rank to_bits neg of_int
order = (refl, refl, refl, refl, refl, refl)
