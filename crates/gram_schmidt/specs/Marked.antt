-- Document 01's marked examples of the orthonormaliser, of the definition that its contract cites: directions of 2 entries, in a second slice of zeros; two directions of 3 entries; and two of which one zero turns by document 02, d).
use Rattle.std.specs.Prelude.{◌≡◌, refl, true, false, List, [], ◌∷◌, pos, negsuc, Float}
use Rattle.std.proofs.Math.Option.{none, some}
use Rattle.std.specs.Float.{fin}
use Rattle.std.specs.Float.Ieee.{to_bits, add, sub, mul, div, round, le, lt, eq, of_int, of_bits}
use Rattle.error.specs.Refusal.{refuse}
use Rattle.floats.specs.Arithmetic.{bits, whole, zero⁺, zero⁻, one, two, half}
use Rattle.sqrt.specs.SquareRoot.{root}
use Rattle.ln.specs.Logarithm.{log}
use Rattle.gram_schmidt.specs.GramSchmidt.{euclidean_from, sum_start, euclidean, Orthonormalised, orthonormalised}

abbrev three : Float
three = fin false 3 (pos 0)

abbrev zeros : List Float
zeros = zero⁺ ∷ zero⁺ ∷ zero⁺ ∷ zero⁺ ∷ []

-- (2,0),(2,3)
abbrev independent : Orthonormalised
independent = orthonormalised euclidean (two ∷ zero⁺ ∷ two ∷ three ∷ []) 2 zeros

-- (1,0),(2,0)
abbrev parallel : Orthonormalised
parallel = orthonormalised euclidean (one ∷ zero⁺ ∷ two ∷ zero⁺ ∷ []) 2 zeros

abbrev pub Marked : Type 0
Marked =
    (independent.refusal ≡ none) × (independent.tangents ≡ one ∷ zero⁺ ∷ zero⁺ ∷ one ∷ [])
    × (parallel.refusal ≡ some (refuse 14 1)) × (parallel.tangents ≡ one ∷ zero⁺ ∷ zero⁺ ∷ zero⁺ ∷ []) × (parallel.norms ≡ zero⁺ ∷ zero⁺ ∷ one ∷ zero⁺ ∷ [])

pub marked : Marked
unfolding orthonormalised root log to_bits add sub mul div round le lt eq of_int of_bits
marked = (refl, refl, refl, refl, refl)

-- (2,3,6),(1,9,4) and an entry left over, with more room than is needed
pub two_of_three : orthonormalised euclidean (whole 2 ∷ whole 3 ∷ whole 6 ∷ whole 1 ∷ whole 9 ∷ whole 4 ∷ whole 5 ∷ []) 3 (whole 11 ∷ whole 13 ∷ whole 17 ∷ whole 19 ∷ whole 23 ∷ whole 29 ∷ [])
    ≡ record {
      refusal = none;
      tangents = bits 0x3fd2_4924_9249_2492 ∷ bits 0x3fdb_6db6_db6d_b6db ∷ bits 0x3feb_6db6_db6d_b6db ∷ bits 0xbfc7_58dc_3945_9ef7 ∷ bits 0x3fec_e06e_b2a0_3725 ∷ bits 0xbfd8_fc49_fe69_f1fb ∷ whole 5 ∷ [];
      norms = bits 0x3fff_2272_ae32_5a57 ∷ bits 0x3ffd_a505_0a9e_2a29 ∷ whole 49 ∷ bits 0x4044_5634_3eb1_a1f7 ∷ whole 23 ∷ whole 29 ∷ [];
    }
unfolding orthonormalised root log to_bits add sub mul div round le lt eq of_int of_bits
two_of_three = refl

-- With u = 2 ^ -1074, (1/4, -4u, 3),(-3u, 1/2, -0.0) by sums from z. Once the first direction is divided, each product of their entries is -0.0: two are so small, and the third is of a zero.
abbrev small_products : Float → Orthonormalised
small_products z =
    orthonormalised (euclidean_from z) (fin false 1 (negsuc 1) ∷ fin true 1 (negsuc 1071) ∷ three ∷ fin true 3 (negsuc 1073) ∷ half ∷ zero⁻ ∷ []) 3 zeros

-- the directions, with x as the last entry
abbrev ending_with : Float → List Float
ending_with x = bits 0x3fb5_4277_f40d_6cb6 ∷ bits 0x8000_0000_0000_0001 ∷ bits 0x3fef_e3b3_ee14_2310 ∷ bits 0x8000_0000_0000_0006 ∷ one ∷ x ∷ []

-- From -0.0 the dot product is -0.0, and the last entry turns. From +0.0 it was +0.0, and the entry stayed.
pub turned : ((small_products sum_start).tangents ≡ ending_with zero⁺) × ((small_products zero⁺).tangents ≡ ending_with zero⁻)
unfolding orthonormalised root log to_bits add sub mul div round le lt eq of_int of_bits
turned = (refl, refl)
