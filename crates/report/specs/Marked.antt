-- Document 01's example of the program, a text of each refusal, one without a rate above 0, and numbers from bytes and in digits, computed from the definitions.
use Rattle.std.specs.Prelude.{◌≡◌, refl, false, [], ◌∷◌, replicate, negsuc, codes, decimal}
use Rattle.std.specs.Fmt as fmt
use Rattle.std.specs.Float.{fin}
use Rattle.report.specs.Bytes.{little_endian, decoded}
use Rattle.report.specs.Digits.{digits}
use Rattle.report.specs.Report.{output}

-- the bytes of 1, 0, -2; no bytes; 2,049 bytes; an infinity; one byte
pub marked : (output (0 ∷ 0 ∷ 0 ∷ 0 ∷ 0 ∷ 0 ∷ 0xf0 ∷ 0x3f ∷ 0 ∷ 0 ∷ 0 ∷ 0 ∷ 0 ∷ 0 ∷ 0 ∷ 0 ∷ 0 ∷ 0 ∷ 0 ∷ 0 ∷ 0 ∷ 0 ∷ 0 ∷ 0xc0 ∷ []) ≡ codes "4004000000000000\n3ff0000000000000\n")
    × (output [] ≡ codes "refused 20 0\n")
    × (output (replicate 2049 0) ≡ codes "refused 21 0\n")
    × (output (0 ∷ 0 ∷ 0 ∷ 0 ∷ 0 ∷ 0 ∷ 0xf0 ∷ 0x7f ∷ []) ≡ codes "refused 22 0\n")
    × (output (0 ∷ []) ≡ codes "refused 23 0\n")
unfolding output
marked = (refl, refl, refl, refl, refl)

-- the bytes of -1, -2
pub no_positive : output (0 ∷ 0 ∷ 0 ∷ 0 ∷ 0 ∷ 0 ∷ 0xf0 ∷ 0xbf ∷ 0 ∷ 0 ∷ 0 ∷ 0 ∷ 0 ∷ 0 ∷ 0 ∷ 0xc0 ∷ []) ≡ codes "0000000000000000\n8000000000000000\n"
unfolding output
no_positive = refl

-- 3 + 256 * 1 + 65536 * 2; 4095 and f2a7 in digits; the float 2.5, then one more byte
pub numerals : (little_endian (3 ∷ 1 ∷ 2 ∷ []) ≡ 131331) × (decimal 4095 ≡ codes "4095") × (digits 16 4 0xf2a7 ≡ codes "f2a7")
    × (decoded 1 (0 ∷ 0 ∷ 0 ∷ 0 ∷ 0 ∷ 0 ∷ 4 ∷ 0x40 ∷ 9 ∷ []) ≡ fin false 5 (negsuc 0) ∷ [])
unfolding little_endian fmt.digits digits decoded
numerals = (refl, refl, refl, refl)
