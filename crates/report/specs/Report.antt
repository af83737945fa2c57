-- The text for an input: document 01, "Program `spectrum`". Definitions only.
use Rattle.std.specs.Prelude.{cond, List, ◌++◌, ℕ, ◌/◌, ◌%◌, ltb, eqb, length, codes, decimal, Float, Result, Ok, Err}
use Rattle.std.specs.Fmt as fmt
use Rattle.std.specs.Float.{binary64}
use Rattle.std.specs.Float.Ieee.{to_bits}
use Rattle.error.specs.declared.LyapunovError.{LyapunovError}
use Rattle.error.specs.declared.Refusal.{Refusal}
use Rattle.error.specs.Refusal.{Answer, value, refused, refuse, refusal}
use Rattle.diagnostics.specs.Rates.{dimension, entropy}
use Rattle.report.specs.Bytes.{decoded}
use Rattle.report.specs.Digits.{digits}

-- a bit pattern as a line: 16 hexadecimal digits and the line's end
unfoldable pub line : ℕ → List ℕ
unfolding digits
line n = digits 16 16 n ++ codes "\n"

-- the line of the dimension, then that of the entropy
unfoldable pub values_text : Float → Float → List ℕ
unfolding line to_bits
values_text d e = line (to_bits binary64 d) ++ line (to_bits binary64 e)

-- `refused N P`, number and place in decimal
unfoldable pub refusal_text : Refusal → List ℕ
unfolding fmt.digits
refusal_text r = codes "refused " ++ decimal r.number ++ codes " " ++ decimal r.place ++ codes "\n"

-- both values, or the first refusal
abbrev pub diagnostics_text : Answer Float → Answer Float → List ℕ
diagnostics_text (value d) (value e) = values_text d e
diagnostics_text (value d) (refused r) = refusal_text r
diagnostics_text (refused r) e = refusal_text r

unfoldable pub exponents_text : List Float → List ℕ
unfolding values_text refusal_text dimension entropy
exponents_text xs = diagnostics_text (dimension xs) (entropy xs)

-- 21 above 2,048 bytes, 23 not a multiple of 8; else the text for the exponents
unfoldable pub output : List ℕ → List ℕ
unfolding exponents_text decoded refusal_text
output bs =
    cond (ltb 2048 (length bs)) (refusal_text (refuse 21 0))
    (cond (eqb (length bs % 8) 0) (exponents_text (decoded (length bs / 8) bs))
    (refusal_text (refuse 23 0)))

-- the text for what the code answers: the dimension and the entropy, or what is refused
abbrev pub text : Result (Float × Float) LyapunovError → List ℕ
text (Ok v) = values_text v.0 v.1
text (Err e) = refusal_text (refusal e)
