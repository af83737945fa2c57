-- Document 01, "Logarithm": z = m * 2 ^ k with m in its range is possible, and in one way only. proofs/Split.antt and proofs/SplitUnique.antt prove it.
use Rattle.std.specs.Prelude.{◌≡◌, T, ℤ, Float}
use Rattle.std.specs.Float.{binary64}
use Rattle.std.specs.Float.Ieee.{fits}
use Rattle.ln.specs.Logarithm.{normal, Split, significand, power}

-- of every positive normal z, the definition's m and k
abbrev pub SplitExists : Type 0
SplitExists = (z : Float) → T (fits binary64 z) → T (normal z) → T (fits binary64 (significand z)) × Split z (significand z) (power z)

-- of any z, two values m and w of binary64 with two powers k and l
abbrev pub SplitUnique : Type 0
SplitUnique = (z m w : Float) (k l : ℤ) → T (fits binary64 m) → T (fits binary64 w) → Split z m k → Split z w l → (m ≡ w) × (k ≡ l)
