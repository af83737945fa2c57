-- Document 01, "Root": IEEE 754's words have one solution, and `root` is it; and the root of a positive value is far from a collapse. proofs/Meets.antt, proofs/Unique.antt and proofs/Positive.antt prove it.
use Rattle.std.specs.Prelude.{◌≡◌, T, Float}
use Rattle.std.specs.Float.{binary64}
use Rattle.std.specs.Float.Ieee.{fits, lt}
use Rattle.std.specs.Float.Ieee.Scale.{finite}
use Rattle.floats.specs.Arithmetic.{least_normal}
use Rattle.floats.specs.Finite.{positive}
use Rattle.sqrt.specs.SquareRoot.{root, IsRoot}

abbrev pub RootIs : Type 0
RootIs = (x : Float) → T (fits binary64 x) → IsRoot x (root x)

abbrev pub RootUnique : Type 0
RootUnique = (x r q : Float) → IsRoot x r → IsRoot x q → r ≡ q

-- of a value that is finite and above 0: above 2 ^ -1022 and finite
abbrev pub RootOfPositive : Type 0
RootOfPositive = (x : Float) → T (fits binary64 x) → T (positive x) → T (lt least_normal (root x)) × T (finite (root x))
