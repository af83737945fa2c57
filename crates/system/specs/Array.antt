-- A vector at the front of an array of 16, as the code holds it. Definitions only.
use Rattle.std.specs.Prelude.{◌-◌, List, ◌++◌, length, replicate, Float}
use Rattle.floats.specs.Arithmetic.{zero⁺}

-- an array of 16 that holds l, and zeros behind it
abbrev pub in16 : List Float → List Float
in16 l = l ++ replicate (16 - length l) zero⁺
