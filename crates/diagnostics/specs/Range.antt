-- Document 01, "Dimension": always from 0 to the count. proofs/Range.antt proves it.
use Rattle.std.specs.Prelude.{◌≡◌, List, ℕ, T, length, Float}
use Rattle.std.specs.Float.Ieee.{le}
use Rattle.error.specs.Refusal.{value}
use Rattle.floats.specs.Arithmetic.{whole, zero⁺}
use Rattle.diagnostics.specs.Rates.{dimension}

-- x is a float from 0 to n
abbrev pub Within : Float → ℕ → Type 0
Within x n = T (le zero⁺ x) × T (le x (whole n))

-- of every list whose dimension d is answered
abbrev pub DimensionRange : Type 0
DimensionRange = (xs : List Float) (d : Float) → dimension xs ≡ value d → Within d (length xs)
