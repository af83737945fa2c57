-- Document 01, "Draw": with n the top 53 bits, the draw is exactly (n - 2 ^ 52) / 2 ^ 52, so at least -1 and below 1. proofs/Exact.antt and proofs/Range.antt prove both.
use Rattle.std.specs.Prelude.{ℕ, suc, ◌/◌, ◌^◌, ◌<◌, true, false, T, ℤ, pos, negsuc, ◌-ℤ◌, Float}
use Rattle.std.specs.Float.{fin}
use Rattle.std.specs.Float.Ieee.{le, lt}
use Rattle.std.specs.Float.Ieee.Exact.{HasValue}
use Rattle.splitmix64.specs.Mix.{unit}

-- x is the number z / c
abbrev pub Exactly : Float → ℤ → ℕ → Type 0
Exactly x (pos a) c = HasValue x false a c
Exactly x (negsuc a) c = HasValue x true (suc a) c

-- of every 64-bit value v
abbrev pub ExactDraw : Type 0
ExactDraw = (v : ℕ) → v < 2 ^ 64 → Exactly (unit v) (pos (v / 2 ^ 11) -ℤ pos (2 ^ 52)) (2 ^ 52)

abbrev pub minus_one : Float
minus_one = fin true 1 (pos 0)

abbrev pub one : Float
one = fin false 1 (pos 0)

-- at least -1 and below 1
abbrev pub InRange : Float → Type 0
InRange x = T (le minus_one x) × T (lt x one)

abbrev pub DrawRange : Type 0
DrawRange = (v : ℕ) → v < 2 ^ 64 → InRange (unit v)
