-- Document 01, "Draw": SplitMix64 and the draw that is made of an output. Definitions only.
use Rattle.std.specs.Prelude.{ℕ, suc, ◌+◌, ◌*◌, ◌/◌, ◌%◌, ◌^◌, true, false, ℤ, pos, negsuc, ◌-ℤ◌, bit_xor, Float}
use Rattle.std.specs.Float.{binary64}
use Rattle.std.specs.Float.Ieee.{round}
use Rattle.splitmix64.specs.declared.SplitMix64.{SplitMix64}

-- the state after s
abbrev pub next_state : ℕ → ℕ
next_state s = (s + 0x9e3779b97f4a7c15) % 2 ^ 64

-- v xor (v shifted right k)
unfoldable pub xor_shifted : ℕ → ℕ → ℕ
xor_shifted k v = bit_xor v (v / 2 ^ k)

-- the output of a state
unfoldable pub mix : ℕ → ℕ
unfolding xor_shifted
mix s =
    let a = xor_shifted 30 s * 0xbf58476d1ce4e5b9 % 2 ^ 64 in
    let b = xor_shifted 27 a * 0x94d049bb133111eb % 2 ^ 64 in
    xor_shifted 31 b

-- z / c, rounded
abbrev pub fraction : ℤ → ℕ → Float
fraction (pos a) c = round binary64 false a c
fraction (negsuc a) c = round binary64 true (suc a) c

-- with n the top 53 bits of v, (n - 2 ^ 52) / 2 ^ 52
unfoldable pub unit : ℕ → Float
unit v = fraction (pos (v / 2 ^ 11) -ℤ pos (2 ^ 52)) (2 ^ 52)

-- ---- the generator: the one that is left, and what is drawn

abbrev pub generator : ℕ → SplitMix64
generator s = record { state = s }

abbrev pub next_u64 : SplitMix64 → SplitMix64 × ℕ
next_u64 g = let s = next_state g.state in (generator s, mix s)

abbrev pub symmetric_unit : SplitMix64 → SplitMix64 × Float
symmetric_unit g = let s = next_state g.state in (generator s, unit (mix s))
