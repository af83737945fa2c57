-- Floats from bytes. Definitions only.
use Rattle.std.specs.Prelude.{List, [], ◌∷◌, ℕ, zero, suc, ◌+◌, ◌*◌, take, drop, Float}
use Rattle.std.specs.Float.{binary64}
use Rattle.std.specs.Float.Ieee.{of_bits}

-- a number from its bytes, the lowest first
unfoldable pub little_endian : List ℕ → ℕ
little_endian [] = 0
little_endian (b ∷ bs) = b + 256 * little_endian bs

-- n floats from eight bytes each: binary64, little-endian
unfoldable pub decoded : ℕ → List ℕ → List Float
unfolding little_endian of_bits
decoded zero bs = []
decoded (suc n) bs = of_bits binary64 (little_endian (take 8 bs)) ∷ decoded n (drop 8 bs)
