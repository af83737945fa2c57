-- A list at the front of an array of 16, and zeros behind it.
use Prim.Native.Nat.{ℕ, ◌-◌, ◌≤◌}
use mathlib.Core.Path.{◌≡◌}
use mathlib.Core.List.{List, ◌++◌}
use lib.ListN.{length, take, drop, replicate}
use lib.Seq.{take_at}
use lib.Ieee.{Float}
use Rattle.floats.specs.Arithmetic.{zero⁺}
use Rattle.floats.proofs.Sets.{drop_replicate}
use Rattle.system.specs.Array.{in16}

-- L written over zeros
pub in16_drop : (L : List Float) (d : ℕ) → length L ≡ d → d ≤ 16 → L ++ drop d (replicate 16 zero⁺) ≡ in16 L
in16_drop L d e h = rw (drop_replicate zero⁺ d 16 h, e)

pub in16_take : (L : List Float) (d : ℕ) → length L ≡ d → take d (in16 L) ≡ L
in16_take L d e = take_at L (replicate (16 - length L) zero⁺) d e
