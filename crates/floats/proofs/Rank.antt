-- The code's pattern and rank of one float.
use mathlib.Core.Path.{◌≡◌, refl, sym, ap, ◌∙◌}
use mathlib.Core.Bool.{true}
use Prim.Native.Nat.{ℕ, ◌+◌, ◌-◌, ◌^◌, ◌≤◌, ◌<◌}
use lib.Ieee.{Float, nan, binary64, ne, to_bits}
use lib.Ieee.Compare.{differs_from_itself}
use borrow.Author.Tests.{lt-ltb, le-ltb}
use Rattle.floats.specs.TotalOrder.{rank}
use Rattle.floats.proofs.Zero.{of_true}

-- ---- a pattern
nan_pattern : 0x7ff8_0000_0000_0000 ≡ to_bits binary64 nan
unfolding to_bits
nan_pattern = refl

pub nan_bits : (x : Float) → ne x x ≡ true → 0x7ff8_0000_0000_0000 ≡ to_bits binary64 x
nan_bits x h = nan_pattern ∙ ap (to_bits binary64) (sym (differs_from_itself x (of_true h)))

-- ---- the rank
pub rank_clear : (x : Float) (b : ℕ) → b ≡ to_bits binary64 x → b < 2 ^ 63 → b + 2 ^ 63 ≡ rank x
unfolding rank
rank_clear x b e h = rw (← e) (rw (lt-ltb b (2 ^ 63) h) refl)

pub rank_set : (x : Float) (b : ℕ) → b ≡ to_bits binary64 x → 2 ^ 63 ≤ b → 2 ^ 64 - 1 - b ≡ rank x
unfolding rank
rank_set x b e h = rw (← e) (rw (le-ltb b (2 ^ 63) h) refl)
