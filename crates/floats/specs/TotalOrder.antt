-- The order of `total_cmp`. Definitions only.
use Rattle.std.specs.Prelude.{cond, ℕ, ◌+◌, ◌-◌, ◌^◌, ltb, Float}
use Rattle.std.specs.Float.{binary64}
use Rattle.std.specs.Float.Ieee.{to_bits}

-- The place of x among the floats, which is all that `total_cmp` compares: a pattern with the sign clear stands above 2 ^ 63 by as much as it says, one with the sign set stands below by as much.
-- So +0.0 stands at 2 ^ 63 and -0.0 one below.
unfoldable pub rank : Float → ℕ
unfolding to_bits
rank x = let b = to_bits binary64 x in cond (ltb b (2 ^ 63)) (b + 2 ^ 63) (2 ^ 64 - 1 - b)
