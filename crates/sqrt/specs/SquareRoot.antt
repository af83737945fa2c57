-- IEEE 754's squareRoot on binary64, rounded to nearest: `root`, which computes, and `IsRoot`, which says over whole numbers what it has to be. Definitions only.
use Rattle.std.specs.Prelude.{◌≡◌, true, false, cond, ℕ, zero, suc, ◌+◌, ◌*◌, ◌/◌, ◌^◌, ◌<◌, T, leb, Float}
use Rattle.std.specs.Float.{nan, inf, fin, binary64}
use Rattle.std.specs.Float.Ieee.{up, down, size, round, fits, lt}
use Rattle.std.specs.Float.Ieee.Positive.{num, den}
use Rattle.floats.specs.Magnitude.{sign_clear}

-- ---- the whole square root

-- of n with s the root of n / 4: twice s or one more
unfoldable pub next_root : ℕ → ℕ → ℕ
next_root s n = cond (leb ((2 * s + 1) * (2 * s + 1)) n) (2 * s + 1) (2 * s)

-- the largest s with s * s ≤ n, for an n below 4 ^ k
unfoldable pub root_in : ℕ → ℕ → ℕ
unfolding next_root
root_in zero n = 0
root_in (suc k) n = next_root (root_in k (n / 4)) n

unfoldable pub whole_root : ℕ → ℕ
unfolding root_in size
whole_root n = root_in (size n) n

-- ---- the root of a float
-- x is n * 2 ^ -2148 for a whole n, so its root is that of n times 2 ^ -1074, at least 2 ^ -537. It lies from s * 2 ^ -1074 up to below (s + 1) * 2 ^ -1074.
-- It has at least 538 binary digits before the end of s, so no value of the format and no middle of two lies inside that stretch, and its lower end is no middle. So every number inside rounds to what the root rounds to.
-- `round` is handed the stretch's middle.
unfoldable pub root : Float → Float
unfolding whole_root round
root nan = nan
root (inf true) = nan
root (inf false) = inf false
root (fin s zero e) = fin s zero e
root (fin true (suc m) e) = nan
root (fin false (suc m) e) = round binary64 false (2 * whole_root (suc m * up e * 2 ^ 2148 / down e) + 1) (2 ^ 1075)

-- ---- what the standard asks
-- (r + y) ^ 2 < 4 * x and 4 * x < (r + y) ^ 2, for finite values that are not negative, with the denominators multiplied out
abbrev pub sum_square : Float → Float → Float → ℕ
sum_square x r y = (num r * den y + num y * den r) * (num r * den y + num y * den r) * den x

abbrev pub four_times : Float → Float → Float → ℕ
four_times x r y = 4 * num x * (den r * den y * (den r * den y))

-- r is the value of the format that is nearest to the root of x: the root is on r's side of the middle of r and any other value
pub record Closest (x r : Float) : Type 0 where
  pub held : T (fits binary64 r)
  pub finite : T (sign_clear r)
  pub above : (y : Float) → T (fits binary64 y) → T (sign_clear y) → T (lt y r) → sum_square x r y < four_times x r y
  pub below : (y : Float) → T (fits binary64 y) → T (sign_clear y) → T (lt r y) → four_times x r y < sum_square x r y

abbrev pub IsRoot : Float → Float → Type 0
IsRoot nan r = r ≡ nan
IsRoot (inf true) r = r ≡ nan
IsRoot (inf false) r = r ≡ inf false
IsRoot (fin s zero e) r = r ≡ fin s zero e
IsRoot (fin true (suc m) e) r = r ≡ nan
IsRoot (fin false (suc m) e) r = Closest (fin false (suc m) e) r

-- ---- for the code's steps: x is a * 2 ^ (p - 2096)
abbrev pub Scaled : ℕ → ℕ → Float → Type 0
Scaled a p x = T (sign_clear x) × (num x * 2 ^ 2096 ≡ a * 2 ^ p * den x)
