-- A value that is finite and above zero: its pattern is not 0 and below the infinity's.
use mathlib.Core.Path.{◌≡◌, refl, sym, ap, ◌∙◌, subst}
use mathlib.Core.Bool.{false, not, true≢false}
use Prim.Native.Nat.{ℕ, zero, suc, ◌+◌, ◌-◌, ◌*◌, ◌/◌, ◌^◌, ◌≤◌, ◌<◌}
use native.Mathlib.Nat.{le_of_eq, lt_of_lt_of_le, mul-div_cancel, div-one, zero-add}
use native.Mathlib.Omega.{arith}
use lib.IntN.{ℤ}
use lib.Dec.{T}
use lib.Ieee.{Float, nan, inf, fin, binary64, up, down, size, fits, is_nan, ne, to_bits}
use lib.Ieee.Fits.{down_pos, kept-lt}
use lib.Ieee.Digits.{size-le}
use Rattle.floats.proofs.Pattern.{units_pattern, pattern_of}
use Rattle.floats.proofs.Units.{U, few_digits, under_end_of, some_of}

-- x is finite and above zero
pub data Ordinary : Float → Type 0 where
  ordinary : (m : ℕ) (e : ℤ) → Ordinary (fin false (suc m) e)

-- a value that equals itself is no NaN
pub equal_no_nan : (x : Float) → ne x x ≡ false → T (not (is_nan x))
unfolding ne is_nan
equal_no_nan nan e = absurd (true≢false e)
equal_no_nan (inf s) e = tt
equal_no_nan (fin s m k) e = tt

pub ordinary_no_nan : {x : Float} → Ordinary x → T (not (is_nan x))
unfolding is_nan
ordinary_no_nan (ordinary m e) = tt

-- ---- its pattern
pattern_at : (n : ℕ) → 0 < n → n < 2 ^ 2098 → (0 < units_pattern n) × (units_pattern n < 0x7ff0_0000_0000_0000)
pattern_at n some fine = (go (size n - 53) refl, hi (size n) (n / 2 ^ (size n - 53)) (kept-lt 53 n) (size-le n 2098 fine))
  where
    hi : (z q : ℕ) → q < 2 ^ 53 → z ≤ 2098 → 0 + (z - 53) * 2 ^ 52 + q < 0x7ff0_0000_0000_0000
    hi z q l h = omega arith

    go : (k : ℕ) → size n - 53 ≡ k → 0 < 0 + k * 2 ^ 52 + n / 2 ^ k
    go zero e = lt_of_lt_of_le some (le_of_eq (sym (zero-add (n / 1) ∙ div-one n)))
    go (suc k) e = omega arith

pub ordinary_pattern : {x : Float} → T (fits binary64 x) → Ordinary x → (0 < to_bits binary64 x) × (to_bits binary64 x < 0x7ff0_0000_0000_0000)
ordinary_pattern f (ordinary m e) =
    let d = few_digits (fin false (suc m) e) f tt in
    let X = d.0 * 2 ^ d.1 in
    let n : suc m * up e * U / down e ≡ X = ap (λ (z : ℕ). z / down e) d.3.1 ∙ mul-div_cancel X (down_pos e) in
    subst (λ (b : ℕ). (0 < b) × (b < 0x7ff0_0000_0000_0000)) (sym (pattern_of (suc m) e))
    (subst (λ (z : ℕ). (0 < units_pattern z) × (units_pattern z < 0x7ff0_0000_0000_0000)) (sym n)
    (pattern_at X (some_of m e X d.3.1) (under_end_of m e X f d.3.1)))
