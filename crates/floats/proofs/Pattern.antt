-- Bit patterns with the sign clear, and their values in units of the format's smallest one.
use Prim.Native.Nat.{ℕ, zero, suc, ◌+◌, ◌-◌, ◌*◌, ◌/◌, ◌%◌, ◌^◌, ◌≤◌, ◌<◌}
use native.Mathlib.Nat.{zero-add, eq-or-lt_of_le, mul_assoc, mul_comm, mod-eq_of_lt, pow-suc}
use native.Mathlib.Omega.{arith}
use mathlib.Core.Path.{◌≡◌, refl, sym, ap, ◌∙◌, subst}
use mathlib.Core.Logic.{◌⊎◌, inl, inr}
use mathlib.Core.Bool.{Bool, false, not, cond}
use borrow.Author.Tests.{le-ltb}
use lib.Dec.{T, leb, eqb, not_T, eqb→eq, lit<}
use lib.Arith.{lt→nleb, digits_lt, digits_div, digits_mod}
use lib.IntN.{ℤ}
use lib.Ieee.{Float, nan, inf, fin, binary64, up, down, size, odd, of_fields, of_bits, to_bits, nan_bits}
use lib.Ieee.Bits.{is_false, cond_no, nan_bits_above}
use lib.Ieee.Exact.{HasValue, odd_sign}
use Rattle.floats.proofs.Units.{U}

-- ---- the pattern of a value of n units with the sign clear
abbrev pub units_pattern : ℕ → ℕ
units_pattern n = 0 + (size n - 53) * 2 ^ 52 + n / 2 ^ (size n - 53)

pub pattern_of : (m : ℕ) (e : ℤ) → to_bits binary64 (fin false m e) ≡ units_pattern (m * up e * U / down e)
unfolding to_bits
pattern_of m e = refl

-- ---- the value of a pattern
opened : (b : ℕ) → of_bits binary64 b ≡ of_fields binary64 (leb (2 ^ 63) b) (b % 2 ^ 63 / 2 ^ 52) (b % 2 ^ 52)
unfolding of_bits
opened b = refl

pub fields : (E t : ℕ) → E < 2048 → t < 2 ^ 52 → of_bits binary64 (E * 2 ^ 52 + t) ≡ of_fields binary64 false E t
fields E t h l =
    let b = E * 2 ^ 52 + t in
    let small : b < 2 ^ 63 = digits_lt {q = E} {m = 2048} h l in
    opened b
    ∙ ap (λ (s : Bool). of_fields binary64 s (b % 2 ^ 63 / 2 ^ 52) (b % 2 ^ 52)) (is_false (leb (2 ^ 63) b) (lt→nleb (2 ^ 63) b small))
    ∙ ap (λ (z : ℕ). of_fields binary64 false (z / 2 ^ 52) (b % 2 ^ 52)) (mod-eq_of_lt small)
    ∙ ap (λ (z : ℕ). of_fields binary64 false z (b % 2 ^ 52)) (digits_div E l)
    ∙ ap (λ (z : ℕ). of_fields binary64 false E z) (digits_mod E l)

pub one_digit_more : (a i : ℕ) → a * 2 ^ suc i ≡ a * 2 * 2 ^ i
one_digit_more a i = ap (λ (z : ℕ). a * z) (pow-suc 2 i ∙ mul_comm (2 ^ i) 2) ∙ sym (mul_assoc a 2 (2 ^ i))

normal_fields : (x t : ℕ) → suc x < 2047 → HasValue (of_fields binary64 false (suc x) t) false ((2 ^ 52 + t) * 2 ^ x) U
unfolding of_fields
normal_fields x t h =
    subst (λ (v : Float). HasValue v false ((2 ^ 52 + t) * 2 ^ x) U)
    (sym (cond_no (eqb (suc x) 2047) (cond (eqb t 0) (inf false) nan) (odd 53 false (2 ^ 52 + t) x 1074) (not_T (eqb (suc x) 2047) (λ e. below (suc x) h (eqb→eq (suc x) 2047 e)))))
    (odd_sign 53 false (2 ^ 52 + t) x 1074)
  where
    below : (n : ℕ) → n < 2047 → n ≡ 2047 → ⊥
    below n h e = omega arith

subnormal_fields : (t : ℕ) → HasValue (of_fields binary64 false zero t) false (t * 2 ^ 0) U
unfolding of_fields
subnormal_fields t = odd_sign 53 false t 0 1074

pub normal_value : (x t : ℕ) → suc x < 2047 → t < 2 ^ 52 → HasValue (of_bits binary64 (suc x * 2 ^ 52 + t)) false ((2 ^ 52 + t) * 2 ^ x) U
normal_value x t h l = subst (λ (v : Float). HasValue v false ((2 ^ 52 + t) * 2 ^ x) U) (sym (fields (suc x) t (more (suc x) h) l)) (normal_fields x t h)
  where
    more : (n : ℕ) → n < 2047 → n < 2048
    more n h = omega arith

pub subnormal_value : (t : ℕ) → t < 2 ^ 52 → HasValue (of_bits binary64 t) false (t * 2 ^ 0) U
subnormal_value t l = subst (λ (v : Float). HasValue v false (t * 2 ^ 0) U) (sym (ap (of_bits binary64) (sym (zero-add t)) ∙ fields 0 t (lit< tt) l)) (subnormal_fields t)

-- k * 2 ^ 52 + q, for a q of 53 digits or the next one, is q * 2 ^ k units: q's leading digit adds one to the exponent's field, and where q is 2 ^ 53 it adds two
pub carried_value : (k q : ℕ) → 2 ^ 52 ≤ q → q ≤ 2 ^ 53 → k < 2045 → HasValue (of_bits binary64 (k * 2 ^ 52 + q)) false (q * 2 ^ k) U
carried_value k q lo hi h = go (eq-or-lt_of_le hi)
  where
    one : (q : ℕ) → 2 ^ 52 ≤ q → 2 ^ 52 + (q - 2 ^ 52) ≡ q
    one q l = omega arith

    less : (q : ℕ) → 2 ^ 52 ≤ q → q < 2 ^ 53 → q - 2 ^ 52 < 2 ^ 52
    less q l m = omega arith

    sum_one : (k q : ℕ) → 2 ^ 52 ≤ q → suc k * 2 ^ 52 + (q - 2 ^ 52) ≡ k * 2 ^ 52 + q
    sum_one k q l = omega arith

    sum_two : (k : ℕ) → suc (suc k) * 2 ^ 52 + 0 ≡ k * 2 ^ 52 + 2 ^ 53
    sum_two k = omega arith

    in_one : (k : ℕ) → k < 2045 → suc k < 2047
    in_one k h = omega arith

    in_two : (k : ℕ) → k < 2045 → suc (suc k) < 2047
    in_two k h = omega arith

    go : (q ≡ 2 ^ 53) ⊎ (q < 2 ^ 53) → HasValue (of_bits binary64 (k * 2 ^ 52 + q)) false (q * 2 ^ k) U
    go (inl e) =
        subst (λ (z : ℕ). HasValue (of_bits binary64 (k * 2 ^ 52 + z)) false (z * 2 ^ k) U) (sym e)
        (subst (λ (z : ℕ). HasValue (of_bits binary64 z) false (2 ^ 53 * 2 ^ k) U) (sum_two k)
        (subst (λ (z : ℕ). HasValue (of_bits binary64 (suc (suc k) * 2 ^ 52 + 0)) false z U) (one_digit_more (2 ^ 52) k) (normal_value (suc k) 0 (in_two k h) (lit< tt))))
    go (inr l) =
        subst (λ (z : ℕ). HasValue (of_bits binary64 z) false (q * 2 ^ k) U) (sum_one k q lo)
        (subst (λ (z : ℕ). HasValue (of_bits binary64 (suc k * 2 ^ 52 + (q - 2 ^ 52))) false (z * 2 ^ k) U) (one q lo) (normal_value k (q - 2 ^ 52) (in_one k h) (less q lo l)))

-- a pattern that is not above the infinity's but for its sign, or that is below it, is no NaN's
pub no_nan_pattern : (u : ℕ) → u % 2 ^ 63 ≤ 0x7ff0_0000_0000_0000 → T (not (nan_bits binary64 u))
no_nan_pattern u h = subst (λ (b : Bool). T (not b)) (sym (nan_bits_above binary64 u ∙ le-ltb 0x7ff0_0000_0000_0000 (u % 2 ^ 63) h)) tt

pub no_nan_under : (b : ℕ) → b < 0x7ff0_0000_0000_0000 → T (not (nan_bits binary64 b))
no_nan_under b h = no_nan_pattern b (omega arith)
