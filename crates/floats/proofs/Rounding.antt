-- Rounding to nearest, over whole numbers: the nearest whole number is at most a half away, and below 2 ^ -1022 a value is rounded to a whole number of units.
use mathlib.Core.Path.{◌≡◌, sym, ap, ◌∙◌, subst}
use mathlib.Core.Bool.{false, not}
use Prim.Native.Nat.{ℕ, suc, ◌+◌, ◌-◌, ◌*◌, ◌/◌, ◌%◌, ◌^◌, ◌≤◌, ◌<◌, compare, Ordering}
use native.Mathlib.Nat.{le_trans, le_of_eq, lt_of_le_of_lt, lt_of_not-le, add-mul, mul_assoc, mul_comm, mul-one, one-mul, suc-mul, mul-pos, mul-le-mul_right, zero-lt-suc, div-add-mod', mod-lt, div-lt_iff_lt-mul}
use native.Mathlib.Omega.{arith}
use native.Mathlib.Decide.{dec_le}
use lib.Dec.{T, is_le, compare_is_eq, eqb, leb→le, nleb→lt, eqb→eq, eqb_refl, lit<}
use lib.Arith.{lt_of_le-ne}
use lib.Pow.{pow_pos}
use lib.Ieee.{binary64, size, nearest, round}
use lib.Ieee.Digits.{size-le}
use lib.Ieee.Exact.{HasValue}
use lib.Ieee.Nearest.{closest}
use lib.Ieee.Order.{drop, kept}
use lib.Ieee.Scale.{grid, round_val, normal_of_rounded}
use Rattle.floats.proofs.Units.{U}

-- ---- the nearest whole number is at most a half away
abbrev Cmp : Ordering → ℕ → ℕ → Type 0
Cmp Ordering.lt a b = a < b
Cmp Ordering.eq a b = a ≡ b
Cmp Ordering.gt a b = b < a

cmp : (a b : ℕ) → Cmp (compare a b) a b
cmp a b = go (compare a b) (leb→le a b) (nleb→lt a b) (eqb→eq a b) (λ (e : a ≡ b). subst (λ (x : ℕ). T (eqb a x)) e (eqb_refl a))
  where
    go : (o : Ordering) → (T (is_le o) → a ≤ b) → (T (not (is_le o)) → b < a) → (T (compare_is_eq o) → a ≡ b) → (a ≡ b → T (compare_is_eq o)) → Cmp o a b
    go Ordering.lt h k e n = lt_of_le-ne (h tt) n
    go Ordering.eq h k e n = e tt
    go Ordering.gt h k e n = k tt

pub half_away : (a b : ℕ) → 0 < b → (2 * a ≤ 2 * (closest a b * b) + b) × (2 * (closest a b * b) ≤ 2 * a + b)
half_away a b B = go (compare (a % b * 2) b) (cmp (a % b * 2) b)
  where
    e : a / b * b + a % b ≡ a
    e = div-add-mod' a b

    l : a % b < b
    l = mod-lt a B

    up_one : suc (a / b) * b ≡ a / b * b + b
    up_one = suc-mul (a / b) b

    two_ways : (q : ℕ) → q < 2 → (2 * a ≤ 2 * (a / b * b) + b) → a % b * 2 ≡ b → (2 * a ≤ 2 * ((a / b + q) * b) + b) × (2 * ((a / b + q) * b) ≤ 2 * a + b)
    two_ways q h k m = let t : (a / b + q) * b ≡ a / b * b + q * b = add-mul (a / b) q b in let u : q * b ≤ b = le_trans (mul-le-mul_right b (lower q h)) (le_of_eq (one-mul b)) in (omega (arith, e), omega (arith, e))
      where
        lower : (q : ℕ) → q < 2 → q ≤ 1
        lower q h = omega arith

    go : (o : Ordering) → Cmp o (a % b * 2) b → (2 * a ≤ 2 * (nearest (a / b) o * b) + b) × (2 * (nearest (a / b) o * b) ≤ 2 * a + b)
    go Ordering.lt h = (omega (arith, e, l, up_one), omega (arith, e, l, up_one))
    go Ordering.eq h = two_ways (a / b % 2) (mod-lt (a / b) (zero-lt-suc 1)) (omega (arith, e)) h
    go Ordering.gt h = (omega (arith, e, l, up_one), omega (arith, e, l, up_one))

regroup : (q c t : ℕ) → q * (c * t) ≡ q * t * c
regroup q c t = ap (λ (z : ℕ). q * z) (mul_comm c t) ∙ sym (mul_assoc q t c)

-- ---- a / c, which is n / c units, and the rounded value, which is g / c units
module _ (a c : ℕ) (some : 0 < c) where
  abbrev n : ℕ
  n = a * U

  abbrev k : ℕ
  k = drop 53 n c

  abbrev g : ℕ
  g = grid binary64 a c * c

  away : (2 * n ≤ 2 * g + c * 2 ^ k) × (2 * g ≤ 2 * n + c * 2 ^ k)
  away =
      subst (λ (z : ℕ). (2 * n ≤ 2 * z + c * 2 ^ k) × (2 * z ≤ 2 * n + c * 2 ^ k)) (regroup (kept 53 n c) c (2 ^ k)) (half_away n (c * 2 ^ k) (mul-pos some (pow_pos k)))

  -- below 2 ^ -1022, which is 2 ^ 52 units, no digit is dropped
  module _ (low : n < 2 ^ 52 * c) where
    few : size (n / c) ≤ 52
    few = size-le (n / c) 52 ((div-lt_iff_lt-mul some).1 low)

    pub rounded_subnormal : (2 * n ≤ 2 * g + c) × (2 * g ≤ 2 * n + c)
    rounded_subnormal = subst (λ (z : ℕ). (2 * n ≤ 2 * g + z) × (2 * g ≤ 2 * n + z)) (ap (λ (z : ℕ). c * 2 ^ z) (none (size (n / c)) few) ∙ mul-one c) away
      where
        none : (z : ℕ) → z ≤ 52 → z - 53 ≡ 0
        none z h = omega arith

    pub round_value_subnormal : HasValue (round binary64 false a c) false (grid binary64 a c) U
    round_value_subnormal = round_val binary64 a c (lt_of_le_of_lt small (lit< tt))
      where
        over : (z : ℕ) → z ≤ 52 → 53 ≤ z → ⊥
        over z h l = omega arith

        small : grid binary64 a c ≤ 2 ^ 52
        small = elim (dec_le (grid binary64 a c) (2 ^ 52)) [ yes h ↦ h | no h ↦ absurd (over (size (n / c)) few (normal_of_rounded binary64 a c (lt_of_not-le h))) ]
