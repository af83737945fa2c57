-- `significand` and `power` are the m and the k of the steps: z = m * 2 ^ k, with m's high word in its range.
use mathlib.Core.Path.{◌≡◌, refl, sym, ap, ◌∙◌, subst}
use mathlib.Core.Bool.{Bool, true, false, not, cond}
use Prim.Native.Nat.{ℕ, zero, suc, ◌+◌, ◌-◌, ◌*◌, ◌/◌, ◌%◌, ◌^◌, ◌≤◌, ◌<◌}
use native.Mathlib.Nat.{zero-lt-suc, le_trans, le_of_eq, mul-one, mul_assoc, mul_comm, mul_left_comm, eq_of_mul-eq-mul_right, le_of_mul-le-mul_right, div-one, zero-add, mod-lt, mul-div_cancel}
use native.Mathlib.Omega.{arith}
use native.Mathlib.Decide.{dec_le}
use lib.IntN.{pos, negsuc, ◌-ℤ◌}
use lib.Dec.{T, ltb, ltb→lt, lt→ltb, nltb→le}
use lib.Pow.{pow_pos, pow-add}
use lib.Ieee.{Float, inf, fin, binary64, up, down, size, fits, le, lt, to_bits, of_bits}
use lib.Ieee.Bits.{of_bits-fits, of_bits-to_bits, to_bits-of_bits, nan_bits_is}
use lib.Ieee.Fits.{and_l, down_pos}
use lib.Ieee.Exact.{HasValue}
use lib.Ieee.Positive.{num, den, value→cross, values_of_le}
use Rattle.floats.proofs.Units.{U, few_digits}
use Rattle.floats.proofs.Pattern.{units_pattern, pattern_of, normal_value, no_nan_under}
use Rattle.floats.proofs.Ordinary.{Ordinary, ordinary, ordinary_pattern}
use Rattle.floats.specs.Arithmetic.{least_normal}
use Rattle.ln.specs.Logarithm.{normal, offset_bits, significand, power, Split}
use Rattle.ln.specs.OneSplit.{SplitExists}
use Rattle.ln.proofs.Normal.{normal_ordinary}

-- ---- 2 ^ (n - 1023), where n + f = e + 1023
power_of : (n e f : ℕ) → n + f ≡ e + 1023 → 2 ^ e * down (pos n -ℤ pos 1023) ≡ 2 ^ f * up (pos n -ℤ pos 1023)
power_of n e f h = go (ltb n 1023) (ltb→lt n 1023) (nltb→le n 1023)
  where
    under : (n e f : ℕ) → n + f ≡ e + 1023 → n < 1023 → e + suc (1023 - suc n) ≡ f
    under n e f h l = omega arith

    over : (n e f : ℕ) → n + f ≡ e + 1023 → 1023 ≤ n → e ≡ f + (n - 1023)
    over n e f h l = omega arith

    go : (t : Bool) → (T t → n < 1023) → (T (not t) → 1023 ≤ n) → 2 ^ e * down (cond t (negsuc (1023 - suc n)) (pos (n - 1023))) ≡ 2 ^ f * up (cond t (negsuc (1023 - suc n)) (pos (n - 1023)))
    go true a b = sym (pow-add 2 e (suc (1023 - suc n))) ∙ ap (λ (z : ℕ). 2 ^ z) (under n e f h (a tt)) ∙ sym (mul-one (2 ^ f))
    go false a b = mul-one (2 ^ e) ∙ ap (λ (z : ℕ). 2 ^ z) (over n e f h (b tt)) ∙ pow-add 2 f (n - 1023)

-- ---- from units to the fraction
pub last_first : (a b c u : ℕ) → a * b * c * u ≡ a * u * (b * c)
last_first a b c u = simp (mul_assoc, mul_comm, mul_left_comm)

ratio : (nz dz nm dm s u d e f : ℕ) → nz * U ≡ s * 2 ^ e * dz → nm * U ≡ s * 2 ^ f * dm → 2 ^ e * d ≡ 2 ^ f * u → nz * dm * d ≡ nm * u * dz
ratio nz dz nm dm s u d e f p q h =
    eq_of_mul-eq-mul_right U (pow_pos 1074) (nz * dm * d) (nm * u * dz)
    (last_first nz dm d U ∙ ap (λ (x : ℕ). x * (dm * d)) p ∙ mid s (2 ^ e) dz dm d ∙ ap (λ (x : ℕ). s * x * (dz * dm)) h ∙ mid₂ s (2 ^ f) u dz dm ∙ ap (λ (x : ℕ). x * (u * dz)) (sym q) ∙ sym (last_first nm u dz U))
  where
    mid : (s x dz dm d : ℕ) → s * x * dz * (dm * d) ≡ s * (x * d) * (dz * dm)
    mid s x dz dm d = simp (mul_assoc, mul_comm, mul_left_comm)

    mid₂ : (s x u dz dm : ℕ) → s * (x * u) * (dz * dm) ≡ s * x * dm * (u * dz)
    mid₂ s x u dz dm = simp (mul_assoc, mul_comm, mul_left_comm)

-- ---- a normal value's pattern is 2 ^ 52 at least
pattern_at : (n : ℕ) → 2 ^ 52 ≤ n → 2 ^ 52 ≤ units_pattern n
pattern_at n h = go (size n - 53)
  where
    go : (k : ℕ) → 2 ^ 52 ≤ 0 + k * 2 ^ 52 + n / 2 ^ k
    go zero = le_trans h (le_of_eq (sym (zero-add (n / 1) ∙ div-one n)))
    go (suc k) = omega arith

pattern_ge : {z : Float} → T (fits binary64 z) → Ordinary z → T (le least_normal z) → 2 ^ 52 ≤ to_bits binary64 z
pattern_ge f (ordinary m e) l =
    let z = fin false (suc m) e in
    let d = few_digits z f tt in
    let X = d.0 * 2 ^ d.1 in
    let n : suc m * up e * U / down e ≡ X = ap (λ (y : ℕ). y / down e) d.3.1 ∙ mul-div_cancel X (down_pos e) in
    let big : 2 ^ 52 ≤ X = le_of_mul-le-mul_right (values_of_le least_normal z (2 ^ 52) U X U tt (lt→ltb 0 (suc m) (zero-lt-suc m)) (refl, refl) d.3 l) (pow_pos 1074) in
    subst (λ (b : ℕ). 2 ^ 52 ≤ b) (sym (pattern_of (suc m) e ∙ ap units_pattern n)) (pattern_at X big)

-- ---- the two cases: the exponent's field of m is 1023, or 1022 where the digits t reach 6a09e
pub record Fields (b : ℕ) : Type 0 where
  pub e : ℕ
  pub f : ℕ
  pub own : suc e * 2 ^ 52 + b % 2 ^ 52 ≡ b
  pub own_in : suc e < 2047
  pub of_significand : suc f * 2 ^ 52 + b % 2 ^ 52 ≡ (b + 0x95f62 * 2 ^ 32) % 2 ^ 52 + 0x3fe6a09e * 2 ^ 32
  pub significand_in : suc f < 2047
  pub apart : (b + 0x95f62 * 2 ^ 32) / 2 ^ 52 + f ≡ e + 1023

fields : (b : ℕ) → 2 ^ 52 ≤ b → b < 0x7ff0_0000_0000_0000 → Fields b
fields b lo hi = elim (dec_le (0x6a09e * 2 ^ 32) (b % 2 ^ 52)) [
  | yes g ↦ record { e = b / 2 ^ 52 - 1; f = 1021; own = omega arith; own_in = omega arith; of_significand = omega arith; significand_in = omega arith; apart = omega arith }
  | no g ↦ record { e = b / 2 ^ 52 - 1; f = 1022; own = omega arith; own_in = omega arith; of_significand = omega arith; significand_in = omega arith; apart = omega arith }
]

module _ (z : Float) (held : T (fits binary64 z)) (h : T (normal z)) where
  abbrev b : ℕ
  b = to_bits binary64 z

  abbrev n : ℕ
  n = offset_bits z % 2 ^ 52 + 0x3fe6a09e * 2 ^ 32

  the_fields : Fields b
  the_fields =
      fields b (pattern_ge held (normal_ordinary z h) (and_l (le least_normal z) (lt z (inf false)) h)) (ordinary_pattern held (normal_ordinary z h)).1

  bits_significand : to_bits binary64 (significand z) ≡ n
  unfolding significand
  bits_significand =
      to_bits-of_bits binary64 n (omega arith) (subst (λ (t : Bool). T (not t)) (nan_bits_is binary64 n) (no_nan_under n (omega arith)))

  value_z : HasValue z false ((2 ^ 52 + b % 2 ^ 52) * 2 ^ the_fields.e) U
  value_z =
      subst (λ (y : Float). HasValue y false ((2 ^ 52 + b % 2 ^ 52) * 2 ^ the_fields.e) U) (ap (of_bits binary64) the_fields.own ∙ of_bits-to_bits binary64 z held)
      (normal_value the_fields.e (b % 2 ^ 52) the_fields.own_in (mod-lt b (pow_pos 52)))

  value_significand : HasValue (significand z) false ((2 ^ 52 + b % 2 ^ 52) * 2 ^ the_fields.f) U
  unfolding significand
  value_significand =
      subst (λ (y : ℕ). HasValue (of_bits binary64 y) false ((2 ^ 52 + b % 2 ^ 52) * 2 ^ the_fields.f) U) the_fields.of_significand
      (normal_value the_fields.f (b % 2 ^ 52) the_fields.significand_in (mod-lt b (pow_pos 52)))

  split_at : Split z (significand z) (power z)
  unfolding power
  split_at =
      record {
        least = rw bits_significand (omega arith);
        most = rw bits_significand (omega arith);
        whole =
            ratio (num z) (den z) (num (significand z)) (den (significand z)) (2 ^ 52 + b % 2 ^ 52) (up (pos (offset_bits z / 2 ^ 52) -ℤ pos 1023)) (down (pos (offset_bits z / 2 ^ 52) -ℤ pos 1023)) the_fields.e the_fields.f
            (value→cross z ((2 ^ 52 + b % 2 ^ 52) * 2 ^ the_fields.e) U value_z)
            (value→cross (significand z) ((2 ^ 52 + b % 2 ^ 52) * 2 ^ the_fields.f) U value_significand)
            (power_of (offset_bits z / 2 ^ 52) the_fields.e the_fields.f the_fields.apart);
      }

pub split_exists : SplitExists
unfolding significand
split_exists z held h = (of_bits-fits binary64 (offset_bits z % 2 ^ 52 + 0x3fe6a09e * 2 ^ 32), split_at z held h)
