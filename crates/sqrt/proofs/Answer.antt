-- What the code computes of a significand a and an exponent p is the root of the value that they stand for (`scaled_law`).
use mathlib.Core.Path.{◌≡◌, refl, sym, ap, ◌∙◌, subst}
use mathlib.Core.Bool.{true, false, true≢false}
use Prim.Native.Nat.{ℕ, zero, suc, ◌+◌, ◌-◌, ◌*◌, ◌/◌, ◌%◌, ◌^◌, ◌≤◌, ◌<◌}
use native.Mathlib.Nat.{div-add-mod', mod-lt, mod-eq_of_lt, lt_of_not-le, not-le_of_lt, le_trans, le_of_eq, lt_of_lt_of_le, lt_of_le_of_lt, lt_irrefl, mul_assoc, mul_left_comm, mul_right_comm, mul-one, zero-mul, mul-pos, mul-le-mul_left, mul-le-mul_right, mul-lt-mul_of_pos_right, eq_of_mul-eq-mul_right}
use native.Mathlib.Omega.{arith}
use lib.Dec.{T, lit≤}
use lib.Pow.{pow_pos, pow-add, pow_mono, shl_lt}
use lib.Count.{count_leading_zeros, leading_top}
use native.Mathlib.Decide.{dec_le}
use lib.Ieee.{Float, nan, inf, fin, binary64, up, down, fits, of_bits}
use lib.Ieee.Fits.{down_pos}
use lib.Ieee.Bits.{of_bits-fits}
use lib.Ieee.Exact.{HasValue}
use Rattle.sqrt.specs.SquareRoot.{root, Scaled, Closest}
use Rattle.sqrt.proofs.Whole.{RootOf}
use Rattle.floats.proofs.Units.{U, few_digits}
use Rattle.sqrt.proofs.Unique.{only_one}
use Rattle.sqrt.proofs.Meets.{closest_at, square_cancel, pred_of, root_is}
use Rattle.floats.proofs.Pattern.{one_digit_more, carried_value, normal_value, subnormal_value}

-- ---- from a partial root to the whole root
pub root_of_partial : (s r n : ℕ) → s * s + r ≡ n → r ≤ 2 * s → RootOf s n
root_of_partial s r n e h = (omega arith, omega arith)

-- ---- bounds on the root s of A * 2 ^ 54 and on (s + 1) / 2
pub large_root : (A s : ℕ) → 2 ^ 52 ≤ A → RootOf s (A * 2 ^ 54) → 2 ^ 53 ≤ s
large_root A s h is = under s (square_cancel (2 ^ 53) (s + 1) (lt_of_le_of_lt (mul-le-mul_right (2 ^ 54) h) is.1))
  where
    under : (s : ℕ) → 2 ^ 53 < s + 1 → 2 ^ 53 ≤ s
    under s h = omega arith

pub half_lo : (s : ℕ) → 2 ^ 53 ≤ s → 2 ^ 52 ≤ (s + 1) / 2
half_lo s h = omega arith

pub half_hi : (s : ℕ) → s < 2 ^ 54 → (s + 1) / 2 ≤ 2 ^ 53
half_hi s h = omega arith

-- ---- the numbers: with N = a * 2 ^ (p + 52), p = 2 * suc i + p % 2
odd_part : (a r : ℕ) → r < 2 → a * 2 ^ r ≡ a * (1 + r)
odd_part a zero h = refl
odd_part a (suc zero) h = refl
odd_part a (suc (suc r)) h = absurd (no_more r h)
  where
    no_more : (r : ℕ) → suc (suc r) < 2 → ⊥
    no_more r h = omega arith

halves : (p i : ℕ) → p / 2 ≡ suc i → p + 52 ≡ p % 2 + (54 + (i + i))
halves p i e = omega arith

scaled_number : (a p i : ℕ) → p / 2 ≡ suc i → a * 2 ^ (p + 52) ≡ a * (1 + p % 2) * 2 ^ 54 * (2 ^ i * 2 ^ i)
scaled_number a p i e =
    ap (λ (z : ℕ). a * 2 ^ z) (halves p i e)
    ∙ ap (λ (z : ℕ). a * z) (pow-add 2 (p % 2) (54 + (i + i)) ∙ ap (λ (z : ℕ). 2 ^ (p % 2) * z) (pow-add 2 54 (i + i) ∙ ap (λ (z : ℕ). 2 ^ 54 * z) (pow-add 2 i i)))
    ∙ sym (mul_assoc a (2 ^ (p % 2)) (2 ^ 54 * (2 ^ i * 2 ^ i)))
    ∙ ap (λ (z : ℕ). z * (2 ^ 54 * (2 ^ i * 2 ^ i))) (odd_part a (p % 2) (rest p))
    ∙ sym (mul_assoc (a * (1 + p % 2)) (2 ^ 54) (2 ^ i * 2 ^ i))
  where
    rest : (p : ℕ) → p % 2 < 2
    rest p = omega arith

squared : (s t : ℕ) → s * t * (s * t) ≡ s * s * (t * t)
squared s t = simp (mul_assoc, mul_left_comm)

-- q = (s + 1) / 2 is suc P
low_end : (s P : ℕ) → (s + 1) / 2 ≡ suc P → 2 * P + 1 ≤ s
low_end s P e = omega arith

high_end : (s P : ℕ) → (s + 1) / 2 ≡ suc P → s + 1 ≤ 2 * P + 3
high_end s P e = omega arith

pred_half : (p : ℕ) → 900 ≤ p → p / 2 ≡ suc (p / 2 - 1)
pred_half p h = omega arith

-- ---- from `Scaled` to units
cross : (n d a p X : ℕ) → 0 < d → n * U ≡ X * d → n * 2 ^ 2096 ≡ a * 2 ^ p * d → X * U ≡ a * 2 ^ (p + 52)
cross n d a p X D e h =
    let f : X * 2 ^ 1022 ≡ a * 2 ^ p =
    eq_of_mul-eq-mul_right d D (X * 2 ^ 1022) (a * 2 ^ p) (mul_right_comm X (2 ^ 1022) d ∙ ap (λ (z : ℕ). z * 2 ^ 1022) (sym e) ∙ mul_assoc n U (2 ^ 1022) ∙ h) in
    sym (mul_assoc X (2 ^ 1022) (2 ^ 52)) ∙ ap (λ (z : ℕ). z * 2 ^ 52) f ∙ mul_assoc a (2 ^ p) (2 ^ 52) ∙ ap (λ (z : ℕ). a * z) (sym (pow-add 2 p 52))

abbrev pub answer : ℕ → ℕ → ℕ
answer p s = p / 2 * 2 ^ 52 + (s + 1) / 2

module _ (a p s : ℕ) (alo : 2 ^ 52 ≤ a) (plo : 900 ≤ p) (phi : p < 4000) (small : s < 2 ^ 54) (is : RootOf s (a * (1 + p % 2) * 2 ^ 54)) where
  A_lo : 2 ^ 52 ≤ a * (1 + p % 2)
  A_lo = le_trans alo (le_trans (le_of_eq (sym (mul-one a))) (mul-le-mul_left a (at_least (p % 2))))
    where
      at_least : (r : ℕ) → 1 ≤ 1 + r
      at_least r = omega arith

  s_lo : 2 ^ 53 ≤ s
  s_lo = large_root (a * (1 + p % 2)) s A_lo is

  answer_value : HasValue (of_bits binary64 (answer p s)) false ((s + 1) / 2 * 2 ^ (p / 2)) U
  answer_value = carried_value (p / 2) ((s + 1) / 2) (half_lo s s_lo) (half_hi s small) (in_range p phi)
    where
      in_range : (p : ℕ) → p < 4000 → p / 2 < 2045
      in_range p h = omega arith

  closest_answer : (x : Float) (X b j : ℕ) → HasValue x false X U → b < 2 ^ 53 → X * U ≡ b * 2 ^ (j + 1074) → X * U ≡ a * 2 ^ (p + 52) → Closest x (of_bits binary64 (answer p s))
  closest_answer x X b j v few form e =
      let i = p / 2 - 1 in
      let ie : p / 2 ≡ suc i = pred_half p plo in
      let q = (s + 1) / 2 in
      let P = q - 1 in
      let qe : q ≡ suc P = pred_of q (half_lo s s_lo) in
      let t = 2 ^ i in
      let n : X * U ≡ a * (1 + p % 2) * 2 ^ 54 * (t * t) = e ∙ scaled_number a p i ie in
      closest_at x (of_bits binary64 (answer p s)) X P i b (j + 1074) (s * t) ((s + 1) * t) v form few
      (subst (λ (z : ℕ). HasValue (of_bits binary64 (answer p s)) false (z * 2 ^ suc i) U) qe (subst (λ (z : ℕ). HasValue (of_bits binary64 (answer p s)) false (q * 2 ^ z) U) ie answer_value))
      (of_bits-fits binary64 (answer p s))
      (subst (λ (z : ℕ). 2 ^ 52 ≤ z) qe (half_lo s s_lo))
      (mul-le-mul_right t (low_end s P qe))
      (mul-le-mul_right t (high_end s P qe))
      (le_trans (le_of_eq (squared s t)) (le_trans (mul-le-mul_right (t * t) is.0) (le_of_eq (sym n))))
      (lt_of_le_of_lt (le_of_eq n) (lt_of_lt_of_le (mul-lt-mul_of_pos_right is.1 (mul-pos (pow_pos i) (pow_pos i))) (le_of_eq (sym (squared (s + 1) t)))))
      (λ g. subst (λ (z : ℕ). z * 2 ^ suc i ≤ s * t) g (le_trans (le_of_eq (one_digit_more (2 ^ 52) i)) (mul-le-mul_right t s_lo)))

  pub scaled_law : (x : Float) → T (fits binary64 x) → Scaled a p x → of_bits binary64 (answer p s) ≡ root x
  scaled_law nan f h = absurd h.0
  scaled_law (inf t) f h = absurd h.0
  scaled_law (fin true m e) f h = absurd h.0
  scaled_law (fin false zero e) f h =
      absurd (lt_irrefl 0 (lt_of_lt_of_le (mul-pos (mul-pos (lt_of_lt_of_le (pow_pos 52) alo) (pow_pos p)) (down_pos e)) (le_of_eq (sym h.1 ∙ ap (λ (z : ℕ). z * 2 ^ 2096) (zero-mul (up e)) ∙ zero-mul (2 ^ 2096)))))
  scaled_law (fin false (suc m) e) f h =
      let x = fin false (suc m) e in
      let d = few_digits x f tt in
      let X = d.0 * 2 ^ d.1 in
      only_one x (of_bits binary64 (answer p s)) (root x)
      (closest_answer x X d.0 d.1 d.3 d.2 (mul_assoc d.0 (2 ^ d.1) U ∙ ap (λ (z : ℕ). d.0 * z) (sym (pow-add 2 d.1 1074))) (cross (suc m * up e) (down e) a p X (down_pos e) d.3.1 h.1))
      (root_is x f)

-- ---- a pattern's significand and exponent
pub scaled_of : (v : Float) (X a p : ℕ) → HasValue v false X U → X * 2 ^ 1022 ≡ a * 2 ^ p → Scaled a p v
scaled_of nan X a p h e = absurd h
scaled_of (inf s) X a p h e = absurd h
scaled_of (fin true m d) X a p h e = absurd (true≢false h.0)
scaled_of (fin false m d) X a p h e = (tt, sym (mul_assoc (m * up d) U (2 ^ 1022)) ∙ ap (λ (z : ℕ). z * 2 ^ 1022) h.1 ∙ mul_right_comm X (down d) (2 ^ 1022) ∙ ap (λ (z : ℕ). z * down d) e)

-- b = e * 2 ^ 52 + t with e above 0
pub scaled_normal : (b : ℕ) → b < 0x7ff0_0000_0000_0000 → (b / 2 ^ 52 ≡ 0 → ⊥) → Scaled (2 ^ 52 + b % 2 ^ 52) (b / 2 ^ 52 + 1021) (of_bits binary64 b)
scaled_normal b h n =
    let x = b / 2 ^ 52 - 1 in
    let t = b % 2 ^ 52 in
    let e : b / 2 ^ 52 ≡ suc x = least (b / 2 ^ 52) n in
    let is : suc x * 2 ^ 52 + t ≡ b = ap (λ (z : ℕ). z * 2 ^ 52 + t) (sym e) ∙ div-add-mod' b (2 ^ 52) in
    let v : HasValue (of_bits binary64 b) false ((2 ^ 52 + t) * 2 ^ x) U =
    subst (λ (z : ℕ). HasValue (of_bits binary64 z) false ((2 ^ 52 + t) * 2 ^ x) U) is (normal_value x t (subst (λ (z : ℕ). z < 2047) e (field_lt b h)) (mod-lt b (pow_pos 52))) in
    scaled_of (of_bits binary64 b) ((2 ^ 52 + t) * 2 ^ x) (2 ^ 52 + t) (b / 2 ^ 52 + 1021) v
    (mul_assoc (2 ^ 52 + t) (2 ^ x) (2 ^ 1022) ∙ ap (λ (z : ℕ). (2 ^ 52 + t) * z) (sym (pow-add 2 x 1022) ∙ ap (λ (z : ℕ). 2 ^ z) (total (b / 2 ^ 52) x e)))
  where
    least : (n : ℕ) → (n ≡ 0 → ⊥) → n ≡ suc (n - 1)
    least n h = omega arith

    field_lt : (b : ℕ) → b < 0x7ff0_0000_0000_0000 → b / 2 ^ 52 < 2047
    field_lt b h = omega arith

    total : (n x : ℕ) → n ≡ suc x → x + 1022 ≡ n + 1021
    total n x e = omega arith

-- t below 2 ^ 52 and above 0, shifted up by the leading zeros beyond 11
pub record Shifted (t z : ℕ) : Type 0 where
  pub enough : 11 ≤ z
  pub small : z - 11 ≤ 52
  pub exact : t * 2 ^ (z - 11) % 2 ^ 64 ≡ t * 2 ^ (z - 11)
  pub lo : 2 ^ 52 ≤ t * 2 ^ (z - 11)
  pub hi : t * 2 ^ (z - 11) < 2 ^ 53

pub shifted : (t : ℕ) → 0 < t → t < 2 ^ 52 → Shifted t (count_leading_zeros 64 t)
shifted t some l =
    let z = count_leading_zeros 64 t in
    let top = leading_top 64 t some (lt_of_lt_of_le l (lit≤ {m = 2 ^ 52} {n = 2 ^ 64} tt)) in
    let j = top.0 in
    let e : z + suc j ≡ 64 = top.1 in
    let j51 : j < 52 = exponent_lt j (lt_of_le_of_lt top.2 l) in
    let sum : j + (z - 11) ≡ 52 = omega arith in
    let h53 : suc j + (z - 11) ≡ 53 = omega arith in
    let up53 : t * 2 ^ (z - 11) < 2 ^ 53 = subst (λ (n : ℕ). t * 2 ^ (z - 11) < 2 ^ n) h53 (shl_lt (suc j) (z - 11) top.3) in
    record {
      enough = omega arith;
      small = omega arith;
      exact = mod-eq_of_lt (lt_of_lt_of_le up53 (lit≤ {m = 2 ^ 53} {n = 2 ^ 64} tt));
      lo = le_trans (le_of_eq (ap (λ (n : ℕ). 2 ^ n) (sym sum) ∙ pow-add 2 j (z - 11))) (mul-le-mul_right (2 ^ (z - 11)) top.2);
      hi = up53;
    }
  where
    exponent_lt : (j : ℕ) → 2 ^ j < 2 ^ 52 → j < 52
    exponent_lt j h = elim (dec_le 52 j) [ yes g ↦ absurd (not-le_of_lt h (pow_mono g)) | no g ↦ lt_of_not-le g ]

pub scaled_subnormal : (t z : ℕ) → t < 2 ^ 52 → z ≤ 52 → Scaled (t * 2 ^ z) (1022 - z) (of_bits binary64 t)
scaled_subnormal t z l h =
    scaled_of (of_bits binary64 t) (t * 2 ^ 0) (t * 2 ^ z) (1022 - z) (subnormal_value t l)
    (ap (λ (n : ℕ). n * 2 ^ 1022) (mul-one t) ∙ ap (λ (n : ℕ). t * n) (ap (λ (n : ℕ). 2 ^ n) (sum z h) ∙ pow-add 2 z (1022 - z)) ∙ sym (mul_assoc t (2 ^ z) (2 ^ (1022 - z))))
  where
    sum : (z : ℕ) → z ≤ 52 → 1022 ≡ z + (1022 - z)
    sum z h = omega arith
