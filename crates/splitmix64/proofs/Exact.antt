-- z / 2 ^ 52 as the code has it, z as a float divided by 2 ^ 52, is `fraction z (2 ^ 52)`, for a whole z of at most 53 digits; and that is exact.
use Rattle.std.proofs.Common.{◌≡◌, ℕ, suc, ◌-◌, ◌*◌, ◌/◌, ◌^◌, ◌<◌, ◌≤◌, Bool, true, false, cond, ltb, ℤ, pos, negsuc, ◌-ℤ◌, sym, refl, ap, ◌∙◌, lt_of_lt_of_le, mul_assoc, mul_comm, mul-lt-mul_of_pos_right, mul-pos, arith, lit≤, pow_pos, w64, to_z, of_z}
use Rattle.std.proofs.lemmas.Int.{ints}
use mir.ValLaws.{to_z-of_z}
use lib.Ieee.{Float, nan, inf, fin, binary64, unlike, up, down, round, div, of_int, of_bits}
use lib.Ieee.Fits.{down_pos}
use lib.Ieee.Exact.{HasValue, round_exact}
use lib.Ieee.Back.{round_whole}
use lib.Ieee.Scale.{round_same}
use Rattle.splitmix64.specs.Mix.{fraction, unit}
use Rattle.splitmix64.specs.ExactDraw.{Exactly, ExactDraw}

abbrev C : ℕ
C = 2 ^ 52

-- the code's constant
scale_is : of_bits binary64 0x4330000000000000 ≡ fin false 1 (pos 52)
unfolding of_bits
scale_is = refl

opened : (t : Bool) (m : ℕ) (e : ℤ) → div binary64 (fin t m e) (fin false 1 (pos 52)) ≡ round binary64 (unlike t false) (m * up e * 1) (1 * 2 ^ 52 * down e)
unfolding div
opened t m e = refl

kept_sign : (t : Bool) → unlike t false ≡ t
kept_sign true = refl
kept_sign false = refl

div_value : (x : Float) (s : Bool) (a : ℕ) → HasValue x s a 1 → div binary64 x (fin false 1 (pos 52)) ≡ round binary64 s a C
div_value nan s a h = absurd h
div_value (inf t) s a h = absurd h
div_value (fin t m e) s a h =
    opened t m e
    ∙ ap (λ (b : Bool). round binary64 b (m * up e * 1) (C * down e)) (kept_sign t ∙ h.0)
    ∙ round_same binary64 s (m * up e * 1) (C * down e) a C (mul-pos (pow_pos 52) (down_pos e)) (pow_pos 52) (ap (λ (z : ℕ). z * C) h.1 ∙ mul_assoc a (down e) C ∙ ap (λ (z : ℕ). a * z) (mul_comm (down e) C))

whole_value : (s : Bool) (a : ℕ) → a ≤ 2 ^ 53 → div binary64 (round binary64 s a 1) (fin false 1 (pos 52)) ≡ round binary64 s a C
whole_value s a h = div_value (round binary64 s a 1) s a (round_whole binary64 s a h)

-- z is at most 2 ^ 53 in size
abbrev pub Small : ℤ → Type 0
Small (pos a) = a ≤ 2 ^ 53
Small (negsuc a) = suc a ≤ 2 ^ 53

pub divided : (z : ℤ) → Small z → div binary64 (of_int binary64 z) (of_bits binary64 0x4330000000000000) ≡ fraction z C
unfolding of_int
divided (pos a) h = ap (div binary64 (round binary64 false a 1)) scale_is ∙ whole_value false a h
divided (negsuc a) h = ap (div binary64 (round binary64 true (suc a) 1)) scale_is ∙ whole_value true (suc a) h

-- ---- exactly z / 2 ^ 52
exact_at : (s : Bool) (a : ℕ) → a < 2 ^ 53 → HasValue (round binary64 s a C) s a C
exact_at s a h =
    round_exact binary64 s a C a 1022 (pow_pos 52) h
    (lt_of_lt_of_le (mul-lt-mul_of_pos_right h (pow_pos 1022)) (lit≤ {m = 2 ^ 53 * 2 ^ 1022} {n = 2 ^ 2098} tt))
    (sym (mul_assoc a (2 ^ 1022) C))

abbrev pub Smaller : ℤ → Type 0
Smaller (pos a) = a < 2 ^ 53
Smaller (negsuc a) = suc a < 2 ^ 53

pub fraction_exact : (z : ℤ) → Smaller z → Exactly (fraction z C) z C
fraction_exact (pos a) h = exact_at false a h
fraction_exact (negsuc a) h = exact_at true (suc a) h

-- ---- n - 2 ^ 52 for the top 53 bits n
pub offset_small : (n : ℕ) → n < 2 ^ 53 → Small (pos n -ℤ pos C)
offset_small n h = go (ltb n C)
  where
    go : (t : Bool) → Small (cond t (negsuc (C - suc n)) (pos (n - C)))
    go true = omega arith
    go false = omega arith

pub offset_smaller : (n : ℕ) → n < 2 ^ 53 → Smaller (pos n -ℤ pos C)
offset_smaller n h = go (ltb n C)
  where
    go : (t : Bool) → Smaller (cond t (negsuc (C - suc n)) (pos (n - C)))
    go true = omega arith
    go false = omega arith

pub unit_exact : ExactDraw
unfolding unit
unit_exact v h = fraction_exact (pos (v / 2 ^ 11) -ℤ pos C) (offset_smaller (v / 2 ^ 11) (omega arith))

-- ---- the same at the machine's signed numbers of 64 bits
pub offset_back : (n : ℕ) → n < 2 ^ 53 → to_z w64 (of_z w64 (to_z w64 n -ℤ pos C)) ≡ pos n -ℤ pos C
offset_back n h = grind (arith, ints, to_z-of_z)
