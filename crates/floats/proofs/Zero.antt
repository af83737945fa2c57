-- What comparisons with zero say.
use mathlib.Core.Path.{◌≡◌, refl, sym, ap, ◌∙◌, subst}
use mathlib.Core.Bool.{Bool, true, false, ◌&&◌, ◌||◌, beq}
use Prim.Native.Nat.{ℕ, zero, suc, ◌+◌, ◌*◌, ◌<◌}
use native.Mathlib.Nat.{le_of_eq, lt_of_lt_of_le, lt_irrefl, zero-mul, mul-pos, zero-lt-suc, le-add_right}
use native.Mathlib.Omega.{arith}
use lib.IntN.{ℤ, pos}
use lib.Dec.{T, ltb, eqb, ltb→lt, lt→ltb, eqb_refl, eqb→eq, lit<}
use lib.Ieee.{nan, inf, fin, binary64, up, down, eq, lt, div, of_bits}
use lib.Ieee.Bits.{is_true}
use lib.Ieee.Fits.{and_i, and_l, up_pos}
use Rattle.floats.specs.Arithmetic.{zero⁺}

-- the code's 0.0
pub zero_is : of_bits binary64 0 ≡ zero⁺
unfolding of_bits
zero_is = refl

pub zero_by_zero : div binary64 (of_bits binary64 0) (of_bits binary64 0) ≡ nan
unfolding div of_bits
zero_by_zero = refl

pub refuted : (b : Bool) → (b ≡ true → ⊥) → b ≡ false
refuted true h = absurd (h refl)
refuted false h = refl

pub of_true : {b : Bool} → b ≡ true → T b
of_true e = subst T (sym e) tt

same : (a b : ℕ) → a ≡ b → T (eqb a b)
same a b h = subst (λ (z : ℕ). T (eqb a z)) h (eqb_refl a)

or_right : (p q : Bool) → T q → T (p || q)
or_right true q t = tt
or_right false q t = t

-- ---- a zero equals zero, and nothing else does
pub zero_equal : (s : Bool) (e : ℤ) → eq (fin s zero e) zero⁺ ≡ true
unfolding eq
zero_equal s e =
    let a = zero * up e * down (pos 0) in
    let b = 0 * up (pos 0) * down e in
    let az : a ≡ 0 = ap (λ (z : ℕ). z * 1) (zero-mul (up e)) in
    let bz : b ≡ 0 = zero-mul (down e) in
    is_true (eqb a b && (beq s false || eqb a 0)) (and_i (eqb a b) (beq s false || eqb a 0) (same a b (az ∙ sym bz)) (or_right (beq s false) (eqb a 0) (same a 0 az)))

pub nonzero_differs : (s : Bool) (m : ℕ) (e : ℤ) → eq (fin s (suc m) e) zero⁺ ≡ true → ⊥
unfolding eq
nonzero_differs s m e h =
    let a = suc m * up e * down (pos 0) in
    let b = 0 * up (pos 0) * down e in
    let l : a ≡ b = eqb→eq a b (and_l (eqb a b) (beq s false || eqb a 0) (of_true h)) in
    lt_irrefl 0 (lt_of_lt_of_le (mul-pos (mul-pos (zero-lt-suc m) (up_pos e)) (lit< {m = 0} {n = 1} tt)) (le_of_eq (l ∙ zero-mul (down e))))

-- ---- which values are below zero
pub zero_not_below : (s : Bool) (e : ℤ) → lt (fin s zero e) zero⁺ ≡ true → ⊥
unfolding lt
zero_not_below true e h =
    lt_irrefl 0
    (lt_of_lt_of_le (ltb→lt 0 (zero * up e * down (pos 0) + 0 * up (pos 0) * down e) (of_true h))
    (le_of_eq (ap (λ (z : ℕ). z * 1 + 0 * up (pos 0) * down e) (zero-mul (up e)) ∙ ap (λ (z : ℕ). 0 + z) (zero-mul (down e)))))
zero_not_below false e h =
    lt_irrefl 0
    (subst (λ (z : ℕ). z < z) (zero-mul (down e))
    (subst (λ (z : ℕ). z < 0 * up (pos 0) * down e) (ap (λ (z : ℕ). z * 1) (zero-mul (up e)) ∙ sym (zero-mul (down e)))
    (ltb→lt (zero * up e * down (pos 0)) (0 * up (pos 0) * down e) (of_true h))))

pub positive_not_below : (m : ℕ) (e : ℤ) → lt (fin false m e) zero⁺ ≡ true → ⊥
unfolding lt
positive_not_below m e h = no_less (m * up e * down (pos 0)) (0 * up (pos 0) * down e) (zero-mul (down e)) (ltb→lt (m * up e * down (pos 0)) (0 * up (pos 0) * down e) (of_true h))
  where
    no_less : (a b : ℕ) → b ≡ 0 → a < b → ⊥
    no_less a b e h = omega arith

pub infinity_not_below : lt (inf false) zero⁺ ≡ false
unfolding lt
infinity_not_below = refl

pub minus_infinity_below : lt (inf true) zero⁺ ≡ true
unfolding lt
minus_infinity_below = refl

pub negative_below : (m : ℕ) (e : ℤ) → lt (fin true (suc m) e) zero⁺ ≡ true
unfolding lt
negative_below m e =
    let n = suc m * up e * down (pos 0) in
    let z = 0 * up (pos 0) * down e in
    is_true (ltb 0 (n + z)) (lt→ltb 0 (n + z) (lt_of_lt_of_le (mul-pos (mul-pos (zero-lt-suc m) (up_pos e)) (lit< {m = 0} {n = 1} tt)) (le-add_right n z)))
