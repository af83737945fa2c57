-- Values in units of the format's smallest one, 2 ^ -1074: each is a whole number of units with few digits, and the order of the values is that of the numbers.
use mathlib.Core.Path.{◌≡◌, refl, sym, ap, ◌∙◌, subst}
use mathlib.Core.Bool.{true, false, ◌&&◌, true≢false}
use Prim.Native.Nat.{ℕ, zero, suc, ◌+◌, ◌-◌, ◌*◌, ◌%◌, ◌^◌, ◌≤◌, ◌<◌}
use native.Mathlib.Nat.{le_of_eq, lt_of_lt_of_le, lt_of_le_of_lt, lt_irrefl, lt_of_not-le, not-le_of_lt, zero-lt-suc, mul_assoc, mul_right_comm, mul-one, zero-mul, mul-pos, mul-lt-mul_of_pos_right, lt_of_mul-lt-mul_right}
use native.Mathlib.Decide.{dec_le}
use lib.IntN.{ℤ, pos, negsuc}
use lib.Dec.{T, leb, ltb, eqb, leb→le, ltb→lt, lt→ltb, lit<}
use lib.Pow.{pow_pos, pow-add, pow-lt}
use lib.Ieee.{Float, nan, inf, fin, binary64, up, down, fits, lt}
use lib.Ieee.Fits.{and_l, and_r, up_pos, down_pos}
use lib.Ieee.Digits.{back}
use lib.Ieee.Exact.{HasValue}
use lib.Ieee.Scale.{finite}
use Rattle.floats.specs.Magnitude.{sign_clear}

-- how many of the format's smallest values make 1
abbrev pub U : ℕ
U = 2 ^ 1074

U_pos : 0 < U
U_pos = pow_pos 1074

-- ---- each value is a whole number of units with few digits
pow_le_cancel : (a b : ℕ) → 2 ^ a ≤ 2 ^ b → a ≤ b
pow_le_cancel a b h = elim (dec_le a b) [ yes g ↦ g | no g ↦ absurd (not-le_of_lt (pow-lt (lt_of_not-le g)) h) ]

units_at : (m : ℕ) (e : ℤ) → T (leb (down e) U) → (j : ℕ) × (m * up e * U ≡ m * 2 ^ j * down e)
units_at m (pos k) h = (k + 1074, mul_assoc m (2 ^ k) U ∙ ap (λ (z : ℕ). m * z) (sym (pow-add 2 k 1074)) ∙ sym (mul-one (m * 2 ^ (k + 1074))))
units_at m (negsuc k) h = (
  1074 - suc k,
  ap (λ (z : ℕ). z * U) (mul-one m)
      ∙ ap (λ (z : ℕ). m * z) (sym (ap (λ (z : ℕ). 2 ^ z) (back 1074 (suc k) (pow_le_cancel (suc k) 1074 (leb→le (2 ^ suc k) U h)))) ∙ pow-add 2 (1074 - suc k) (suc k))
      ∙ sym (mul_assoc m (2 ^ (1074 - suc k)) (2 ^ suc k)),
)

-- y is a * 2 ^ j units, and a has no more digits than the format
pub few_digits : (y : Float) → T (fits binary64 y) → T (sign_clear y) → (a : ℕ) × (j : ℕ) × (a < 2 ^ 53) × HasValue y false (a * 2 ^ j) U
unfolding fits
few_digits nan f p = absurd p
few_digits (inf s) f p = absurd p
few_digits (fin true m e) f p = absurd p
few_digits (fin false zero e) f p = (0, 0, lit< tt, (refl, ap (λ (z : ℕ). z * U) (zero-mul (up e)) ∙ zero-mul U ∙ sym (zero-mul (down e))))
few_digits (fin false (suc m) e) f p =
    let A = eqb (suc m % 2) 1 in
    let B = ltb (suc m) (2 ^ 53) in
    let C = leb (down e) U in
    let D = ltb (suc m * up e) (2 ^ 1024 * down e) in
    let abc : T (A && B && C) = and_l (A && B && C) D f in
    let u = units_at (suc m) e (and_r (A && B) C abc) in
    (suc m, u.0, ltb→lt (suc m) (2 ^ 53) (and_r A B (and_l (A && B) C abc)), (refl, u.1))

-- ---- what has a value in units
module _ (X : ℕ) where
  pub value_clear : (x : Float) → HasValue x false X U → T (sign_clear x)
  value_clear nan h = absurd h
  value_clear (inf s) h = absurd h
  value_clear (fin true m e) h = absurd (true≢false h.0)
  value_clear (fin false m e) h = tt

  pub value_finite : (x : Float) → HasValue x false X U → T (finite x)
  value_finite nan h = absurd h
  value_finite (inf s) h = absurd h
  value_finite (fin s m e) h = tt

-- ---- the order, in units
-- the two sides of a comparison, as multiples of the product of the denominators
crossed : (m : ℕ) (e d : ℤ) (Y : ℕ) → m * up e * U ≡ Y * down e → m * up e * down d * U ≡ Y * (down e * down d)
crossed m e d Y p = mul_right_comm (m * up e) (down d) U ∙ ap (λ (z : ℕ). z * down d) p ∙ mul_assoc Y (down e) (down d)

crossed_back : (n : ℕ) (e d : ℤ) (G : ℕ) → n * up d * U ≡ G * down d → n * up d * down e * U ≡ G * (down e * down d)
crossed_back n e d G q = mul_right_comm (n * up d) (down e) U ∙ ap (λ (z : ℕ). z * down e) q ∙ mul_right_comm G (down d) (down e) ∙ mul_assoc G (down e) (down d)

module _ (m n Y G : ℕ) (e d : ℤ) (p : m * up e * U ≡ Y * down e) (q : n * up d * U ≡ G * down d) where
  less_units : m * up e * down d < n * up d * down e → Y < G
  less_units h =
      lt_of_mul-lt-mul_right (down e * down d)
      (subst (λ (z : ℕ). z < G * (down e * down d)) (crossed m e d Y p)
      (subst (λ (z : ℕ). m * up e * down d * U < z) (crossed_back n e d G q) (mul-lt-mul_of_pos_right h U_pos)))

  units_less : Y < G → m * up e * down d < n * up d * down e
  units_less h =
      lt_of_mul-lt-mul_right U
      (subst (λ (z : ℕ). z < n * up d * down e * U) (sym (crossed m e d Y p))
      (subst (λ (z : ℕ). Y * (down e * down d) < z) (sym (crossed_back n e d G q)) (mul-lt-mul_of_pos_right h (mul-pos (down_pos e) (down_pos d)))))

-- a value of units is a number with the sign clear, whatever is asked of it
at_values : (P : Float → Float → Type 0) (y r : Float) (Y G : ℕ) → HasValue y false Y U → HasValue r false G U
    → ((m n : ℕ) (e d : ℤ) → m * up e * U ≡ Y * down e → n * up d * U ≡ G * down d → P (fin false m e) (fin false n d)) → P y r
at_values P nan r Y G p q f = absurd p
at_values P (inf s) r Y G p q f = absurd p
at_values P (fin true m e) r Y G p q f = absurd (true≢false p.0)
at_values P (fin false m e) nan Y G p q f = absurd q
at_values P (fin false m e) (inf t) Y G p q f = absurd q
at_values P (fin false m e) (fin true n d) Y G p q f = absurd (true≢false q.0)
at_values P (fin false m e) (fin false n d) Y G p q f = f m n e d p.1 q.1

pub lt→units : (y r : Float) (Y G : ℕ) → HasValue y false Y U → HasValue r false G U → T (lt y r) → Y < G
unfolding lt
lt→units y r Y G p q =
    at_values (λ a b. T (lt a b) → Y < G) y r Y G p q
    (λ m n e d f g h. less_units m n Y G e d f g (ltb→lt (m * up e * down d) (n * up d * down e) h))

pub units→lt : (y r : Float) (Y G : ℕ) → HasValue y false Y U → HasValue r false G U → Y < G → T (lt y r)
unfolding lt
units→lt y r Y G p q h =
    at_values (λ a b. T (lt a b)) y r Y G p q
    (λ m n e d f g. lt→ltb (m * up e * down d) (n * up d * down e) (units_less m n Y G e d f g h))

-- ---- a value of the format that is above zero
end_at : (m : ℕ) (e : ℤ) (X : ℕ) → T (ltb (m * up e) (2 ^ 1024 * down e)) → m * up e * U ≡ X * down e → X < 2 ^ 2098
end_at m e X h v =
    lt_of_mul-lt-mul_right (down e)
    (lt_of_le_of_lt (le_of_eq (sym v)) (lt_of_lt_of_le (mul-lt-mul_of_pos_right (ltb→lt (m * up e) (2 ^ 1024 * down e) h) (pow_pos 1074)) (le_of_eq (mul_right_comm (2 ^ 1024) (down e) U))))

pub under_end_of : (m : ℕ) (e : ℤ) (X : ℕ) → T (fits binary64 (fin false (suc m) e)) → suc m * up e * U ≡ X * down e → X < 2 ^ 2098
unfolding fits
under_end_of m e X f v = end_at (suc m) e X (and_r (eqb (suc m % 2) 1 && ltb (suc m) (2 ^ 53) && leb (down e) U) (ltb (suc m * up e) (2 ^ 1024 * down e)) f) v

pub some_of : (m : ℕ) (e : ℤ) (X : ℕ) → suc m * up e * U ≡ X * down e → 0 < X
some_of m e zero v = absurd (lt_irrefl 0 (subst (λ (z : ℕ). 0 < z) (v ∙ zero-mul (down e)) (mul-pos (mul-pos (zero-lt-suc m) (up_pos e)) (pow_pos 1074))))
some_of m e (suc X) v = zero-lt-suc X
