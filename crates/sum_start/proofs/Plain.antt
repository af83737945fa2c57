-- Floats but for the signs of their zeros: an operation tells no more of its operands than that.
use Prim.Native.Nat.{ℕ, zero, suc, ◌+◌, ◌-◌, ◌*◌, ◌^◌, ◌≤◌, ◌<◌}
use native.Mathlib.Nat.{zero-mul, mul-zero, mul-pos, zero-lt-suc, pow-suc}
use native.Mathlib.Omega.{arith}
use mathlib.Core.Path.{◌≡◌, refl, sym, ap, ap₂, ◌∙◌}
use mathlib.Core.Logic.{◌⊎◌, inl, inr}
use mathlib.Core.Bool.{Bool, true, false, cond}
use borrow.Author.Tests.{ltb-true, ltb-false, ne_eqb}
use lib.Dec.{T, ltb, eqb→eq, lit<}
use lib.IntN.{ℤ, pos, negsuc}
use lib.Ieee.{Float, nan, inf, fin, binary64, up, down, unlike, fits, round, neg, sum, add, sub, mul, div}
use lib.Ieee.Fits.{up_pos, down_pos, round-fits}
use lib.Ieee.Exact.{HasValue, round_exact}
use lib.Ieee.Scale.{finite}
use Rattle.floats.specs.Arithmetic.{◌⊕◌, ◌⊖◌, ◌⊗◌, ◌⊘◌, zero⁺}
use Rattle.sum_start.specs.SumStart.{plain}

-- the same but for the sign of a zero
pub record Alike (x y : Float) : Type 0 where
  pub same : plain x ≡ plain y

pub alike : (x : Float) → Alike x x
alike x = record { same = refl }

pub plain_alike : (x : Float) → Alike x (plain x)
plain_alike nan = record { same = refl }
plain_alike (inf s) = record { same = refl }
plain_alike (fin s zero e) = record { same = refl }
plain_alike (fin s (suc m) e) = record { same = refl }

pub finite_plain : (x : Float) → finite (plain x) ≡ finite x
finite_plain nan = refl
finite_plain (inf s) = refl
finite_plain (fin s zero e) = refl
finite_plain (fin s (suc m) e) = refl

-- ---- a zero is rounded to a zero

even_not_one : (a b : ℕ) → a ≡ b * 2 → a ≡ 1 → ⊥
even_not_one a b e h = omega arith

zero_exponent : (s : Bool) (e : ℤ) → T (fits binary64 (fin s zero e)) → e ≡ pos zero
unfolding fits
zero_exponent s (pos zero) h = refl
zero_exponent s (pos (suc k)) h = absurd (even_not_one (2 ^ suc k * 1) (2 ^ k) (omega (arith, pow-suc 2 k)) (eqb→eq (2 ^ suc k * 1) 1 h))
zero_exponent s (negsuc k) h = absurd (even_not_one (1 * 2 ^ suc k) (2 ^ k) (omega (arith, pow-suc 2 k)) (eqb→eq (1 * 2 ^ suc k) 1 h))

rounded_zero : (s : Bool) (a den : ℕ) → 0 < den → a ≡ 0 → plain (round binary64 s a den) ≡ zero⁺
rounded_zero s a den D z =
    go (round binary64 s a den) (round_exact binary64 s a den 0 0 D (lit< tt) (lit< tt) (ap (λ (w : ℕ). w * 2 ^ 1074) z ∙ sym (zero-mul den))) (round-fits binary64 s a den)
  where
    go : (r : Float) → HasValue r s a den → T (fits binary64 r) → plain r ≡ zero⁺
    go nan h f = absurd h
    go (inf t) h f = absurd h
    go (fin t zero e) h f = ap (fin false zero) (zero_exponent t e f)
    go (fin t (suc m) e) h f = absurd (omega (arith, mul-pos (mul-pos (zero-lt-suc m) (up_pos e)) D, h.1, ap (λ (w : ℕ). w * down e) z ∙ zero-mul (down e)))

-- whatever sign it is given
zeros_alike : (s t : Bool) (a b den : ℕ) → 0 < den → a ≡ 0 → b ≡ 0 → plain (round binary64 s a den) ≡ plain (round binary64 t b den)
zeros_alike s t a b den D y z = rounded_zero s a den D y ∙ sym (rounded_zero t b den D z)

-- ---- a sum does not tell the sign of a zero in it

left_zero : (p s u : Bool) (a b c : ℕ) → 0 < c → a ≡ 0 → (p ≡ false → b ≤ a) → plain (cond p (round binary64 s (b - a) c) (round binary64 u (a - b) c)) ≡ plain (round binary64 s (a + b) c)
left_zero true s u a b c C z h = ap (λ (n : ℕ). plain (round binary64 s n c)) (omega arith)
left_zero false s u a b c C z h = let k = h refl in zeros_alike u s (a - b) (a + b) c C (omega arith) (omega arith)

right_zero : (p s t u : Bool) (a b c : ℕ) → 0 < c → b ≡ 0 → (p ≡ true → a < b) → (u ≡ s) ⊎ (a ≡ 0) → plain (cond p (round binary64 t (b - a) c) (round binary64 u (a - b) c)) ≡ plain (round binary64 s (a + b) c)
right_zero true s t u a b c C z h k = let l = h refl in absurd (omega arith)
right_zero false s t u a b c C z h (inl e) = ap₂ (λ (w : Bool) (n : ℕ). plain (round binary64 w n c)) e (omega arith)
right_zero false s t u a b c C z h (inr e) = zeros_alike u s (a - b) (a + b) c C (omega arith) (omega arith)

sum_left : (t : Bool) (a b c : ℕ) → 0 < c → a ≡ 0 → plain (sum binary64 true a t b c) ≡ plain (sum binary64 false a t b c)
unfolding sum
sum_left true a b c C z = sym (left_zero (ltb a b) true false a b c C z (ltb-false a b))
sum_left false a b c C z = left_zero (ltb a b) false (ltb b a) a b c C z (ltb-false a b)

signed_or_none : (a b : ℕ) → b ≡ 0 → (p : Bool) → ltb b a ≡ p → (ltb b a ≡ true) ⊎ (a ≡ 0)
signed_or_none a b z true e = inl e
signed_or_none a b z false e = let h = ltb-false b a e in inr (omega arith)

sum_right : (s : Bool) (a b c : ℕ) → 0 < c → b ≡ 0 → plain (sum binary64 s a true b c) ≡ plain (sum binary64 s a false b c)
unfolding sum
sum_right true a b c C z = sym (right_zero (ltb a b) true false (ltb b a) a b c C z (ltb-true a b) (signed_or_none a b z (ltb b a) refl))
sum_right false a b c C z = right_zero (ltb a b) false true false a b c C z (ltb-true a b) (inl refl)

-- ---- the operations

none_left : (a b : ℕ) → zero * a * b ≡ 0
none_left a b = ap (λ (w : ℕ). w * b) (zero-mul a) ∙ zero-mul b

add_left : (x y : Float) → plain (x ⊕ y) ≡ plain (plain x ⊕ y)
unfolding add
add_left nan y = refl
add_left (inf s) y = refl
add_left (fin s (suc m) e) y = refl
add_left (fin s zero e) nan = refl
add_left (fin s zero e) (inf t) = refl
add_left (fin false zero e) (fin t n d) = refl
add_left (fin true zero e) (fin t n d) = sum_left t (zero * up e * down d) (n * up d * down e) (down e * down d) (mul-pos (down_pos e) (down_pos d)) (none_left (up e) (down d))

add_right : (x y : Float) → plain (x ⊕ y) ≡ plain (x ⊕ plain y)
unfolding add
add_right nan y = refl
add_right (inf s) nan = refl
add_right (inf s) (inf t) = refl
add_right (inf s) (fin t zero d) = refl
add_right (inf s) (fin t (suc n) d) = refl
add_right (fin s m e) nan = refl
add_right (fin s m e) (inf t) = refl
add_right (fin s m e) (fin t (suc n) d) = refl
add_right (fin s m e) (fin false zero d) = refl
add_right (fin s m e) (fin true zero d) = sum_right s (m * up e * down d) (zero * up d * down e) (down e * down d) (mul-pos (down_pos e) (down_pos d)) (none_left (up d) (down e))

mul_left : (x y : Float) → plain (x ⊗ y) ≡ plain (plain x ⊗ y)
unfolding mul
mul_left nan y = refl
mul_left (inf s) y = refl
mul_left (fin s (suc m) e) y = refl
mul_left (fin s zero e) nan = refl
mul_left (fin s zero e) (inf t) = refl
mul_left (fin s zero e) (fin t n d) =
    let z = none_left (up e) (n * up d) in
    zeros_alike (unlike s t) (unlike false t) (zero * up e * (n * up d)) (zero * up e * (n * up d)) (down e * down d) (mul-pos (down_pos e) (down_pos d)) z z

mul_right : (x y : Float) → plain (x ⊗ y) ≡ plain (x ⊗ plain y)
unfolding mul
mul_right nan y = refl
mul_right (inf s) nan = refl
mul_right (inf s) (inf t) = refl
mul_right (inf s) (fin t zero d) = refl
mul_right (inf s) (fin t (suc n) d) = refl
mul_right (fin s m e) nan = refl
mul_right (fin s m e) (inf t) = refl
mul_right (fin s m e) (fin t (suc n) d) = refl
mul_right (fin s m e) (fin t zero d) =
    let z = ap (λ (w : ℕ). m * up e * w) (zero-mul (up d)) ∙ mul-zero (m * up e) in
    zeros_alike (unlike s t) (unlike s false) (m * up e * (zero * up d)) (m * up e * (zero * up d)) (down e * down d) (mul-pos (down_pos e) (down_pos d)) z z

div_left : (x r : Float) → plain (x ⊘ r) ≡ plain (plain x ⊘ r)
unfolding div
div_left nan r = refl
div_left (inf s) r = refl
div_left (fin s (suc m) e) r = refl
div_left (fin s zero e) nan = refl
div_left (fin s zero e) (inf t) = refl
div_left (fin s zero e) (fin t zero d) = refl
div_left (fin s zero e) (fin t (suc n) d) =
    let z = none_left (up e) (down d) in
    rw (ne_eqb (suc n) 0 (λ f. omega arith))
    (zeros_alike (unlike s t) (unlike false t) (zero * up e * down d) (zero * up e * down d) (suc n * up d * down e) (mul-pos (mul-pos (zero-lt-suc n) (up_pos d)) (down_pos e)) z z)

neg_plain : (x : Float) → plain (neg x) ≡ plain (neg (plain x))
unfolding neg
neg_plain nan = refl
neg_plain (inf s) = refl
neg_plain (fin s zero e) = refl
neg_plain (fin s (suc m) e) = refl

pub add_alike : {x x' y y' : Float} → Alike x x' → Alike y y' → Alike (x ⊕ y) (x' ⊕ y')
add_alike {x} {x'} {y} {y'} p q =
    record { same = add_left x y ∙ add_right (plain x) y ∙ ap₂ (λ (a b : Float). plain (a ⊕ b)) p.same q.same ∙ sym (add_left x' y' ∙ add_right (plain x') y') }

pub mul_alike : {x x' y y' : Float} → Alike x x' → Alike y y' → Alike (x ⊗ y) (x' ⊗ y')
mul_alike {x} {x'} {y} {y'} p q =
    record { same = mul_left x y ∙ mul_right (plain x) y ∙ ap₂ (λ (a b : Float). plain (a ⊗ b)) p.same q.same ∙ sym (mul_left x' y' ∙ mul_right (plain x') y') }

pub neg_alike : {x x' : Float} → Alike x x' → Alike (neg x) (neg x')
neg_alike {x} {x'} p = record { same = neg_plain x ∙ ap (λ (a : Float). plain (neg a)) p.same ∙ sym (neg_plain x') }

pub sub_alike : {x x' y y' : Float} → Alike x x' → Alike y y' → Alike (x ⊖ y) (x' ⊖ y')
unfolding sub
sub_alike p q = add_alike p (neg_alike q)

pub div_alike : {x x' r r' : Float} → Alike x x' → r ≡ r' → Alike (x ⊘ r) (x' ⊘ r')
div_alike {x} {x'} {r} {r'} p q = record { same = div_left x r ∙ ap₂ (λ (a b : Float). plain (a ⊘ b)) p.same q ∙ sym (div_left x' r') }
