-- The sums of the walk: adding a finite entry gives no NaN, and where the next sum is below 0 the entry is negative and larger in magnitude than the sum before it.
use mathlib.Core.Path.{◌≡◌, refl, sym, ap, ◌∙◌, subst}
use mathlib.Core.Bool.{Bool, true, false, not, ◌&&◌, cond, beq, true≢false, false≢true}
use Prim.Native.Nat.{ℕ, zero, suc, ◌+◌, ◌-◌, ◌*◌, ◌^◌, ◌≤◌, ◌<◌, zero-le}
use native.Mathlib.Nat.{le_of_eq, lt_of_lt_of_le, lt_irrefl, zero-mul, mul-pos, zero-lt-suc}
use native.Mathlib.Omega.{arith}
use lib.IntN.{ℤ}
use lib.Dec.{T, ltb, ltb→lt, lit<}
use lib.Ieee.{Float, nan, inf, fin, binary64, up, down, round, sum, add, lt, is_nan}
use lib.Ieee.Fits.{up_pos}
use lib.Ieee.Exact.{HasValue, round_exact}
use lib.Ieee.Scale.{finite}
use borrow.Author.Tests.{le-ltb}
use Rattle.floats.specs.Arithmetic.{◌⊕◌, zero⁺}
use Rattle.floats.proofs.Zero.{refuted, zero_not_below, positive_not_below, negative_below}
use Rattle.floats.proofs.Sign.{either, Sign, round_sign, sign_no_nan}

sign_not_below : (x : Float) → Sign false x → lt x zero⁺ ≡ false
unfolding lt
sign_not_below nan h = absurd h
sign_not_below (inf t) h = h
sign_not_below (fin true m e) h = absurd (true≢false h)
sign_not_below (fin false m e) h = refuted (lt (fin false m e) zero⁺) (positive_not_below m e)

pub clash : {b : Bool} → b ≡ false → b ≡ true → ⊥
clash p q = false≢true (sym p ∙ q)

-- ---- sums: no NaN, and not below 0
abbrev pub PartialSum : Float → Type 0
PartialSum x = T (not (is_nan x)) × (lt x zero⁺ ≡ false)

round_no_nan : (s : Bool) (a b : ℕ) → T (not (is_nan (round binary64 s a b)))
round_no_nan s a b = sign_no_nan s (round binary64 s a b) (round_sign s a b)

sum_no_nan : (s : Bool) (a : ℕ) (t : Bool) (b c : ℕ) → T (not (is_nan (sum binary64 s a t b c)))
unfolding sum
sum_no_nan s a t b c =
    let p = round binary64 t (b - a) c in
    let q = round binary64 (s && ltb b a) (a - b) c in
    either (λ x. T (not (is_nan x))) (beq s t) (round binary64 s (a + b) c) (cond (ltb a b) p q) (round_no_nan s (a + b) c)
    (either (λ x. T (not (is_nan x))) (ltb a b) p q (round_no_nan t (b - a) c) (round_no_nan (s && ltb b a) (a - b) c))

pub add_no_nan : (c x : Float) → T (not (is_nan c)) → T (finite x) → T (not (is_nan (c ⊕ x)))
unfolding add
add_no_nan c nan g f = absurd f
add_no_nan c (inf t) g f = absurd f
add_no_nan nan (fin t n d) g f = absurd (unfold is_nan in g)
add_no_nan (inf s) (fin t n d) g f = unfold is_nan in tt
add_no_nan (fin s m e) (fin t n d) g f = sum_no_nan s (m * up e * down d) t (n * up d * down e) (down e * down d)

-- ---- where the next sum is below 0, the entry is negative and larger than the sum
pub no_significand : (s : Bool) (m : ℕ) (e : ℤ) (a den : ℕ) → 0 < den → a ≡ 0 → HasValue (fin s m e) s a den → m ≡ 0
no_significand s zero e a den D z h = refl
no_significand s (suc m) e a den D z h =
    absurd (lt_irrefl 0 (lt_of_lt_of_le (mul-pos (mul-pos (zero-lt-suc m) (up_pos e)) D) (le_of_eq (h.1 ∙ ap (λ (w : ℕ). w * down e) z ∙ zero-mul (down e)))))

pub round_zero : (s : Bool) (a den : ℕ) → 0 < den → a ≡ 0 → HasValue (round binary64 s a den) s a den
round_zero s a den D z =
    round_exact binary64 s a den 0 0 D (lit< tt) (lit< tt)
    (ap (λ (w : ℕ). w * 2 ^ 1074) z ∙ sym (zero-mul den))

exact_zero_not_below : (s : Bool) (r : Float) (a den : ℕ) → 0 < den → a ≡ 0 → HasValue r s a den → lt r zero⁺ ≡ true → ⊥
exact_zero_not_below s nan a den D z h l = absurd h
exact_zero_not_below s (inf t) a den D z h l = absurd h
exact_zero_not_below s (fin t m e) a den D z h l =
    let k : m ≡ 0 = no_significand t m e a den D z (refl, h.1) in
    zero_not_below t e (ap (λ (w : ℕ). lt (fin t w e) zero⁺) (sym k) ∙ l)

pub sum_below : (s : Bool) (a : ℕ) (t : Bool) (b c : ℕ) → 0 < c → (s ≡ true → a ≡ 0) → lt (sum binary64 s a t b c) zero⁺ ≡ true → (t ≡ true) × (a < b)
unfolding sum
sum_below false a false b c C z h = absurd (clash (sign_not_below (round binary64 false (a + b) c) (round_sign false (a + b) c)) h)
sum_below false a true b c C z h = (refl, go (ltb a b) (ltb→lt a b) h)
  where
    go : (p : Bool) → (T p → a < b) → lt (cond p (round binary64 true (b - a) c) (round binary64 false (a - b) c)) zero⁺ ≡ true → a < b
    go true l h = l tt
    go false l h = absurd (clash (sign_not_below (round binary64 false (a - b) c) (round_sign false (a - b) c)) h)
sum_below true a false b c C z h = absurd (go (ltb a b) (le-ltb b a (subst (λ (n : ℕ). n ≤ b) (sym (z refl)) zero-le)) h)
  where
    go : (p : Bool) → ltb b a ≡ false → lt (cond p (round binary64 false (b - a) c) (round binary64 (ltb b a) (a - b) c)) zero⁺ ≡ true → ⊥
    go true l h = clash (sign_not_below (round binary64 false (b - a) c) (round_sign false (b - a) c)) h
    go false l h = clash (sign_not_below (round binary64 false (a - b) c) (round_sign false (a - b) c)) (ap (λ (w : Bool). lt (round binary64 w (a - b) c) zero⁺) (sym l) ∙ h)
sum_below true a true b c C z h = (refl, go b (λ (e : b ≡ 0). exact_zero_not_below true (round binary64 true (a + b) c) (a + b) c C (both e) (round_zero true (a + b) c C (both e)) h))
  where
    both : b ≡ 0 → a + b ≡ 0
    both e = let w = z refl in omega arith

    go : (n : ℕ) → (n ≡ 0 → ⊥) → a < n
    go zero k = absurd (k refl)
    go (suc n) k = let w = z refl in omega arith

pub partial_none : (s : Bool) (m : ℕ) (e : ℤ) → lt (fin s m e) zero⁺ ≡ false → s ≡ true → m ≡ 0
partial_none s zero e h p = refl
partial_none true (suc m) e h p = absurd (clash h (negative_below m e))
partial_none false (suc m) e h p = absurd (false≢true p)
