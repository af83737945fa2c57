-- The code's magnitude of one float.
use mathlib.Core.Path.{◌≡◌, refl, sym, ap, ◌∙◌}
use mathlib.Core.Bool.{Bool, true, false, true≢false, false≢true}
use Prim.Native.Nat.{ℕ, zero, suc, ◌*◌, ◌^◌}
use native.Mathlib.Omega.{arith}
use lib.IntN.{ℤ, pos, negsuc}
use lib.Dec.{T, eqb→eq}
use lib.Ieee.{Float, nan, inf, fin, binary64, fits, eq, lt, neg, of_bits}
use Rattle.floats.specs.Arithmetic.{zero⁺}
use Rattle.floats.specs.Magnitude.{magnitude}
use Rattle.floats.proofs.Zero.{zero_is, zero_equal, nonzero_differs, positive_not_below, minus_infinity_below, negative_below}

-- a zero that the format holds has one exponent
held_zero : (e : ℤ) (s : Bool) → T (fits binary64 (fin s zero e)) → e ≡ pos 0
unfolding fits
held_zero (pos zero) s t = refl
held_zero (pos (suc k)) s t = absurd (no (2 ^ k) (eqb→eq (2 ^ suc k * 1) 1 t))
  where
    no : (a : ℕ) → 2 ^ suc k * 1 ≡ 1 → ⊥
    no a h = omega arith
held_zero (negsuc k) s t = absurd (no (2 ^ k) (eqb→eq (1 * 2 ^ suc k) 1 t))
  where
    no : (a : ℕ) → 1 * 2 ^ suc k ≡ 1 → ⊥
    no a h = omega arith

below_zero : (x : Float) → lt x zero⁺ ≡ true → neg x ≡ magnitude x
unfolding neg lt
below_zero nan h = refl
below_zero (inf true) h = refl
below_zero (inf false) h = absurd (false≢true h)
below_zero (fin true m e) h = refl
below_zero (fin false m e) h = absurd (positive_not_below m e h)

equal_zero : (x : Float) → T (fits binary64 x) → eq x zero⁺ ≡ true → zero⁺ ≡ magnitude x
equal_zero nan f h = absurd (unfold eq in false≢true h)
equal_zero (inf s) f h = absurd (unfold eq in false≢true h)
equal_zero (fin s zero e) f h = ap (fin false 0) (sym (held_zero e s f))
equal_zero (fin s (suc m) e) f h = absurd (nonzero_differs s m e h)

above_zero : (x : Float) → lt x zero⁺ ≡ false → eq x zero⁺ ≡ false → x ≡ magnitude x
above_zero nan h k = refl
above_zero (inf true) h k = absurd (true≢false (sym minus_infinity_below ∙ h))
above_zero (inf false) h k = refl
above_zero (fin true zero e) h k = absurd (true≢false (sym (zero_equal true e) ∙ k))
above_zero (fin true (suc m) e) h k = absurd (true≢false (sym (negative_below m e) ∙ h))
above_zero (fin false m e) h k = refl

pub magnitude_negative : (x : Float) → lt x (of_bits binary64 0) ≡ true → neg x ≡ magnitude x
magnitude_negative x h = below_zero x (ap (lt x) (sym zero_is) ∙ h)

pub magnitude_zero : (x : Float) → T (fits binary64 x) → eq x (of_bits binary64 0) ≡ true → of_bits binary64 0 ≡ magnitude x
magnitude_zero x f h = zero_is ∙ equal_zero x f (ap (eq x) (sym zero_is) ∙ h)

pub magnitude_positive : (x : Float) → lt x (of_bits binary64 0) ≡ false → eq x (of_bits binary64 0) ≡ false → x ≡ magnitude x
magnitude_positive x h k = above_zero x (ap (lt x) (sym zero_is) ∙ h) (ap (eq x) (sym zero_is) ∙ k)
