-- What the test of a finite float says, and the first entry that is not finite.
use mathlib.Core.Path.{◌≡◌, refl, sym, ap, ◌∙◌}
use mathlib.Core.Bool.{Bool, true, false, not, cond, true≢false, false≢true}
use mathlib.Core.List.{List, [], ◌∷◌}
use mathlib.Core.Option.{Option, none, some, map}
use Prim.Native.Nat.{ℕ, zero, suc, ◌+◌}
use native.Mathlib.Omega.{arith}
use lib.Ieee.{Float, nan, inf, fin, binary64, lt, neg, of_bits}
use lib.Ieee.Scale.{finite}
use Rattle.floats.specs.Finite.{first_not_finite, index}
use Rattle.std.specs.List.{position_from}
use Rattle.std.specs.Prelude as code
use Rattle.std.specs.Prelude.{Some}

-- the code's infinity
pub infinity_is : of_bits binary64 0x7ff0_0000_0000_0000 ≡ inf false
unfolding of_bits
infinity_is = refl

minus_infinity_is : neg (of_bits binary64 0x7ff0_0000_0000_0000) ≡ inf true
unfolding of_bits neg
minus_infinity_is = refl

below_infinity : (x : Float) → lt x (inf false) ≡ true → lt (inf true) x ≡ finite x
unfolding lt
below_infinity nan h = refl
below_infinity (inf true) h = refl
below_infinity (inf false) h = absurd (false≢true h)
below_infinity (fin s m e) h = refl

not_below_infinity : (x : Float) → lt x (inf false) ≡ false → false ≡ finite x
unfolding lt
not_below_infinity nan h = refl
not_below_infinity (inf s) h = refl
not_below_infinity (fin s m e) h = absurd (true≢false h)

pub tested_below : (x : Float) → lt x (of_bits binary64 0x7ff0_0000_0000_0000) ≡ true → lt (neg (of_bits binary64 0x7ff0_0000_0000_0000)) x ≡ finite x
tested_below x h = ap (λ (z : Float). lt z x) minus_infinity_is ∙ below_infinity x (ap (lt x) (sym infinity_is) ∙ h)

pub tested_not_below : (x : Float) → lt x (of_bits binary64 0x7ff0_0000_0000_0000) ≡ false → false ≡ finite x
tested_not_below x h = not_below_infinity x (ap (lt x) (sym infinity_is) ∙ h)

-- ---- the first entry that is not finite, where std counts from i

at_entry : (i : ℕ) (b : Bool) (r : code.Option ℕ) (o : Option ℕ) → index r ≡ map (λ j. j + (i + 1)) o → index (cond (not b) (Some i) r) ≡ map (λ j. j + i) (cond b (map suc o) (some zero))
at_entry i true r none h = h
at_entry i true r (some j) h = h ∙ ap (λ (n : ℕ). some n) (omega arith)
at_entry i false r o h = ap (λ (n : ℕ). some n) (omega arith)

counted : (i : ℕ) (xs : List Float) → index (position_from (λ x. not (finite x)) i xs) ≡ map (λ j. j + i) (first_not_finite xs)
unfolding first_not_finite
counted i [] = refl
counted i (x ∷ xs) = at_entry i (finite x) _ _ (counted (i + 1) xs)

pub position_is : (xs : List Float) → index (position_from (λ x. not (finite x)) 0 xs) ≡ first_not_finite xs
position_is xs = counted 0 xs ∙ same (first_not_finite xs)
  where
    same : (o : Option ℕ) → map (λ j. j + 0) o ≡ o
    same none = refl
    same (some j) = ap (λ (n : ℕ). some n) (omega arith)
