-- The values that are answered without a root: those below zero by a NaN; a NaN, the zeros and the infinity by themselves.
use mathlib.Core.Path.{◌≡◌, refl, sym, ap, ◌∙◌}
use mathlib.Core.Bool.{true, false, true≢false}
use Prim.Native.Nat.{zero, suc, ◌≤◌, ◌<◌}
use native.Mathlib.Nat.{lt_irrefl, lt_of_lt_of_le}
use lib.Dec.{T}
use lib.Ieee.{Float, nan, inf, fin, binary64, fits, lt, ne, div, of_bits, to_bits}
use lib.Ieee.Compare.{differs_from_itself}
use Rattle.floats.specs.Arithmetic.{zero⁺}
use Rattle.floats.proofs.Ordinary.{ordinary, ordinary_pattern}
use Rattle.floats.proofs.Zero.{zero_is, zero_by_zero, of_true, zero_not_below, positive_not_below, infinity_not_below, minus_infinity_below, negative_below}
use Rattle.sqrt.specs.SquareRoot.{root}

pub nan_root : (x : Float) → ne x x ≡ true → x ≡ root x
unfolding root
nan_root x e = let n = differs_from_itself x (of_true e) in n ∙ ap root (sym n)

negative_root_at : (x : Float) → lt x zero⁺ ≡ true → nan ≡ root x
unfolding root
negative_root_at nan h = refl
negative_root_at (inf true) h = refl
negative_root_at (inf false) h = absurd (true≢false (sym h ∙ infinity_not_below))
negative_root_at (fin true zero e) h = absurd (zero_not_below true e h)
negative_root_at (fin false zero e) h = absurd (zero_not_below false e h)
negative_root_at (fin true (suc m) e) h = refl
negative_root_at (fin false (suc m) e) h = absurd (positive_not_below (suc m) e h)

pub negative_root : (x : Float) → lt x (of_bits binary64 0) ≡ true → div binary64 (of_bits binary64 0) (of_bits binary64 0) ≡ root x
negative_root x h = zero_by_zero ∙ negative_root_at x (ap (lt x) (sym zero_is) ∙ h)

-- what is not below zero, and whose pattern is not one of an ordinary value
pub own_root : (x : Float) → T (fits binary64 x) → (0 < to_bits binary64 x → 0x7ff0_0000_0000_0000 ≤ to_bits binary64 x) → lt x (of_bits binary64 0) ≡ false → x ≡ root x
unfolding root of_bits
own_root nan f h k = refl
own_root (inf true) f h k = absurd (true≢false (sym minus_infinity_below ∙ k))
own_root (inf false) f h k = refl
own_root (fin true zero e) f h k = refl
own_root (fin false zero e) f h k = refl
own_root (fin true (suc m) e) f h k = absurd (true≢false (sym (negative_below m e) ∙ k))
own_root (fin false (suc m) e) f h k = let p = ordinary_pattern f (ordinary m e) in absurd (lt_irrefl _ (lt_of_lt_of_le p.1 (h p.0)))
