-- A collapse means a squared length of 0 or one that is not finite: of a sum of squares as the code makes it, the test on the root is that test on the sum.
use Prim.Native.Nat.{ℕ, zero, suc, ◌+◌, ◌-◌, ◌*◌, ◌<◌}
use native.Mathlib.Nat.{zero-mul, mul-pos}
use native.Mathlib.Omega.{arith}
use mathlib.Core.Path.{◌≡◌, refl}
use mathlib.Core.Bool.{Bool, true, false, not, cond, ◌||◌, true≢false}
use mathlib.Core.List.{List, [], ◌∷◌}
use borrow.Author.Tests.{ltb-true, le-ltb, lt-ltb, ne_eqb}
use lib.Dec.{T, ltb}
use lib.IntN.{ℤ, pos, negsuc}
use lib.Ieee.{Float, nan, inf, fin, binary64, up, down, fits, below, level, lt, eq, le, add, mul, sum, round}
use lib.Ieee.Bits.{is_true}
use lib.Ieee.Fits.{up_pos, down_pos, add-fits}
use Rattle.sqrt.specs.SquareRoot.{root}
use Rattle.sqrt.proofs.Positive.{root_large}
use Rattle.floats.proofs.Ordinary.{ordinary}
use Rattle.floats.proofs.Sign.{Sign, either, round_sign}
use Rattle.floats.proofs.Zero.{refuted, zero_equal, nonzero_differs}
use Rattle.gram_schmidt.specs.Orthonormalise.{collapsed}
use Rattle.gram_schmidt.specs.GramSchmidt.{squared_length}
use Rattle.gram_schmidt.specs.Collapse.{degenerate, CollapseMeaning}
use Rattle.floats.specs.Arithmetic.{zero⁺, least_normal}
use Rattle.floats.specs.Vector.{dot_from}
use lib.Ieee.Scale.{finite}

-- no sign of its own
abbrev pub unsigned : Float → Bool
unsigned nan = true
unsigned (inf s) = not s
unsigned (fin s m e) = not s

round_unsigned : (a b : ℕ) → T (unsigned (round binary64 false a b))
round_unsigned a b = go (round binary64 false a b) (round_sign false a b)
  where
    go : (x : Float) → Sign false x → T (unsigned x)
    go nan h = tt
    go (inf false) h = tt
    go (inf true) h = absurd (true≢false h)
    go (fin false m e) h = tt
    go (fin true m e) h = absurd (true≢false h)

square_unsigned : (x : Float) → T (unsigned (mul binary64 x x))
unfolding mul
square_unsigned nan = tt
square_unsigned (inf true) = tt
square_unsigned (inf false) = tt
square_unsigned (fin true m e) = round_unsigned (m * up e * (m * up e)) (down e * down e)
square_unsigned (fin false m e) = round_unsigned (m * up e * (m * up e)) (down e * down e)

add_unsigned : (x y : Float) → T (unsigned x) → T (unsigned y) → T (unsigned (add binary64 x y))
unfolding add sum
add_unsigned nan y p q = tt
add_unsigned (inf s) nan p q = tt
add_unsigned (inf true) (inf t) p q = absurd p
add_unsigned (inf false) (inf true) p q = absurd q
add_unsigned (inf false) (inf false) p q = tt
add_unsigned (inf s) (fin t n d) p q = p
add_unsigned (fin s m e) nan p q = tt
add_unsigned (fin s m e) (inf t) p q = q
add_unsigned (fin true m e) (fin t n d) p q = absurd p
add_unsigned (fin false m e) (fin true n d) p q = absurd q
add_unsigned (fin false m e) (fin false n d) p q = round_unsigned (m * up e * down d + n * up d * down e) (down e * down d)

-- a zero of either sign added to
zero_unsigned : (s : Bool) (y : Float) → T (unsigned y) → T (unsigned (add binary64 (fin s zero (pos 0)) y))
unfolding add sum
zero_unsigned false y q = add_unsigned (fin false zero (pos 0)) y tt q
zero_unsigned true nan q = tt
zero_unsigned true (inf t) q = q
zero_unsigned true (fin true n d) q = absurd q
zero_unsigned true (fin false n d) q = go (zero * up (pos 0) * down d) (n * up d * down (pos 0)) (down (pos 0) * down d) (zero-mul (down d))
  where
    go : (a b c : ℕ) → a ≡ 0 → T (unsigned (cond (ltb a b) (round binary64 false (b - a) c) (round binary64 (ltb b a) (a - b) c)))
    go a b c e = rw (le-ltb b a (omega arith)) (either (λ x. T (unsigned x)) (ltb a b) _ _ (round_unsigned (b - a) c) (round_unsigned (a - b) c))

sum_unsigned : (s : Float) (w : List Float) → T (unsigned s) → T (fits binary64 s) → T (unsigned (dot_from s w w)) × T (fits binary64 (dot_from s w w))
unfolding dot_from
sum_unsigned s [] p f = (p, f)
sum_unsigned s (x ∷ w) p f =
    sum_unsigned (add binary64 s (mul binary64 x x)) w (add_unsigned s (mul binary64 x x) p (square_unsigned x)) (add-fits binary64 s (mul binary64 x x))

-- a value above another one is not at most that
strict : (s : Bool) (a b : ℕ) → below false b s a ≡ true → (below s a false b || level s a false b) ≡ false
strict false a b h = let l : b < a = ltb-true b a h in rw (le-ltb a b (omega arith), ne_eqb a b (λ e. omega arith))
strict true a b h = let z : ◌≡◌ {A = ℕ} 0 1 = cc in absurd (omega arith)

above : (r : Float) → T (lt least_normal r) → T (finite r) → collapsed r ≡ false
unfolding collapsed lt eq le
above nan h f = absurd h
above (inf s) h f = absurd f
above (fin s m e) h f = strict s (m * up e * down (negsuc 1021)) (1 * up (negsuc 1021) * down e) (is_true _ h)

zero_low : (s : Bool) (e : ℤ) → le (fin s zero e) least_normal ≡ true
unfolding lt eq le
zero_low s e = go s (zero * up e * down (negsuc 1021)) (1 * up (negsuc 1021) * down e) (rw (zero-mul, zero-mul)) (mul-pos {m = 1 * up (negsuc 1021)} (mul-pos {m = 1} (omega arith) (up_pos (negsuc 1021))) (down_pos e))
  where
    go : (s : Bool) (a b : ℕ) → a ≡ 0 → 0 < b → (below s a false b || level s a false b) ≡ true
    go true a b z p = rw (lt-ltb 0 (a + b) (omega arith))
    go false a b z p = rw (lt-ltb a b (omega arith))

pub of_zero : (s : Bool) (e : ℤ) → collapsed (root (fin s zero e)) ≡ degenerate (fin s zero e)
unfolding collapsed root
of_zero s e = rw (zero_low s e, zero_equal s e)

of_root : (q : Float) → T (unsigned q) → T (fits binary64 q) → collapsed (root q) ≡ degenerate q
unfolding collapsed root
of_root nan p f = refl
of_root (inf true) p f = absurd p
of_root (inf false) p f = refl
of_root (fin true m e) p f = absurd p
of_root (fin false zero e) p f = of_zero false e
of_root (fin false (suc m) e) p f = let r = root_large f (ordinary m e) in rw (refuted (eq (fin false (suc m) e) zero⁺) (nonzero_differs false m e)) (above (root (fin false (suc m) e)) r.0 r.1)

-- whichever zero the sum starts from
pub squares_unsigned : (s : Bool) (x : Float) (w : List Float) → let q = squared_length (fin s zero (pos 0)) (x ∷ w) in T (unsigned q) × T (fits binary64 q)
unfolding dot_from
squares_unsigned s x w =
    let y = mul binary64 x x in
    sum_unsigned (add binary64 (fin s zero (pos 0)) y) w (zero_unsigned s y (square_unsigned x)) (add-fits binary64 (fin s zero (pos 0)) y)

from_zero : (s : Bool) (w : List Float) → let q = squared_length (fin s zero (pos 0)) w in collapsed (root q) ≡ degenerate q
unfolding dot_from
from_zero s [] = of_zero s (pos 0)
from_zero s (x ∷ w) = let h = squares_unsigned s x w in of_root (squared_length (fin s zero (pos 0)) (x ∷ w)) h.0 h.1

pub collapse_is : CollapseMeaning
collapse_is w = from_zero _ w
