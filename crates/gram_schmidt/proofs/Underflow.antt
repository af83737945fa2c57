-- Squares that sank: each loses less than a unit of 2 ^ -1074, and a squared length that is not faint is 2 ^ 114 units at least.
use mathlib.Core.Path.{◌≡◌, refl, sym, ap, ◌∙◌, subst}
use mathlib.Core.Bool.{Bool, true, false, cond, false≢true}
use mathlib.Core.List.{List, [], ◌∷◌}
use Prim.Native.Nat.{ℕ, zero, suc, ◌+◌, ◌-◌, ◌*◌, ◌/◌, ◌^◌, ◌≤◌, ◌<◌}
use native.Mathlib.Nat.{lt_of_lt_of_le, mul-pos, mul-le-mul, mul-le-mul_left, mul-le-mul_right, le_of_mul-le-mul_right, lt_of_mul-lt-mul_right, mul-div_cancel, div-mul-le_self, le-div_iff_mul-le, div-lt_iff_lt-mul}
use native.Mathlib.Omega.{arith}
use borrow.Author.Tests.{ltb-false}
use lib.Dec.{T, ltb, ltb→lt, lit≤}
use lib.IntN.{ℤ}
use lib.ListN.{length}
use lib.Pow.{pow_pos}
use lib.Ieee.{Float, nan, inf, fin, binary64, up, down, unlike, fits, lt, mul, round}
use lib.Ieee.Fits.{down_pos}
use lib.Ieee.Exact.{HasValue}
use lib.Ieee.Scale.{finite, grid}
use Rattle.floats.specs.Arithmetic.{◌⊗◌, faint_limit}
use Rattle.floats.proofs.Units.{U, few_digits}
use Rattle.floats.proofs.Rounding.{rounded_subnormal, round_value_subnormal}
use Rattle.sqrt.proofs.Meets.{square_cancel}
use Rattle.gram_schmidt.specs.GramSchmidt.{euclidean}
use Rattle.gram_schmidt.specs.Underflow.{in_units, UnitsExact, exact_square, rounded_square, distance, lost, lost_squares, UnderflowBound}

-- ---- a value in units
units_are : (x : Float) (s : Bool) (X : ℕ) → HasValue x s X U → in_units x ≡ X
units_are nan s X h = absurd h
units_are (inf t) s X h = absurd h
units_are (fin t m e) s X h = ap (λ (z : ℕ). z / down e) h.1 ∙ mul-div_cancel X (down_pos e)

no_sign : (s : Bool) (m : ℕ) (e : ℤ) → T (fits binary64 (fin s m e)) → T (fits binary64 (fin false m e))
unfolding fits
no_sign s zero e h = h
no_sign s (suc m) e h = h

pub units_exact : UnitsExact
units_exact s m e h =
    let d = few_digits (fin false m e) (no_sign s m e h) tt in
    subst (λ (z : ℕ). m * up e * U ≡ z * down e) (sym (units_are (fin false m e) false (d.0 * 2 ^ d.1) d.3)) d.3.1

-- ---- the square of A / D, where X is the whole part of A / D in units of 1 / u
module _ (u A D X : ℕ) (d : 0 < D) (lo : X * D ≤ A * u) (hi : A * u < (X + 1) * D) where
  -- where A / D is below r units, its square is below L units
  small_square : (r L : ℕ) → r * r ≡ L * u → X < r → A * A * u < L * (D * D)
  small_square r L e h =
      let l : A * u < r * D = lt_of_lt_of_le hi (mul-le-mul_right D (next X r h)) in
      lt_of_mul-lt-mul_right u (omega (arith, mul-le-mul l l, ap (λ (z : ℕ). z * (D * D)) e))
    where
      next : (X r : ℕ) → X < r → X + 1 ≤ r
      next X r h = omega arith

  -- Q units that are at most half a unit away from it are less than a unit away from the square of X units
  near_square : (Q : ℕ) → 4 * X + 2 < u → (2 * (A * A * u) ≤ 2 * (Q * (D * D)) + D * D) × (2 * (Q * (D * D)) ≤ 2 * (A * A * u) + D * D) → distance (Q * u) (X * X) < u
  near_square Q s h =
      let under : 2 * (X * X) ≤ 2 * (Q * u) + u = le_of_mul-le-mul_right (omega (arith, mul-le-mul lo lo, mul-le-mul_right u h.0)) (mul-pos d d) in
      let over : 2 * (Q * u) ≤ 2 * ((X + 1) * (X + 1)) + u = le_of_mul-le-mul_right (omega (arith, mul-le-mul hi hi, mul-le-mul_right u h.1)) (mul-pos d d) in
      omega arith

-- ---- one entry
like : (s : Bool) → unlike s s ≡ false
like true = refl
like false = refl

square_error : (s : Bool) (m : ℕ) (e : ℤ) → let x = fin s m e in exact_square x < 2 ^ 1126 → distance (rounded_square x) (exact_square x) < U
unfolding mul
square_error s m e h =
    let A = m * up e in
    let D = down e in
    let X = A * U / D in
    let d : 0 < D = down_pos e in
    let lo : X * D ≤ A * U = div-mul-le_self (A * U) D in
    let hi : A * U < (X + 1) * D = (div-lt_iff_lt-mul d).0 (more X) in
    let few : X < 2 ^ 563 = square_cancel X (2 ^ 563) h in
    let low : A * A * U < 2 ^ 52 * (D * D) = small_square U A D X d lo hi (2 ^ 563) (2 ^ 52) refl few in
    let Q = grid binary64 (A * A) (D * D) in
    let q : in_units (fin s m e ⊗ fin s m e) ≡ Q =
    ap (λ (t : Bool). in_units (round binary64 t (A * A) (D * D))) (like s) ∙ units_are (round binary64 false (A * A) (D * D)) false Q (round_value_subnormal (A * A) (D * D) (mul-pos d d) low) in
    subst (λ (z : ℕ). distance (z * U) (X * X) < U) (sym q)
    (near_square U A D X d lo hi Q (lt_of_lt_of_le (room X (2 ^ 563) few) (lit≤ tt)) (rounded_subnormal (A * A) (D * D) (mul-pos d d) low))
  where
    more : (X : ℕ) → X < X + 1
    more X = omega arith

    room : (X r : ℕ) → X < r → 4 * X + 2 < 4 * r
    room X r h = omega arith

lost_below : (x : Float) → lost x < U
unfolding lost mul
lost_below nan = pow_pos 1074
lost_below (inf s) = pow_pos 1074
lost_below (fin s m e) = let x = fin s m e in go (ltb (exact_square x) (2 ^ 1126)) (ltb→lt (exact_square x) (2 ^ 1126))
  where
    go : (b : Bool) → (T b → exact_square (fin s m e) < 2 ^ 1126) → cond b (distance (rounded_square (fin s m e)) (exact_square (fin s m e))) 0 < U
    go true h = square_error s m e (h tt)
    go false h = pow_pos 1074

-- ---- all of them
lost_squares_below : (u : ℕ) → ((x : Float) → lost x < u) → (v : List Float) → lost_squares v ≤ length v * (u - 1)
unfolding lost_squares
lost_squares_below u h [] = omega arith
lost_squares_below u h (x ∷ v) = omega (arith, h x, lost_squares_below u h v)

-- ---- the squared length
not_faint : (q : Float) → finite q ≡ true → lt q faint_limit ≡ false → 2 ^ 114 ≤ in_units q
unfolding lt
not_faint nan f h = absurd (false≢true f)
not_faint (inf s) f h = absurd (false≢true f)
not_faint (fin true m e) f h = absurd (none (m * up e * 2 ^ 960) (down e) (ltb-false 0 (m * up e * 2 ^ 960 + 1 * down e) h) (down_pos e))
  where
    none : (a b : ℕ) → a + 1 * b ≤ 0 → 0 < b → ⊥
    none a b h p = omega arith
not_faint (fin false m e) f h = (le-div_iff_mul-le (down_pos e)).1 (times (m * up e) (2 ^ 960) (2 ^ 114) (down e) (ltb-false (m * up e * 2 ^ 960) (1 * down e) h))
  where
    times : (n p t d : ℕ) → 1 * d ≤ n * p → t * d ≤ n * (p * t)
    times n p t d h = omega (arith, mul-le-mul_left t h)

-- the sum l of n numbers below u, of which there are b at most
below_part : (c b n l u G : ℕ) → c * b ≤ 2 ^ 114 → 2 ^ 114 ≤ G → 0 < u → n ≤ b → l ≤ n * (u - 1) → c * l < G * u
below_part c b n l u G h g p few k =
    omega (arith, mul-le-mul_left c k, mul-le-mul_left c (mul-le-mul_right (u - 1) few), mul-le-mul_right (u - 1) h, mul-le-mul_right u g)

pub underflow_bound : UnderflowBound
underflow_bound v few f h = below_part _ _ _ _ _ _ (lit≤ tt) (not_faint (euclidean.report v) f h) (pow_pos 1074) few (lost_squares_below U lost_below v)
