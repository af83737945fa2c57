-- The draw is at least -1 and below 1, since it is exactly (n - 2 ^ 52) / 2 ^ 52 with an n below 2 ^ 53.
use Rattle.std.proofs.Common.{◌≡◌, ℕ, suc, ◌+◌, ◌-◌, ◌*◌, ◌/◌, ◌^◌, ◌<◌, ◌≤◌, Bool, true, false, cond, not, ◌&&◌, ◌||◌, T, eqb, ltb, ◌⊎◌, pos, negsuc, sym, inl, inr, true≢false, le_trans, le_of_eq, lt_of_lt_of_le, lt_of_le_of_lt, mul-le-mul_right, mul_comm, lt_of_mul-lt-mul_right, eq-or-lt_of_le, mul-lt-mul_of_pos_right, le_of_mul-le-mul_right, arith, ltb→lt, lt→ltb, nltb→le, pow_pos, lt-ltb, eq-eqb}
use mathlib.Core.Bool.{false≢true}
use lib.Ieee.{Float, nan, inf, fin, up, down, eq, lt, le}
use lib.Ieee.Exact.{HasValue}
use lib.Ieee.Fits.{down_pos}
use Rattle.splitmix64.specs.Mix.{unit}
use Rattle.splitmix64.specs.ExactDraw.{Exactly, InRange, DrawRange}
use Rattle.splitmix64.proofs.Exact.{unit_exact}

abbrev C : ℕ
C = 2 ^ 52

at_most : (a b : ℕ) → b ≤ a → T (ltb b a || (eqb a b && true))
at_most a b h = go (eq-or-lt_of_le h)
  where
    go : (b ≡ a) ⊎ (b < a) → T (ltb b a || (eqb a b && true))
    go (inl e) = rw (eq-eqb a b (sym e), e) (or_true (ltb a a))
      where
        or_true : (t : Bool) → T (t || true)
        or_true true = tt
        or_true false = tt
    go (inr l) = rw (lt-ltb b a l) tt

-- values whose sum is above 0
above : (a b : ℕ) (q : Bool) → 0 < a → T (ltb 0 (a + b) || q) × T (ltb 0 (b + a))
above a b q h = (rw (lt-ltb 0 (a + b) (omega arith)) tt, lt→ltb 0 (b + a) (omega arith))

below_zero : (x : Float) (a : ℕ) → a ≤ C → HasValue x true a C → InRange x
unfolding le lt eq
below_zero nan a l h = absurd h
below_zero (inf s) a l h = absurd h
below_zero (fin false m e) a l h = absurd (false≢true h.0)
below_zero (fin true m e) a l h =
    let k : m * up e ≤ down e = le_of_mul-le-mul_right (le_trans (le_of_eq h.1) (le_trans (mul-le-mul_right (down e) l) (le_of_eq (mul_comm C (down e))))) (pow_pos 52) in
    (at_most (1 * 1 * down e) (m * up e * 1) (omega arith), (above (1 * 1 * down e) (m * up e * 1) false (omega (arith, down_pos e))).1)

from_zero : (x : Float) (a : ℕ) → a < C → HasValue x false a C → InRange x
unfolding le lt eq
from_zero nan a l h = absurd h
from_zero (inf s) a l h = absurd h
from_zero (fin true m e) a l h = absurd (true≢false h.0)
from_zero (fin false m e) a l h =
    let k : m * up e < down e = lt_of_mul-lt-mul_right C (lt_of_le_of_lt (le_of_eq h.1) (lt_of_lt_of_le (mul-lt-mul_of_pos_right l (down_pos e)) (le_of_eq (mul_comm C (down e))))) in
    ((above (1 * 1 * down e) (m * up e * 1) _ (omega (arith, down_pos e))).0, lt→ltb (m * up e * 1) (1 * 1 * down e) (omega arith))

pub draw_range : DrawRange
draw_range v h = go (ltb (v / 2 ^ 11) C) (ltb→lt (v / 2 ^ 11) C) (nltb→le (v / 2 ^ 11) C) (unit_exact v h)
  where
    go : (t : Bool) → (T t → v / 2 ^ 11 < C) → (T (not t) → C ≤ v / 2 ^ 11) → Exactly (unit v) (cond t (negsuc (C - suc (v / 2 ^ 11))) (pos (v / 2 ^ 11 - C))) C
        → InRange (unit v)
    go true a b e = below_zero (unit v) (suc (C - suc (v / 2 ^ 11))) (let k = a tt in omega arith) e
    go false a b e = from_zero (unit v) (v / 2 ^ 11 - C) (let k = b tt in omega arith) e
