-- Newton's step for a whole square root: from any guess it gives at least the root.
use mathlib.Core.Path.{◌≡◌, sym, subst}
use Prim.Native.Nat.{ℕ, zero, suc, ◌+◌, ◌-◌, ◌*◌, ◌/◌, ◌≤◌, ◌<◌}
use native.Mathlib.Nat.{le_trans, lt_of_lt_of_le, lt_of_not-le, zero-lt-suc, not-suc-le-zero, lt-suc_self, mul_comm, mul-le-mul_left, div-lt_iff_lt-mul}
use native.Mathlib.Omega.{arith}
use native.Mathlib.Decide.{dec_le}

-- of two numbers with the sum 2 * c, the smaller a: their product is at most c ^ 2, by the square of the distance d from a to c
smaller : (a b c : ℕ) → a ≤ c → a + b ≤ c + c → a * b ≤ c * c
smaller a b c h s =
    let d = c - a in
    let e : c ≡ a + d = omega arith in
    subst (λ (z : ℕ). a * b ≤ z * z) (sym e) (le_trans (mul-le-mul_left a (far a b c h s)) (at a d))
  where
    far : (a b c : ℕ) → a ≤ c → a + b ≤ c + c → b ≤ a + (c - a) + (c - a)
    far a b c h s = omega arith

    at : (a d : ℕ) → a * (a + d + d) ≤ (a + d) * (a + d)
    at a d = omega arith

-- the product of two numbers is at most the square of their mean
pub product_le_square : (a b c : ℕ) → a + b ≤ c + c → a * b ≤ c * c
product_le_square a b c s = elim (dec_le a c) [
  | yes h ↦ smaller a b c h s
  | no h ↦ subst (λ (z : ℕ). z ≤ c * c) (mul_comm b a) (smaller b a c (other a b c (lt_of_not-le h) s) (swapped a b c s))
]
  where
    other : (a b c : ℕ) → c < a → a + b ≤ c + c → b ≤ c
    other a b c h s = omega arith

    swapped : (a b c : ℕ) → a + b ≤ c + c → b + a ≤ c + c
    swapped a b c s = omega arith

-- n is below (n / r + 1) * r, a product whose mean factor is at most the new guess and one
pub newton_above : (n r : ℕ) → zero < r → n < ((r + n / r) / 2 + 1) * ((r + n / r) / 2 + 1)
newton_above n r h =
    let q = n / r in
    let m = (r + q) / 2 + 1 in
    lt_of_lt_of_le ((div-lt_iff_lt-mul {k = r} {x = n} {y = suc q} h).0 (lt-suc_self q)) (product_le_square (suc q) r m (omega arith))

-- a number whose square is above another is above 0
pub sq_pos : (n r : ℕ) → n < r * r → zero < r
sq_pos n zero h = absurd (not-suc-le-zero h)
sq_pos n (suc k) h = zero-lt-suc k
