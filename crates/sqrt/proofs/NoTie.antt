-- The root of a value of the format is never halfway between two neighbours: the square of an odd number of more than 53 digits, times a power of two, is no number of 53 digits times a power of two.
use mathlib.Core.Path.{◌≡◌, sym, ap, ◌∙◌}
use Prim.Native.Nat.{ℕ, suc, ◌+◌, ◌-◌, ◌*◌, ◌^◌, ◌≤◌, ◌<◌}
use native.Mathlib.Nat.{le_trans, le_of_eq, lt_of_not-le, not-le_of_lt, mul_assoc, mul_left_comm, mul-one, mul-le-mul_left, eq_of_mul-eq-mul_right, pow-suc}
use native.Mathlib.Omega.{arith}
use native.Mathlib.Decide.{dec_le}
use lib.Pow.{pow_pos, pow-add}
use lib.Ieee.Digits.{back}
use Rattle.sqrt.proofs.Whole.{square_odd}

larger : (P w p : ℕ) → w ≡ 4 * p + 4 * P + 1 → 2 ^ 52 ≤ suc P → 2 ^ 53 ≤ w
larger P w p e h = omega arith

parity : (P w p b : ℕ) → w ≡ 4 * p + 4 * P + 1 → w ≡ b * 2 → ⊥
parity P w p b e h = omega arith

after : (v u : ℕ) → u < v → v ≡ suc (v - suc u) + u
after v u h = omega arith

core : (P w a v u : ℕ) → w ≡ 4 * (P * P) + 4 * P + 1 → a < 2 ^ 53 → 2 ^ 52 ≤ suc P → w * 2 ^ u ≡ a * 2 ^ v → ⊥
core P w a v u e s b h = elim (dec_le v u) [
  | yes g ↦
      let q : w * 2 ^ (u - v) ≡ a =
      eq_of_mul-eq-mul_right (2 ^ v) (pow_pos v) (w * 2 ^ (u - v)) a
      (mul_assoc w (2 ^ (u - v)) (2 ^ v) ∙ ap (λ (z : ℕ). w * z) (sym (pow-add 2 (u - v) v) ∙ ap (λ (z : ℕ). 2 ^ z) (back u v g)) ∙ h) in
      not-le_of_lt s (le_trans (larger P w (P * P) e b) (le_trans (le_of_eq (sym (mul-one w))) (le_trans (mul-le-mul_left w (pow_pos (u - v))) (le_of_eq q))))
  | no g ↦
      let z = v - suc u in
      let q : w ≡ a * 2 ^ z * 2 =
      eq_of_mul-eq-mul_right (2 ^ u) (pow_pos u) w (a * 2 ^ z * 2)
      (h
      ∙ ap (λ (y : ℕ). a * 2 ^ y) (after v u (lt_of_not-le g))
      ∙ ap (λ (y : ℕ). a * y) (pow-add 2 (suc z) u ∙ ap (λ (y : ℕ). y * 2 ^ u) (pow-suc 2 z))
      ∙ sym (mul_assoc a (2 ^ z * 2) (2 ^ u)) ∙ ap (λ (y : ℕ). y * 2 ^ u) (sym (mul_assoc a (2 ^ z) 2))) in
      parity P w (P * P) (a * 2 ^ z) e q
]

pub no_tie : (P i a v : ℕ) → a < 2 ^ 53 → 2 ^ 52 ≤ suc P → (2 * P + 1) * 2 ^ i * ((2 * P + 1) * 2 ^ i) ≡ a * 2 ^ v → ⊥
no_tie P i a v s b h = core P ((2 * P + 1) * (2 * P + 1)) a v (i + i) (square_odd P) s b (ap (λ (z : ℕ). (2 * P + 1) * (2 * P + 1) * z) (pow-add 2 i i) ∙ shuffle (2 * P + 1) (2 ^ i) ∙ h)
  where
    shuffle : (w t : ℕ) → w * w * (t * t) ≡ w * t * (w * t)
    shuffle w t = simp (mul_assoc, mul_left_comm)
