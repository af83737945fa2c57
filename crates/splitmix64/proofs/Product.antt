-- The product of two numbers of 64 bits modulo 2 ^ 64, by halves of 32 bits.
use Rattle.std.proofs.Common.{◌≡◌, ℕ, ◌+◌, ◌-◌, ◌*◌, ◌/◌, ◌%◌, ◌^◌, ◌<◌, sym, ap, ◌∙◌, lt_of_le_of_lt, mul_assoc, mul_comm, add-mul, mul-le-mul, div-add-mod', mul-add, mul_left_comm, arith}
use native.Mathlib.Nat.{mul-add-mod_self_left}

-- halves below 2 ^ 32 have a product that fits
pub half_product : (x y : ℕ) → x < 2 ^ 32 → y < 2 ^ 32 → x * y < 2 ^ 64
half_product x y h k = lt_of_le_of_lt (mul-le-mul {n₁ = x} {m₁ = y} {n₂ = 2 ^ 32 - 1} {m₂ = 2 ^ 32 - 1} (omega arith) (omega arith)) (omega arith)

abbrev P : ℕ
P = 2 ^ 32

opened : (a0 a1 b0 b1 p : ℕ) → (a1 * p + a0) * (b1 * p + b0) ≡ a1 * b1 * (p * p) + (a1 * b0 + a0 * b1) * p + a0 * b0
opened a0 a1 b0 b1 p = simp (mul-add, add-mul, mul_assoc, mul_comm, mul_left_comm) (omega arith)

-- n = h * 2 ^ 64 + (x + y) * 2 ^ 32 + l, of which only the lower half of x + y stays
carry : (x y : ℕ) → x + y ≡ (x / 2 ^ 32 + y / 2 ^ 32 + (x % 2 ^ 32 + y % 2 ^ 32) / 2 ^ 32) * 2 ^ 32 + (x % 2 ^ 32 + y % 2 ^ 32) % 2 ^ 32
carry x y = omega arith

linear : (n h x y l q m : ℕ) → n ≡ h * 2 ^ 64 + (x + y) * 2 ^ 32 + l → x + y ≡ q * 2 ^ 32 + m → n ≡ 2 ^ 64 * (h + q) + (l + m * 2 ^ 32)
linear n h x y l q m e f = omega arith

pub wrapped : (a b : ℕ) → (a % P * (b % P) + (a / P * (b % P) % P + a % P * (b / P) % P) % P * P) % 2 ^ 64 ≡ a * b % 2 ^ 64
wrapped a b =
    let x = a / P * (b % P) in
    let y = a % P * (b / P) in
    let l = a % P * (b % P) in
    let m = (x % P + y % P) % P in
    let q = x / P + y / P + (x % P + y % P) / P in
    let n : a * b ≡ a / P * (b / P) * 2 ^ 64 + (x + y) * P + l =
    ap (λ (z : ℕ). z * b) (sym (div-add-mod' a P)) ∙ ap (λ (z : ℕ). (a / P * P + a % P) * z) (sym (div-add-mod' b P)) ∙ opened (a % P) (a / P) (b % P) (b / P) P in
    sym (ap (λ (z : ℕ). z % 2 ^ 64) (linear (a * b) (a / P * (b / P)) x y l q m n (carry x y)) ∙ mul-add-mod_self_left (2 ^ 64) (a / P * (b / P) + q) (l + m * P))
