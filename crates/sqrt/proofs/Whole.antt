-- The whole square root: `whole_root n` is the largest s with s * s ≤ n.
use mathlib.Core.Path.{◌≡◌, refl, sym}
use mathlib.Core.Bool.{Bool, true, false, not, cond}
use Prim.Native.Nat.{ℕ, zero, suc, ◌+◌, ◌*◌, ◌/◌, ◌^◌, ◌≤◌, ◌<◌}
use native.Mathlib.Nat.{le_trans, le_of_eq, lt_of_lt_of_le, add-mul, mul-add, mul_assoc, mul_comm, mul_left_comm, mul-le-mul_left, pow-suc, div-lt_iff_lt-mul, mul-one, zero-lt-suc}
use native.Mathlib.Omega.{arith}
use lib.Dec.{T, leb, leb→le, nleb→lt}
use lib.Pow.{pow_pos}
use lib.Ieee.{size}
use lib.Ieee.Digits.{size-lt}
use Rattle.sqrt.specs.SquareRoot.{next_root, root_in, whole_root}

-- s is the whole root of n
abbrev pub RootOf : ℕ → ℕ → Type 0
RootOf s n = (s * s ≤ n) × (n < (s + 1) * (s + 1))

pub square_next : (s : ℕ) → (s + 1) * (s + 1) ≡ s * s + s + s + 1
square_next s = simp (mul-add, add-mul) (omega arith)

pub square_odd : (s : ℕ) → (2 * s + 1) * (2 * s + 1) ≡ 4 * (s * s) + 4 * s + 1
square_odd s = simp (mul-add, add-mul, mul_assoc, mul_comm, mul_left_comm) (omega arith)

pub square_even : (s : ℕ) → 2 * s * (2 * s) ≡ 4 * (s * s)
square_even s = simp (mul_assoc, mul_left_comm) (omega arith)

step_linear : (s n q a b c d : ℕ) → a ≡ q + s + s + 1 → b ≡ 4 * q + 4 * s + 1 → c ≡ 4 * q → d ≡ b + (2 * s + 1) + (2 * s + 1) + 1 → q ≤ n / 4 → n / 4 < a → (b ≤ n → n < d) × (c ≤ n)
step_linear s n q a b c d ea eb ec ed l u = ((λ h. omega arith), omega arith)

pub step : (s n : ℕ) → RootOf s (n / 4) → RootOf (next_root s n) n
unfolding next_root
step s n h = go (leb b n) (leb→le b n) (nleb→lt b n)
  where
    b : ℕ
    b = (2 * s + 1) * (2 * s + 1)

    lin : (b ≤ n → n < (2 * s + 1 + 1) * (2 * s + 1 + 1)) × (2 * s * (2 * s) ≤ n)
    lin = step_linear s n (s * s) ((s + 1) * (s + 1)) b (2 * s * (2 * s)) ((2 * s + 1 + 1) * (2 * s + 1 + 1)) (square_next s) (square_odd s) (square_even s) (square_next (2 * s + 1)) h.0 h.1

    go : (t : Bool) → (T t → b ≤ n) → (T (not t) → n < b) → RootOf (cond t (2 * s + 1) (2 * s)) n
    go true p q = (p tt, lin.0 (p tt))
    go false p q = (lin.1, q tt)

pub root_in_is : (k n : ℕ) → n < 4 ^ k → RootOf (root_in k n) n
unfolding root_in
root_in_is zero n h = (omega arith, h)
root_in_is (suc k) n h = step (root_in k (n / 4)) n (root_in_is k (n / 4) ((div-lt_iff_lt-mul (zero-lt-suc 3)).1 (rw pow-suc at h)))

pow_four : (k : ℕ) → 4 ^ k ≡ 2 ^ k * 2 ^ k
pow_four zero = refl
pow_four (suc k) = simp (pow-suc, pow_four k, mul_assoc, mul_comm, mul_left_comm) (omega arith)

pub whole_root_is : (n : ℕ) → RootOf (whole_root n) n
unfolding whole_root
whole_root_is n = root_in_is (size n) n (lt_of_lt_of_le (size-lt n) (le_trans (le_of_eq (sym (mul-one (2 ^ size n)))) (le_trans (mul-le-mul_left (2 ^ size n) (pow_pos (size n))) (le_of_eq (sym (pow_four (size n)))))))
