-- A whole root g with the remainder D, made 27 binary digits longer by one division.
use mathlib.Core.Path.{◌≡◌, ap, ◌∙◌}
use Prim.Native.Nat.{ℕ, zero, suc, ◌+◌, ◌-◌, ◌*◌, ◌/◌, ◌%◌, ◌^◌, ◌≤◌, ◌<◌}
use native.Mathlib.Nat.{le_of_suc-le-suc, add-mul, mul-add, mul_assoc, mul_comm, mul_left_comm, mul-le-mul, mul-le-mul_left, div-add-mod', mod-lt, div-lt_iff_lt-mul}
use native.Mathlib.Omega.{arith}
use Rattle.sqrt.proofs.Meets.{square_cancel}
use native.Mathlib.Numerals.{add-one}

pub record Long (g D q v : ℕ) : Type 0 where
  pub v_lt : v < 2 ^ 28
  pub q_le : q ≤ 2 ^ 27
  pub qq_le : q * q ≤ 2 ^ 54
  pub qq_lin : q * q ≤ q * 2 ^ 27
  pub sum : (g * 2 ^ 27 + q) * (g * 2 ^ 27 + q) + v * 2 ^ 27 ≡ (g * g + D) * 2 ^ 54 + q * q
  pub v_small : v < 2 * g

expand : (g q : ℕ) → (g * 2 ^ 27 + q) * (g * 2 ^ 27 + q) ≡ g * g * 2 ^ 54 + q * (2 * g) * 2 ^ 27 + q * q
expand g q = simp (mul-add, add-mul, mul_assoc, mul_comm, mul_left_comm) (omega arith)

join : (G D e qq v x S : ℕ) → S ≡ G * 2 ^ 54 + e * 2 ^ 27 + qq → e + v ≡ D * 2 ^ 27 → S + v * 2 ^ 27 ≡ (G + D) * 2 ^ 54 + qq
join G D e qq v x S p q = omega arith

pub long : (g D : ℕ) → D ≤ 2 * g → 2 ^ 26 ≤ g → g < 2 ^ 27 → Long g D (D * 2 ^ 27 / (2 * g)) (D * 2 ^ 27 % (2 * g))
long g D h lo hi =
    let t = D * 2 ^ 27 in
    let q = t / (2 * g) in
    let v = t % (2 * g) in
    let gp : 0 < 2 * g = omega arith in
    let vl : v < 2 * g = mod-lt t gp in
    let ql : q ≤ 2 ^ 27 = le_of_suc-le-suc ((div-lt_iff_lt-mul {k = 2 * g} {x = t} {y = suc (2 ^ 27)} gp).1 (omega arith)) in
    record {
      v_lt = omega arith;
      q_le = ql;
      qq_le = mul-le-mul ql ql;
      qq_lin = mul-le-mul_left q ql;
      sum = join (g * g) D (q * (2 * g)) (q * q) v 0 ((g * 2 ^ 27 + q) * (g * 2 ^ 27 + q)) (expand g q) (div-add-mod' t (2 * g));
      v_small = vl;
    }

-- (s - 1) ^ 2
pub pred_square : (s : ℕ) → 1 ≤ s → (s - 1) * (s - 1) + 2 * s ≡ s * s + 1
pred_square zero h = omega arith
pred_square (suc w) h = ap (λ (z : ℕ). z * z + 2 * suc w) (less w) ∙ grow w ∙ ap (λ (z : ℕ). z * z + 1) (add-one w)
  where
    less : (w : ℕ) → suc w - 1 ≡ w
    less w = omega arith

    grow : (w : ℕ) → w * w + 2 * suc w ≡ (w + 1) * (w + 1) + 1
    grow w = omega arith

-- the longer root has 54 digits
pub long_lt : (g D s r : ℕ) → g < 2 ^ 27 → D ≤ 2 * g → s * s + r ≡ (g * g + D) * 2 ^ 54 → s < 2 ^ 54
long_lt g D s r h d e =
    let gg : g * g ≤ (2 ^ 27 - 1) * (2 ^ 27 - 1) = mul-le-mul {n₁ = g} {m₁ = g} {n₂ = 2 ^ 27 - 1} {m₂ = 2 ^ 27 - 1} (omega arith) (omega arith) in
    square_cancel s (2 ^ 54) (omega arith)
