-- What shows that a value is the closest to a root (`closest_of`): inequalities between whole numbers, in units of the format's smallest value. The values next to
-- Q * 2 ^ k, for a Q that has all digits, are 2 ^ k away, or nearer where Q is the least such Q, and below it.
use mathlib.Core.Path.{◌≡◌, sym, ap, ◌∙◌, subst}
use mathlib.Core.Logic.{◌⊎◌, inl, inr}
use mathlib.Core.Bool.{false}
use Prim.Native.Nat.{ℕ, suc, ◌+◌, ◌-◌, ◌*◌, ◌^◌, ◌≤◌, ◌<◌, zero-le}
use native.Mathlib.Nat.{le_refl, le_trans, le_of_eq, lt_of_lt_of_le, lt_of_le_of_lt, le_of_lt, eq-or-lt_of_le, add-mul, mul-add, mul_assoc, mul_comm, mul_left_comm, mul_right_comm, suc-mul, mul-pos, mul-le-mul, mul-le-mul_left, mul-le-mul_right, mul-lt-mul_of_pos_right, lt_of_mul-lt-mul_right, add-le-add, lt_of_not-le, not-le_of_lt}
use native.Mathlib.Omega.{arith}
use native.Mathlib.Decide.{dec_le}
use lib.Dec.{T}
use lib.Pow.{pow_pos, pow-add, pow_mono}
use lib.Ieee.{Float, binary64, fits}
use lib.Ieee.Digits.{back}
use lib.Ieee.Exact.{HasValue}
use lib.Ieee.Positive.{num, den, den_pos, value→cross}
use Rattle.sqrt.specs.SquareRoot.{Closest}
use Rattle.floats.proofs.Units.{U, few_digits, lt→units, value_clear}

-- ---- the gaps
-- the two cases of an exponent: a * 2 ^ j is a multiple of 2 ^ k, or below 2 ^ 52 * 2 ^ k
multiple : (a j k : ℕ) → a < 2 ^ 53 → ((b : ℕ) × (a * 2 ^ j ≡ b * 2 ^ k)) ⊎ (a * 2 ^ j < 2 ^ 52 * 2 ^ k)
multiple a j k h = elim (dec_le k j) [
  | yes g ↦ inl (a * 2 ^ (j - k), ap (λ (z : ℕ). a * 2 ^ z) (sym (back j k g)) ∙ ap (λ (z : ℕ). a * z) (pow-add 2 (j - k) k) ∙ sym (mul_assoc a (2 ^ (j - k)) (2 ^ k)))
  | no g ↦ inr (lt_of_lt_of_le (mul-lt-mul_of_pos_right h (pow_pos j)) (le_trans (le_of_eq (sym (pow-add 2 53 j))) (le_trans (pow_mono (more j k (lt_of_not-le g))) (le_of_eq (pow-add 2 52 k)))))
]
  where
    more : (j k : ℕ) → j < k → 53 + j ≤ 52 + k
    more j k l = omega arith

gap_below : (Q k a j : ℕ) → 2 ^ 52 < Q → a < 2 ^ 53 → a * 2 ^ j < Q * 2 ^ k → a * 2 ^ j + 2 ^ k ≤ Q * 2 ^ k
gap_below Q k a j q s h = go (multiple a j k s)
  where
    at : (b : ℕ) → suc b ≤ Q → b * 2 ^ k + 2 ^ k ≤ Q * 2 ^ k
    at b l = le_trans (le_of_eq (sym (suc-mul b (2 ^ k)))) (mul-le-mul_right (2 ^ k) l)

    go : ((b : ℕ) × (a * 2 ^ j ≡ b * 2 ^ k)) ⊎ (a * 2 ^ j < 2 ^ 52 * 2 ^ k) → a * 2 ^ j + 2 ^ k ≤ Q * 2 ^ k
    go (inl t) = subst (λ (z : ℕ). z + 2 ^ k ≤ Q * 2 ^ k) (sym t.1) (at t.0 (lt_of_mul-lt-mul_right (2 ^ k) (subst (λ (z : ℕ). z < Q * 2 ^ k) t.1 h)))
    go (inr l) = le_trans (add-le-add (le_of_lt l) (le_refl (2 ^ k))) (at (2 ^ 52) q)

gap_above : (Q k a j : ℕ) → 2 ^ 52 ≤ Q → a < 2 ^ 53 → Q * 2 ^ k < a * 2 ^ j → Q * 2 ^ k + 2 ^ k ≤ a * 2 ^ j
gap_above Q k a j q s h = go (multiple a j k s)
  where
    go : ((b : ℕ) × (a * 2 ^ j ≡ b * 2 ^ k)) ⊎ (a * 2 ^ j < 2 ^ 52 * 2 ^ k) → Q * 2 ^ k + 2 ^ k ≤ a * 2 ^ j
    go (inl t) =
        subst (λ (z : ℕ). Q * 2 ^ k + 2 ^ k ≤ z) (sym t.1)
        (le_trans (le_of_eq (sym (suc-mul Q (2 ^ k)))) (mul-le-mul_right (2 ^ k) (lt_of_mul-lt-mul_right (2 ^ k) (subst (λ (z : ℕ). Q * 2 ^ k < z) t.1 h))))
    go (inr l) = absurd (not-le_of_lt h (le_of_lt (lt_of_lt_of_le l (mul-le-mul_right (2 ^ k) q))))

-- ---- the two sides of `Closest`, in units
module _ (nx dx nr dr ny dy X G Y : ℕ) (px : nx * U ≡ X * dx) (pr : nr * U ≡ G * dr) (py : ny * U ≡ Y * dy) where
  left_units : (nr * dy + ny * dr) * (nr * dy + ny * dr) * dx * (U * U) ≡ (G + Y) * (G + Y) * (dr * dy * (dr * dy) * dx)
  left_units =
      let one : (nr * dy + ny * dr) * U ≡ (G + Y) * (dr * dy) =
      add-mul (nr * dy) (ny * dr) U
      ∙ ap (λ (z : ℕ). z + ny * dr * U) (mul_right_comm nr dy U ∙ ap (λ (z : ℕ). z * dy) pr ∙ mul_assoc G dr dy)
      ∙ ap (λ (z : ℕ). G * (dr * dy) + z) (mul_right_comm ny dr U ∙ ap (λ (z : ℕ). z * dr) py ∙ mul_assoc Y dy dr ∙ ap (λ (z : ℕ). Y * z) (mul_comm dy dr))
      ∙ sym (add-mul G Y (dr * dy)) in
      let S = nr * dy + ny * dr in
      let D = dr * dy in
      let K = G + Y in
      shuffle S dx U
      ∙ ap (λ (z : ℕ). z * z * dx) one
      ∙ shuffle₂ K D dx
    where
      shuffle : (S dx u : ℕ) → S * S * dx * (u * u) ≡ S * u * (S * u) * dx
      shuffle S dx u = simp (mul_assoc, mul_comm, mul_left_comm)

      shuffle₂ : (K D dx : ℕ) → K * D * (K * D) * dx ≡ K * K * (D * D * dx)
      shuffle₂ K D dx = simp (mul_assoc, mul_left_comm)

  right_units : 4 * nx * (dr * dy * (dr * dy)) * (U * U) ≡ 4 * (X * U) * (dr * dy * (dr * dy) * dx)
  right_units = shuffle 4 nx (dr * dy) U ∙ ap (λ (z : ℕ). 4 * (z * U) * (dr * dy * (dr * dy))) px ∙ shuffle₂ 4 X dx U (dr * dy)
    where
      shuffle : (f n D u : ℕ) → f * n * (D * D) * (u * u) ≡ f * (n * u * u) * (D * D)
      shuffle f n D u = simp (mul_assoc, mul_comm, mul_left_comm)

      shuffle₂ : (f X dx u D : ℕ) → f * (X * dx * u) * (D * D) ≡ f * (X * u) * (D * D * dx)
      shuffle₂ f X dx u D = simp (mul_assoc, mul_comm, mul_left_comm)

  units_under : 0 < dr * dy * (dr * dy) * dx → (G + Y) * (G + Y) < 4 * (X * U) → (nr * dy + ny * dr) * (nr * dy + ny * dr) * dx < 4 * nx * (dr * dy * (dr * dy))
  units_under D h =
      lt_of_mul-lt-mul_right (U * U)
      (subst (λ (z : ℕ). z < 4 * nx * (dr * dy * (dr * dy)) * (U * U)) (sym left_units)
      (subst (λ (z : ℕ). (G + Y) * (G + Y) * (dr * dy * (dr * dy) * dx) < z) (sym right_units) (mul-lt-mul_of_pos_right h D)))

  units_over : 0 < dr * dy * (dr * dy) * dx → 4 * (X * U) < (G + Y) * (G + Y) → 4 * nx * (dr * dy * (dr * dy)) < (nr * dy + ny * dr) * (nr * dy + ny * dr) * dx
  units_over D h =
      lt_of_mul-lt-mul_right (U * U)
      (subst (λ (z : ℕ). 4 * nx * (dr * dy * (dr * dy)) * (U * U) < z) (sym left_units)
      (subst (λ (z : ℕ). z < (G + Y) * (G + Y) * (dr * dy * (dr * dy) * dx)) (sym right_units) (mul-lt-mul_of_pos_right h D)))

-- ---- the inequalities that show it
double : (G : ℕ) → (G + G) * (G + G) ≡ 4 * (G * G)
double G = simp (mul-add, add-mul) (omega arith)

square_lt : (a b : ℕ) → a < b → a * a < b * b
square_lt a b h = lt_of_le_of_lt (mul-le-mul_left a (le_of_lt h)) (mul-lt-mul_of_pos_right h (lt_of_le_of_lt (zero-le {n = a}) h))

-- r is G = (P + 1) * 2 ^ k units and x is X units, so the root of x is that of N = X * U units: it lies strictly between the middles on r's two sides, at a distance of half of 2 ^ k.
-- Where the value below r is nearer than that, r is not above the root.
pub closest_of : (x r : Float) (X P k : ℕ) → HasValue x false X U → HasValue r false (suc P * 2 ^ k) U → T (fits binary64 r) → 2 ^ 52 ≤ suc P
    → (suc P * 2 ^ k + P * 2 ^ k) * (suc P * 2 ^ k + P * 2 ^ k) < 4 * (X * U)
    → 4 * (X * U) < (suc P * 2 ^ k + (suc P * 2 ^ k + 2 ^ k)) * (suc P * 2 ^ k + (suc P * 2 ^ k + 2 ^ k))
    → (2 ^ 52 ≡ suc P → suc P * 2 ^ k * (suc P * 2 ^ k) ≤ X * U)
    → Closest x r
closest_of x r X P k vx vr f big lo hi edge = record {
  held = f;
  finite = value_clear (suc P * 2 ^ k) r vr;
  above = λ y fy py l.
      let d = few_digits y fy py in
      let Y = d.0 * 2 ^ d.1 in
      units_under (num x) (den x) (num r) (den r) (num y) (den y) X (suc P * 2 ^ k) Y (value→cross x X U vx) (value→cross r (suc P * 2 ^ k) U vr) (value→cross y Y U d.3) (dens y)
      (below_root d.0 d.1 d.2 (lt→units y r Y (suc P * 2 ^ k) d.3 vr l) (eq-or-lt_of_le big));
  below = λ y fy py l.
      let d = few_digits y fy py in
      let Y = d.0 * 2 ^ d.1 in
      let g = gap_above (suc P) k d.0 d.1 big d.2 (lt→units r y (suc P * 2 ^ k) Y vr d.3 l) in
      let h : suc P * 2 ^ k + (suc P * 2 ^ k + 2 ^ k) ≤ suc P * 2 ^ k + Y = add-le-add (le_refl (suc P * 2 ^ k)) g in
      units_over (num x) (den x) (num r) (den r) (num y) (den y) X (suc P * 2 ^ k) Y (value→cross x X U vx) (value→cross r (suc P * 2 ^ k) U vr) (value→cross y Y U d.3) (dens y)
      (lt_of_lt_of_le hi (mul-le-mul h h));
}
  where
    dens : (y : Float) → 0 < den r * den y * (den r * den y) * den x
    dens y = mul-pos (mul-pos (mul-pos (den_pos r) (den_pos y)) (mul-pos (den_pos r) (den_pos y))) (den_pos x)

    down_one : (Y : ℕ) → Y + 2 ^ k ≤ suc P * 2 ^ k → Y ≤ P * 2 ^ k
    down_one Y h = drop_it Y (P * 2 ^ k) (2 ^ k) (subst (λ (z : ℕ). Y + 2 ^ k ≤ z) (suc-mul P (2 ^ k)) h)
      where
        drop_it : (a b c : ℕ) → a + c ≤ b + c → a ≤ b
        drop_it a b c h = omega arith

    below_root : (a j : ℕ) → a < 2 ^ 53 → a * 2 ^ j < suc P * 2 ^ k → (2 ^ 52 ≡ suc P) ⊎ (2 ^ 52 < suc P)
        → (suc P * 2 ^ k + a * 2 ^ j) * (suc P * 2 ^ k + a * 2 ^ j) < 4 * (X * U)
    below_root a j s l (inl e) =
        lt_of_lt_of_le (square_lt (suc P * 2 ^ k + a * 2 ^ j) (suc P * 2 ^ k + suc P * 2 ^ k) (grow (suc P * 2 ^ k) (a * 2 ^ j) l))
        (le_trans (le_of_eq (double (suc P * 2 ^ k))) (mul-le-mul_left 4 (edge e)))
      where
        grow : (g y : ℕ) → y < g → g + y < g + g
        grow g y h = omega arith
    below_root a j s l (inr q) =
        let h : suc P * 2 ^ k + a * 2 ^ j ≤ suc P * 2 ^ k + P * 2 ^ k = add-le-add (le_refl (suc P * 2 ^ k)) (down_one (a * 2 ^ j) (gap_below (suc P) k a j q s l)) in
        lt_of_le_of_lt (mul-le-mul h h) lo
