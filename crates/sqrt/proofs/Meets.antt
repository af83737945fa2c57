-- `root` is what the standard asks: `root x` meets `IsRoot x`, for every x of the format.
use mathlib.Core.Path.{◌≡◌, refl, sym, ap, ◌∙◌, subst}
use mathlib.Core.Bool.{true, false}
use Prim.Native.Nat.{ℕ, zero, suc, ◌+◌, ◌-◌, ◌*◌, ◌/◌, ◌^◌, ◌≤◌, ◌<◌}
use native.Mathlib.Nat.{le_trans, le_of_eq, lt_of_lt_of_le, lt_of_le_of_lt, add-mul, mul-add, mul_assoc, mul_comm, mul_left_comm, mul_right_comm, one-mul, suc-mul, mul-pos, mul-le-mul, mul-le-mul_right, mul-lt-mul_of_pos_right, lt_of_mul-lt-mul_right, le_of_mul-le-mul_right, lt_of_not-le, not-le_of_lt, pow-suc, mul-div_cancel}
use native.Mathlib.Omega.{arith}
use native.Mathlib.Decide.{dec_le}
use lib.IntN.{ℤ}
use lib.Dec.{T, lit<, lit≤}
use lib.Arith.{digits_div, lt_of_le-ne}
use lib.Pow.{pow_pos, pow-add, pow_mono}
use lib.Ieee.{Float, nan, inf, fin, binary64, up, down, size, round, fits}
use lib.Ieee.Fits.{down_pos, round-fits}
use lib.Ieee.Digits.{size-lt, size_reaches}
use lib.Ieee.Exact.{HasValue}
use lib.Ieee.Nearest.{closest}
use lib.Ieee.Order.{drop, kept}
use lib.Ieee.Scale.{round_val}
use Rattle.sqrt.specs.SquareRoot.{root, whole_root, Closest}
use Rattle.sqrt.specs.OneRoot.{RootIs}
use Rattle.sqrt.proofs.Whole.{RootOf, square_even, whole_root_is}
use Rattle.sqrt.proofs.Closest.{closest_of}
use Rattle.floats.proofs.Units.{U, few_digits, under_end_of, some_of}
use Rattle.floats.proofs.Rounding.{half_away}
use Rattle.sqrt.proofs.NoTie.{no_tie}

-- ---- from bounds on the root to `Closest`: the root lies from `lo` up to below `hi`, and these lie between the two middles
module _ (P i lo hi N : ℕ) where
  sides : suc P * 2 ^ suc i + P * 2 ^ suc i ≡ 2 * ((2 * P + 1) * 2 ^ i)
  sides = ap (λ (z : ℕ). suc P * z + P * z) (pow-suc 2 i) ∙ go P (2 ^ i)
    where
      go : (P t : ℕ) → suc P * (t * 2) + P * (t * 2) ≡ 2 * ((2 * P + 1) * t)
      go P t = simp (suc-mul, add-mul, mul_assoc, mul_comm, mul_left_comm) (omega arith)

  sides_up : suc P * 2 ^ suc i + (suc P * 2 ^ suc i + 2 ^ suc i) ≡ 2 * ((2 * P + 3) * 2 ^ i)
  sides_up = ap (λ (z : ℕ). suc P * z + (suc P * z + z)) (pow-suc 2 i) ∙ go P (2 ^ i)
    where
      go : (P t : ℕ) → suc P * (t * 2) + (suc P * (t * 2) + t * 2) ≡ 2 * ((2 * P + 3) * t)
      go P t = simp (suc-mul, add-mul, mul_assoc, mul_comm, mul_left_comm) (omega arith)

four_lt : (a b : ℕ) → a < b → 4 * a < 4 * b
four_lt a b h = omega arith

pub closest_at : (x r : Float) (X P i a v lo hi : ℕ) → HasValue x false X U → X * U ≡ a * 2 ^ v → a < 2 ^ 53
    → HasValue r false (suc P * 2 ^ suc i) U → T (fits binary64 r) → 2 ^ 52 ≤ suc P
    → (2 * P + 1) * 2 ^ i ≤ lo → hi ≤ (2 * P + 3) * 2 ^ i → lo * lo ≤ X * U → X * U < hi * hi → (2 ^ 52 ≡ suc P → suc P * 2 ^ suc i ≤ lo)
    → Closest x r
closest_at x r X P i a v lo hi vx form few vr f big l h ll hh edge =
    let A = (2 * P + 1) * 2 ^ i in
    let B = (2 * P + 3) * 2 ^ i in
    let strict : A * A < X * U = lt_of_le-ne (le_trans (mul-le-mul l l) ll) (λ e. no_tie P i a v few big (e ∙ form)) in
    closest_of x r X P (suc i) vx vr f big
    (lt_of_le_of_lt (le_of_eq (ap (λ (z : ℕ). z * z) (sides P i lo hi 0) ∙ square_even A)) (four_lt (A * A) (X * U) strict))
    (lt_of_lt_of_le (four_lt (X * U) (B * B) (lt_of_lt_of_le hh (mul-le-mul h h))) (le_of_eq (sym (ap (λ (z : ℕ). z * z) (sides_up P i lo hi 0) ∙ square_even B))))
    (λ e. le_trans (mul-le-mul (edge e) (edge e)) ll)

-- ---- squares
pub square_cancel : (a b : ℕ) → a * a < b * b → a < b
square_cancel a b h = elim (dec_le b a) [ yes g ↦ absurd (not-le_of_lt h (mul-le-mul g g)) | no g ↦ lt_of_not-le g ]

-- ---- the definition's own numbers
module _ (S : ℕ) where
  abbrev n : ℕ
  n = (2 * S + 1) * U

  abbrev c : ℕ
  c = 2 ^ 1075

  whole_part : n / c ≡ S
  whole_part = ap (λ (z : ℕ). z / c) (add-mul (2 * S) 1 U ∙ ap (λ (z : ℕ). z + 1 * U) (mul_assoc 2 S U ∙ mul_left_comm 2 S U) ∙ ap (λ (z : ℕ). S * c + z) (one-mul U)) ∙ digits_div S (lit< tt)

-- Q = `kept`, with k = suc i digits dropped: the two bounds of a nearest number, without the factor U
bounds : (S Q k : ℕ) → Q ≡ closest ((2 * S + 1) * U) (2 ^ 1075 * 2 ^ k) → (2 * S + 1 ≤ (2 * Q + 1) * 2 ^ k) × (2 * Q * 2 ^ k ≤ 2 * S + 1 + 2 ^ k)
bounds S Q k e =
    let b = 2 ^ 1075 * 2 ^ k in
    let h = half_away ((2 * S + 1) * U) b (mul-pos (pow_pos 1075) (pow_pos k)) in
    let h0 : 2 * ((2 * S + 1) * U) ≤ 2 * (Q * b) + b = subst (λ (z : ℕ). 2 * ((2 * S + 1) * U) ≤ 2 * (z * b) + b) (sym e) h.0 in
    let h1 : 2 * (Q * b) ≤ 2 * ((2 * S + 1) * U) + b = subst (λ (z : ℕ). 2 * (z * b) ≤ 2 * ((2 * S + 1) * U) + b) (sym e) h.1 in
    (le_of_mul-le-mul_right (le_trans (le_of_eq (a0 S U)) (le_trans h0 (le_of_eq (a1 Q U (2 ^ k))))) (pow_pos 1075), le_of_mul-le-mul_right (le_trans (le_of_eq (b0 Q U (2 ^ k))) (le_trans h1 (le_of_eq (b1 S U (2 ^ k))))) (pow_pos 1075))
  where
    a0 : (S u : ℕ) → (2 * S + 1) * (2 * u) ≡ 2 * ((2 * S + 1) * u)
    a0 S u = mul_left_comm (2 * S + 1) 2 u

    a1 : (Q u t : ℕ) → 2 * (Q * (2 * u * t)) + 2 * u * t ≡ (2 * Q + 1) * t * (2 * u)
    a1 Q u t = simp (add-mul, mul_assoc, mul_comm, mul_left_comm) (omega arith)

    b0 : (Q u t : ℕ) → 2 * Q * t * (2 * u) ≡ 2 * (Q * (2 * u * t))
    b0 Q u t = simp (mul_assoc, mul_comm, mul_left_comm)

    b1 : (S u t : ℕ) → 2 * ((2 * S + 1) * u) + 2 * u * t ≡ (2 * S + 1 + t) * (2 * u)
    b1 S u t = simp (add-mul, mul-add, mul_assoc, mul_comm, mul_left_comm) (omega arith)

-- ---- the linear steps, each over sign-clear numbers
one_more : (z k : ℕ) → k ≡ z - 53 → 537 < z → k ≡ suc (z - 54)
one_more z k e h = omega arith

in_use : (z : ℕ) → 537 < z → 52 + suc (z - 54) < z
in_use z h = omega arith

low_side : (P H S QH PH : ℕ) → QH ≡ PH + H → 2 * QH * 2 ≤ 2 * S + 1 + H * 2 → 2 * PH + H ≤ S
low_side P H S QH PH e h = omega arith

high_side : (P H S QH PH : ℕ) → QH ≡ PH + H → 2 * S + 1 ≤ 2 * QH * 2 + H * 2 → S + 1 ≤ 2 * PH + 3 * H
high_side P H S QH PH e h = omega arith

above_half : (Q : ℕ) → 2 ^ 53 < 2 * Q + 1 → 2 ^ 52 ≤ Q
above_half Q h = omega arith

pub pred_of : (Q : ℕ) → 2 ^ 52 ≤ Q → Q ≡ suc (Q - 1)
pred_of Q h = omega arith

small_grid : (g t S B : ℕ) → 2 * g ≤ 2 * S + 1 + t → t ≤ S → S < B → g < 4 * B
small_grid g t S B h l b = omega arith

-- x is X = a * 2 ^ j units, more than none and less than the format's end
module _ (x : Float) (a j : ℕ) (vx : HasValue x false (a * 2 ^ j) U) (few : a < 2 ^ 53) (some : 0 < a * 2 ^ j) (fine : a * 2 ^ j < 2 ^ 2098) where
  abbrev N : ℕ
  N = a * 2 ^ j * U

  form : N ≡ a * 2 ^ (j + 1074)
  form = mul_assoc a (2 ^ j) U ∙ ap (λ (z : ℕ). a * z) (sym (pow-add 2 j 1074))

  module _ (S : ℕ) (is : RootOf S N) where
    reaches : 2 ^ 537 ≤ S
    reaches = under S (2 ^ 537) (square_cancel (2 ^ 537) (S + 1) (lt_of_le_of_lt (le_trans (le_of_eq (sym (one-mul U))) (mul-le-mul_right U some)) is.1))
      where
        under : (S b : ℕ) → b < S + 1 → b ≤ S
        under S b h = omega arith

    digits : 537 < size S
    digits = lt_of_not-le (λ (g : size S ≤ 537). not-le_of_lt (lt_of_lt_of_le (size-lt S) (pow_mono g)) reaches)

    ends : S < 2 ^ 1586
    ends = square_cancel S (2 ^ 1586) (lt_of_le_of_lt is.0 (mul-lt-mul_of_pos_right fine (pow_pos 1074)))

    leads : 2 ^ 52 * 2 ^ suc (size S - 54) ≤ S
    leads = le_trans (le_of_eq (sym (pow-add 2 52 (suc (size S - 54))))) (size_reaches S (52 + suc (size S - 54)) (in_use (size S) digits))

    -- Q with suc i digits dropped
    module _ (Q i : ℕ) (ii : i ≡ size S - 54) (b0 : 2 * S + 1 ≤ (2 * Q + 1) * 2 ^ suc i) (b1 : 2 * Q * 2 ^ suc i ≤ 2 * S + 1 + 2 ^ suc i) where
      leads_i : 2 ^ 52 * 2 ^ suc i ≤ S
      leads_i = subst (λ (z : ℕ). 2 ^ 52 * 2 ^ suc z ≤ S) (sym ii) leads

      full : 2 ^ 52 ≤ Q
      full = above_half Q (lt_of_mul-lt-mul_right (2 ^ suc i) (lt_of_lt_of_le (twice (2 ^ 52 * 2 ^ suc i) (2 ^ 53 * 2 ^ suc i) S (mul_assoc 2 (2 ^ 52) (2 ^ suc i)) leads_i) b0))
        where
          twice : (a b S : ℕ) → b ≡ 2 * a → a ≤ S → b < 2 * S + 1
          twice a b S e h = omega arith

      under_end : Q * 2 ^ suc i < 2 ^ 2098
      under_end = lt_of_lt_of_le (small_grid (Q * 2 ^ suc i) (2 ^ suc i) S (2 ^ 1586) (le_trans (le_of_eq (sym (mul_assoc 2 Q (2 ^ suc i)))) b1) (le_trans (le_trans (le_of_eq (sym (one-mul (2 ^ suc i)))) (mul-le-mul_right (2 ^ suc i) (lit≤ {m = 1} {n = 2 ^ 52} tt))) leads_i) ends) (lit≤ {m = 4 * 2 ^ 1586} {n = 2 ^ 2098} tt)

      module _ (P : ℕ) (e : Q ≡ suc P) where
        split : Q * 2 ^ i ≡ P * 2 ^ i + 2 ^ i
        split = ap (λ (z : ℕ). z * 2 ^ i) e ∙ suc-mul P (2 ^ i)

        lo : (2 * P + 1) * 2 ^ i ≤ S
        lo =
            subst (λ (z : ℕ). z ≤ S) (sym (open_up P (2 ^ i)))
            (low_side P (2 ^ i) S (Q * 2 ^ i) (P * 2 ^ i) split (subst (λ (z : ℕ). 2 * (Q * 2 ^ i) * 2 ≤ 2 * S + 1 + z) (pow-suc 2 i) (le_trans (le_of_eq (regroup Q (2 ^ i) (2 ^ suc i) (pow-suc 2 i))) b1)))
          where
            open_up : (P t : ℕ) → (2 * P + 1) * t ≡ 2 * (P * t) + t
            open_up P t = simp (add-mul, mul_assoc) (omega arith)

            regroup : (Q t s : ℕ) → s ≡ t * 2 → 2 * (Q * t) * 2 ≡ 2 * Q * s
            regroup Q t s e = simp (mul_assoc, mul_comm, mul_left_comm, e)

        hi : S + 1 ≤ (2 * P + 3) * 2 ^ i
        hi =
            subst (λ (z : ℕ). S + 1 ≤ z) (sym (open_up P (2 ^ i)))
            (high_side P (2 ^ i) S (Q * 2 ^ i) (P * 2 ^ i) split (le_trans b0 (le_of_eq (ap (λ (z : ℕ). (2 * Q + 1) * z) (pow-suc 2 i) ∙ regroup Q (2 ^ i)))))
          where
            open_up : (P t : ℕ) → (2 * P + 3) * t ≡ 2 * (P * t) + 3 * t
            open_up P t = simp (add-mul, mul_assoc) (omega arith)

            regroup : (Q t : ℕ) → (2 * Q + 1) * (t * 2) ≡ 2 * (Q * t) * 2 + t * 2
            regroup Q t = simp (add-mul, mul_assoc, mul_comm, mul_left_comm) (omega arith)

        shown : (r : Float) → T (fits binary64 r) → HasValue r false (Q * 2 ^ suc i) U → Closest x r
        shown r f v =
            closest_at x r (a * 2 ^ j) P i a (j + 1074) S (S + 1) vx form few (subst (λ (z : ℕ). HasValue r false (z * 2 ^ suc i) U) e v) f (subst (λ (z : ℕ). 2 ^ 52 ≤ z) e full) lo hi is.0 is.1
            (λ q. subst (λ (z : ℕ). z * 2 ^ suc i ≤ S) q leads_i)

    pub rounded : Closest x (round binary64 false (2 * S + 1) (2 ^ 1075))
    rounded =
        let Q = kept 53 ((2 * S + 1) * U) (2 ^ 1075) in
        let k = drop 53 ((2 * S + 1) * U) (2 ^ 1075) in
        let i = size S - 54 in
        let ke : k ≡ suc i = one_more (size S) k (ap (λ (z : ℕ). size z - 53) (whole_part S)) digits in
        let b = bounds S Q k refl in
        let b0 = subst (λ (z : ℕ). 2 * S + 1 ≤ (2 * Q + 1) * 2 ^ z) ke b.0 in
        let b1 = subst (λ (z : ℕ). 2 * Q * 2 ^ z ≤ 2 * S + 1 + 2 ^ z) ke b.1 in
        shown Q i refl b0 b1 (Q - 1) (pred_of Q (full Q i refl b0 b1)) (round binary64 false (2 * S + 1) (2 ^ 1075)) (round-fits binary64 false (2 * S + 1) (2 ^ 1075))
        (subst (λ (z : ℕ). HasValue (round binary64 false (2 * S + 1) (2 ^ 1075)) false (Q * 2 ^ z) U) ke
        (round_val binary64 (2 * S + 1) (2 ^ 1075) (subst (λ (z : ℕ). Q * 2 ^ z < 2 ^ 2098) (sym ke) (under_end Q i refl b0 b1))))

    -- it is far above the least normal value
    pub rounded_large : (G : ℕ) × (2 ^ 537 ≤ G) × HasValue (round binary64 false (2 * S + 1) (2 ^ 1075)) false G U
    rounded_large =
        let Q = kept 53 ((2 * S + 1) * U) (2 ^ 1075) in
        let k = drop 53 ((2 * S + 1) * U) (2 ^ 1075) in
        let i = size S - 54 in
        let ke : k ≡ suc i = one_more (size S) k (ap (λ (z : ℕ). size z - 53) (whole_part S)) digits in
        let b = bounds S Q k refl in
        let b0 = subst (λ (z : ℕ). 2 * S + 1 ≤ (2 * Q + 1) * 2 ^ z) ke b.0 in
        let b1 = subst (λ (z : ℕ). 2 * Q * 2 ^ z ≤ 2 * S + 1 + 2 ^ z) ke b.1 in (
          Q * 2 ^ suc i,
          le_trans (le_of_eq (pow-add 2 52 485)) (mul-le-mul (full Q i refl b0 b1) (pow_mono (many (size S) digits))),
          subst (λ (z : ℕ). HasValue (round binary64 false (2 * S + 1) (2 ^ 1075)) false (Q * 2 ^ z) U) ke
              (round_val binary64 (2 * S + 1) (2 ^ 1075) (subst (λ (z : ℕ). Q * 2 ^ z < 2 ^ 2098) (sym ke) (under_end Q i refl b0 b1))),
        )
      where
        many : (z : ℕ) → 537 < z → 485 ≤ suc (z - 54)
        many z h = omega arith

pub root_is : RootIs
unfolding root
root_is nan f = refl
root_is (inf true) f = refl
root_is (inf false) f = refl
root_is (fin true zero e) f = refl
root_is (fin false zero e) f = refl
root_is (fin true (suc m) e) f = refl
root_is (fin false (suc m) e) f =
    let d = few_digits (fin false (suc m) e) f tt in
    let X = d.0 * 2 ^ d.1 in
    let n : suc m * up e * 2 ^ 2148 / down e ≡ X * U =
    ap (λ (z : ℕ). z / down e) (sym (mul_assoc (suc m * up e) U U) ∙ ap (λ (z : ℕ). z * U) d.3.1 ∙ mul_right_comm X (down e) U) ∙ mul-div_cancel (X * U) (down_pos e) in
    subst (λ (z : ℕ). Closest (fin false (suc m) e) (round binary64 false (2 * whole_root z + 1) (2 ^ 1075))) (sym n)
    (rounded (fin false (suc m) e) d.0 d.1 d.3 d.2 (some_of m e X d.3.1) (under_end_of m e X f d.3.1) (whole_root (X * U)) (whole_root_is (X * U)))

pub root_value : (m : ℕ) (e : ℤ) → T (fits binary64 (fin false (suc m) e)) → (G : ℕ) × (2 ^ 537 ≤ G) × HasValue (root (fin false (suc m) e)) false G U
unfolding root
root_value m e f =
    let d = few_digits (fin false (suc m) e) f tt in
    let X = d.0 * 2 ^ d.1 in
    let n : suc m * up e * 2 ^ 2148 / down e ≡ X * U =
    ap (λ (z : ℕ). z / down e) (sym (mul_assoc (suc m * up e) U U) ∙ ap (λ (z : ℕ). z * U) d.3.1 ∙ mul_right_comm X (down e) U) ∙ mul-div_cancel (X * U) (down_pos e) in
    subst (λ (z : ℕ). (G : ℕ) × (2 ^ 537 ≤ G) × HasValue (round binary64 false (2 * whole_root z + 1) (2 ^ 1075)) false G U) (sym n)
    (rounded_large (fin false (suc m) e) d.0 d.1 d.3 d.2 (some_of m e X d.3.1) (under_end_of m e X f d.3.1) (whole_root (X * U)) (whole_root_is (X * U)))
