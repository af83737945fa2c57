-- There is one way to write z as the steps ask: `Split z` settles m and k.
use mathlib.Core.Path.{◌≡◌, sym, ap, ◌∙◌, subst}
use mathlib.Core.Logic.{inl, inr}
use mathlib.Core.Bool.{false}
use Prim.Native.Nat.{ℕ, suc, ◌+◌, ◌*◌, ◌/◌, ◌%◌, ◌^◌, ◌≤◌, ◌<◌}
use native.Mathlib.Nat.{le_trans, le_of_eq, lt_of_not-le, not-le_of_lt, eq-or-lt_of_le, mul-one, one-mul, mul_assoc, mul_comm, mul_left_comm, mul_right_comm, mul-pos, mul-le-mul_left, mul-le-mul_right, le_of_mul-le-mul_right, eq_of_mul-eq-mul_right, pow-suc}
use native.Mathlib.Omega.{arith}
use native.Mathlib.Decide.{dec_le}
use lib.IntN.{ℤ, pos, negsuc}
use lib.Dec.{T, lit≤}
use lib.Pow.{pow_pos, pow_mono}
use lib.Ieee.{Float, binary64, up, down, fits, to_bits, of_bits}
use lib.Ieee.Bits.{of_bits-to_bits}
use lib.Ieee.Fits.{up_pos, down_pos}
use lib.Ieee.Exact.{HasValue}
use lib.Ieee.Positive.{num, den, den_pos, value→cross}
use Rattle.floats.proofs.Units.{U, value_clear}
use Rattle.floats.proofs.OneForm.{same_value}
use Rattle.floats.proofs.Pattern.{normal_value}
use Rattle.ln.specs.Logarithm.{Split}
use Rattle.ln.specs.OneSplit.{SplitUnique}
use Rattle.ln.proofs.Split.{last_first}

-- ---- m is Y * 2 ^ 1021 units, with Y from C up to below 2 * C
abbrev C : ℕ
C = 2 ^ 52 + 0x6a09e * 2 ^ 32

pub record Near (m : Float) : Type 0 where
  pub Y : ℕ
  pub lo : C ≤ Y
  pub hi : Y < 2 * C
  pub value : HasValue m false (Y * 2 ^ 1021) U

near_bits : (n : ℕ) → 0x3fe6a09e ≤ n / 2 ^ 32 → n / 2 ^ 32 < 0x3ff6a09e → Near (of_bits binary64 n)
near_bits n lo hi = elim (dec_le (1023 * 2 ^ 52) n) [
  | yes g ↦
      let t = n % 2 ^ 52 in
      let e : suc 1022 * 2 ^ 52 + t ≡ n = omega arith in
      record {
        Y = (2 ^ 52 + t) * 2;
        lo = omega arith;
        hi = omega arith;
        value =
            subst (λ (y : ℕ). HasValue (of_bits binary64 y) false ((2 ^ 52 + t) * 2 * 2 ^ 1021) U) e
            (subst (λ (y : ℕ). HasValue (of_bits binary64 (suc 1022 * 2 ^ 52 + t)) false y U) (sym (mul_assoc (2 ^ 52 + t) 2 (2 ^ 1021))) (normal_value 1022 t (omega arith) (omega arith)));
      }
  | no g ↦
      let t = n % 2 ^ 52 in
      let e : suc 1021 * 2 ^ 52 + t ≡ n = omega arith in
      record {
        Y = 2 ^ 52 + t;
        lo = omega arith;
        hi = omega arith;
        value = subst (λ (y : ℕ). HasValue (of_bits binary64 y) false ((2 ^ 52 + t) * 2 ^ 1021) U) e (normal_value 1021 t (omega arith) (omega arith));
      }
]

near : (z m : Float) (k : ℤ) → T (fits binary64 m) → Split z m k → Near m
near z m k f s = subst Near (of_bits-to_bits binary64 m f) (near_bits (to_bits binary64 m) s.least s.most)

-- ---- powers of two are equal, or one is twice the other at least
abbrev Twice : (a b : ℕ) → Type 0
Twice a b = 2 * a ≤ b

double : (a b : ℕ) → a < b → Twice (2 ^ a) (2 ^ b)
double a b h = le_trans (le_of_eq (mul_comm 2 (2 ^ a) ∙ sym (pow-suc 2 a))) (pow_mono h)

data Order (k l : ℤ) : Type 0 where
  same : k ≡ l → Order k l
  under : Twice (up k * down l) (up l * down k) → Order k l
  over : Twice (up l * down k) (up k * down l) → Order k l

data Natural (a b : ℕ) : Type 0 where
  eq : a ≡ b → Natural a b
  lt : a < b → Natural a b
  gt : b < a → Natural a b

natural : (a b : ℕ) → Natural a b
natural a b = elim (dec_le a b) [ yes g ↦ elim (eq-or-lt_of_le g) [ inl e ↦ eq e | inr l ↦ lt l ] | no g ↦ gt (lt_of_not-le g) ]

mixed : (a b : ℕ) → Twice (1 * 1) (2 ^ a * 2 ^ suc b)
mixed a b = le_trans (le_trans (lit≤ {m = 2} {n = 2} tt) (double_one b)) (le_trans (le_of_eq (sym (one-mul (2 ^ suc b)))) (mul-le-mul_right (2 ^ suc b) (pow_pos a)))
  where
    double_one : (b : ℕ) → 2 ≤ 2 ^ suc b
    double_one b = pow_mono {i = 1} {j = suc b} (omega arith)

ordered : (k l : ℤ) → Order k l
ordered (pos a) (pos b) = elim (natural a b) [
  | eq e ↦ same (ap pos e)
  | lt h ↦ under (subst (λ (x : ℕ). 2 * x ≤ 2 ^ b * 1) (sym (mul-one (2 ^ a))) (subst (λ (x : ℕ). 2 * 2 ^ a ≤ x) (sym (mul-one (2 ^ b))) (double a b h)))
  | gt h ↦ over (subst (λ (x : ℕ). 2 * x ≤ 2 ^ a * 1) (sym (mul-one (2 ^ b))) (subst (λ (x : ℕ). 2 * 2 ^ b ≤ x) (sym (mul-one (2 ^ a))) (double b a h)))
]
ordered (pos a) (negsuc b) = over (mixed a b)
ordered (negsuc a) (pos b) = under (mixed b a)
ordered (negsuc a) (negsuc b) = elim (natural a b) [
  | eq e ↦ same (ap negsuc e)
  | lt h ↦ over (subst (λ (x : ℕ). 2 * x ≤ 1 * 2 ^ suc b) (sym (one-mul (2 ^ suc a))) (subst (λ (x : ℕ). 2 * 2 ^ suc a ≤ x) (sym (one-mul (2 ^ suc b))) (double (suc a) (suc b) (step a b h))))
  | gt h ↦ under (subst (λ (x : ℕ). 2 * x ≤ 1 * 2 ^ suc a) (sym (one-mul (2 ^ suc b))) (subst (λ (x : ℕ). 2 * 2 ^ suc b ≤ x) (sym (one-mul (2 ^ suc a))) (double (suc b) (suc a) (step b a h))))
]
  where
    step : (a b : ℕ) → a < b → suc a < suc b
    step a b h = omega arith

-- ---- two ways to write z
-- z * U * d = Y * P * u, without m's denominator
lean : (nz dz nm dm Y P u d : ℕ) → 0 < dm → nz * dm * d ≡ nm * u * dz → nm * U ≡ Y * P * dm → nz * U * d ≡ Y * P * u * dz
lean nz dz nm dm Y P u d D w v =
    eq_of_mul-eq-mul_right dm D (nz * U * d) (Y * P * u * dz)
    (one nz U d dm ∙ ap (λ (x : ℕ). x * U) w ∙ last_first nm u dz U ∙ ap (λ (x : ℕ). x * (u * dz)) v ∙ sym (last_first (Y * P) u dz dm))
  where
    one : (a b c e : ℕ) → a * b * c * e ≡ a * e * c * b
    one a b c e = simp (mul_assoc, mul_comm, mul_left_comm)

joint : (N Y W P u d s e dz : ℕ) → 0 < P → 0 < dz → N * d ≡ Y * P * u * dz → N * e ≡ W * P * s * dz → Y * (u * e) ≡ W * (s * d)
joint N Y W P u d s e dz PP D p q =
    eq_of_mul-eq-mul_right (P * dz) (mul-pos PP D) (Y * (u * e)) (W * (s * d))
    (one Y u e P dz ∙ ap (λ (x : ℕ). x * e) (sym p) ∙ mul_right_comm N d e ∙ ap (λ (x : ℕ). x * d) q ∙ sym (one W s d P dz))
  where
    one : (Y u e P dz : ℕ) → Y * (u * e) * (P * dz) ≡ Y * P * u * dz * e
    one Y u e P dz = simp (mul_assoc, mul_comm, mul_left_comm)

-- Y * a = W * b with b twice a at least needs a Y of twice W at least
too_far : (Y W a b : ℕ) → 0 < a → C ≤ W → Y < 2 * C → Y * a ≡ W * b → 2 * a ≤ b → ⊥
too_far Y W a b A lo hi e h =
    not-le_of_lt hi (le_trans (mul-le-mul_left 2 lo) (le_of_mul-le-mul_right (le_trans (le_of_eq (mul_assoc 2 W a ∙ mul_left_comm 2 W a)) (le_trans (mul-le-mul_left W h) (le_of_eq (sym e)))) A))

pub split_unique : SplitUnique
split_unique z m w k l f g s t =
    let a = near z m k f s in
    let b = near z w l g t in
    let e = joint (num z * U) a.Y b.Y (2 ^ 1021) (up k) (down k) (up l) (down l) (den z) (pow_pos 1021) (den_pos z)
    (lean (num z) (den z) (num m) (den m) a.Y (2 ^ 1021) (up k) (down k) (den_pos m) s.whole (value→cross m (a.Y * 2 ^ 1021) U a.value))
    (lean (num z) (den z) (num w) (den w) b.Y (2 ^ 1021) (up l) (down l) (den_pos w) t.whole (value→cross w (b.Y * 2 ^ 1021) U b.value)) in
    elim (ordered k l) [
      | same q ↦
          let y : a.Y ≡ b.Y = eq_of_mul-eq-mul_right (up l * down l) (mul-pos (up_pos l) (down_pos l)) a.Y b.Y (subst (λ (i : ℤ). a.Y * (up i * down l) ≡ b.Y * (up l * down i)) q e) in
          (together m w (a.Y * 2 ^ 1021) f g a.value (subst (λ (x : ℕ). HasValue w false (x * 2 ^ 1021) U) (sym y) b.value), q)
      | under h ↦ absurd (too_far a.Y b.Y (up k * down l) (up l * down k) (mul-pos (up_pos k) (down_pos l)) b.lo a.hi e h)
      | over h ↦ absurd (too_far b.Y a.Y (up l * down k) (up k * down l) (mul-pos (up_pos l) (down_pos k)) a.lo b.hi (sym e) h)
    ]
  where
    together : (m w : Float) (X : ℕ) → T (fits binary64 m) → T (fits binary64 w) → HasValue m false X U → HasValue w false X U → m ≡ w
    together m w X f g v u =
        same_value m w f g (value_clear X m v) (value_clear X w u)
        (eq_of_mul-eq-mul_right U (pow_pos 1074) (num m * den w) (num w * den m)
        (mul_right_comm (num m) (den w) U ∙ ap (λ (x : ℕ). x * den w) (value→cross m X U v) ∙ mul_right_comm X (den m) (den w) ∙ ap (λ (x : ℕ). x * den m) (sym (value→cross w X U u)) ∙ mul_right_comm (num w) U (den m)))
