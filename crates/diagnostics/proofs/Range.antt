-- The dimension lies from 0 to the count for every list that is accepted, also where a sum overflows.
use mathlib.Core.Path.{◌≡◌, refl, sym, ap, ◌∙◌, subst}
use mathlib.Core.Bool.{Bool, true, false, ◌&&◌, ◌||◌, cond, beq, true≢false, false≢true}
use mathlib.Core.List.{List, [], ◌∷◌}
use Prim.Native.Nat.{ℕ, zero, suc, ◌+◌, ◌-◌, ◌*◌, ◌^◌, ◌≤◌, ◌<◌, zero-le}
use native.Mathlib.Nat.{le_trans, le_of_eq, le_of_lt, zero-add, zero-mul, mul-one, one-mul, mul_comm, mul_assoc, mul-pos, mul-le-mul_right, add-mul}
use native.Mathlib.Omega.{arith}
use lib.IntN.{ℤ, pos}
use lib.Dec.{T, ltb, eqb, ltb→lt, eqb→eq, lit<, lit≤}
use lib.ListN.{length}
use lib.Ieee.{Float, nan, inf, fin, binary64, unlike, up, down, round, sum, add, div, lt, le, of_int, is_nan}
use lib.Ieee.Fits.{down_pos}
use lib.Ieee.Exact.{HasValue}
use lib.Ieee.Back.{round_whole}
use lib.Ieee.Order.{round_mono}
use lib.Ieee.Scale.{finite}
use borrow.Author.Tests.{le-ltb, ne_eqb}
use Rattle.floats.specs.Arithmetic.{◌⊕◌, ◌⊘◌, zero⁺, one}
use Rattle.floats.specs.Magnitude.{magnitude}
use Rattle.diagnostics.specs.Sorting.{descending}
use Rattle.diagnostics.specs.Dimension.{stopped, walk, kaplan_yorke}
use Rattle.diagnostics.specs.Rates.{refused_for, dimension}
use Rattle.diagnostics.proofs.Validation.{accepted, given, Finite, all_finite}
use Rattle.diagnostics.specs.Range.{Within, DimensionRange}
use Rattle.diagnostics.proofs.Order.{descending_all, descending_length}
use Rattle.floats.proofs.Sign.{Sign, round_sign}
use Rattle.diagnostics.proofs.Sums.{clash, PartialSum, add_no_nan, no_significand, round_zero, sum_below, partial_none}

-- ---- sum / |entry|: from 0 to 1
abbrev UnitInterval : Float → Type 0
UnitInterval nan = ⊥
UnitInterval (inf s) = ⊥
UnitInterval (fin false m e) = m * up e ≤ down e
UnitInterval (fin true m e) = m ≡ 0

one_rounded : round binary64 false 1 1 ≡ one
unfolding round
one_rounded = refl

at_most : (a b : ℕ) (p : Bool) → T (ltb a b || (eqb a b && p)) → a ≤ b
at_most a b p t = go (ltb a b) (eqb a b) (ltb→lt a b) (eqb→eq a b) t
  where
    go : (x y : Bool) → (T x → a < b) → (T y → a ≡ b) → T (x || (y && p)) → a ≤ b
    go true y h k t = le_of_lt (h tt)
    go false true h k t = le_of_eq (k tt)
    go false false h k t = absurd t

le_one : (r : Float) → Sign false r → T (le r one) → UnitInterval r
unfolding le
le_one nan s t = s
le_one (inf true) s t = absurd (true≢false s)
le_one (inf false) s t = t
le_one (fin true m e) s t = absurd (true≢false s)
le_one (fin false m e) s t =
    let a = m * up e * down (pos 0) in
    let b = 1 * up (pos 0) * down e in
    let h : a ≤ b = at_most a b (beq false false || eqb a 0) t in
    le_trans (le_of_eq (sym (mul-one (m * up e)))) (le_trans h (le_of_eq (one-mul (down e))))

pos_of : (a b : ℕ) → a < b → 0 < b
pos_of a b h = omega arith

round_in_unit : (s : Bool) (a b : ℕ) → (s ≡ true → a ≡ 0) → a < b → UnitInterval (round binary64 (unlike s false) a b)
round_in_unit false a b z h =
    le_one (round binary64 false a b) (round_sign false a b)
    (subst (λ (y : Float). T (le (round binary64 false a b) y)) one_rounded
    (round_mono binary64 a b 1 1 (pos_of a b h) (lit< tt) (le_trans (le_of_eq (mul-one a)) (le_trans (le_of_lt h) (le_of_eq (sym (one-mul b)))))))
round_in_unit true a b z h = go (round binary64 true a b) (round_zero true a b (pos_of a b h) (z refl))
  where
    go : (r : Float) → HasValue r true a b → UnitInterval r
    go nan h = h
    go (inf t) h = h
    go (fin true m e) v = no_significand true m e a b (pos_of a b h) (z refl) v
    go (fin false m e) v = absurd (false≢true v.0)

div_rounded : (s : Bool) (m : ℕ) (e : ℤ) (n : ℕ) (d : ℤ) → m * up e * down d < n * up d * down e → div binary64 (fin s m e) (fin false n d) ≡ round binary64 (unlike s false) (m * up e * down d) (n * up d * down e)
unfolding div
div_rounded s m e zero d h = absurd (no (m * up e * down d) (zero * up d * down e) (ap (λ (w : ℕ). w * down e) (zero-mul (up d)) ∙ zero-mul (down e)) h)
  where
    no : (a b : ℕ) → b ≡ 0 → a < b → ⊥
    no a b e h = omega arith
div_rounded s m e (suc n) d h = rw (ne_eqb (suc n) 0 (λ (p : suc n ≡ 0). no p)) refl
  where
    no : suc n ≡ 0 → ⊥
    no p = omega arith

quotient_in_unit : (c x : Float) → PartialSum c → T (finite x) → lt (c ⊕ x) zero⁺ ≡ true → UnitInterval (c ⊘ magnitude x)
unfolding add
quotient_in_unit c nan g f h = absurd f
quotient_in_unit c (inf t) g f h = absurd f
quotient_in_unit nan (fin t n d) g f h = absurd (unfold is_nan in g.0)
quotient_in_unit (inf s) (fin t n d) g f h = absurd (clash g.1 h)
quotient_in_unit (fin s m e) (fin t n d) g f h =
    let a = m * up e * down d in
    let b = n * up d * down e in
    let z : s ≡ true → a ≡ 0 = λ p. ap (λ (w : ℕ). w * up e * down d) (partial_none s m e g.1 p) ∙ ap (λ (w : ℕ). w * down d) (zero-mul (up e)) ∙ zero-mul (down d) in
    let k = sum_below s a t b (down e * down d) (mul-pos (down_pos e) (down_pos d)) z h in
    subst UnitInterval (sym (div_rounded s m e n d k.1)) (round_in_unit s a b z k.1)

-- ---- index + that
zero_rounded : round binary64 false 0 1 ≡ zero⁺
unfolding round
zero_rounded = refl

within : (a c n : ℕ) → 0 < c → a ≤ n * c → Within (round binary64 false a c) n
unfolding of_int
within a c n C h = (
  subst (λ (y : Float). T (le y (round binary64 false a c))) zero_rounded (round_mono binary64 0 1 a c (lit< tt) C (le_trans (le_of_eq (zero-mul c)) zero-le)),
  round_mono binary64 a c n 1 C (lit< tt) (le_trans (le_of_eq (mul-one a)) h),
)

whole_within : (i n : ℕ) → i ≤ n → Within (of_int binary64 (pos i)) n
unfolding of_int
whole_within i n h = within i 1 n (lit< tt) (le_trans h (le_of_eq (sym (mul-one n))))

-- the numerator of a whole number k, over the product of two denominators
whole_part : (m k : ℕ) (e d : ℤ) → m * up e * 1 ≡ k * down e → m * up e * down d ≡ k * (down e * down d)
whole_part m k e d v = ap (λ (w : ℕ). w * down d) (sym (mul-one (m * up e)) ∙ v) ∙ mul_assoc k (down e) (down d)

added : (x q : Float) (k n : ℕ) → suc k ≤ n → HasValue x false k 1 → UnitInterval q → Within (add binary64 x q) n
unfolding add sum
added nan q k n l v u = absurd v
added (inf s) q k n l v u = absurd v
added (fin true m e) q k n l v u = absurd (true≢false v.0)
added (fin false m e) nan k n l v u = absurd u
added (fin false m e) (inf t) k n l v u = absurd u
added (fin false m e) (fin false m' d) k n l v u =
    let C = down e * down d in
    let A = m * up e * down d in
    let B = m' * up d * down e in
    let a = whole_part m k e d v.1 in
    let b : B ≤ C = le_trans (mul-le-mul_right (down e) u) (le_of_eq (mul_comm (down d) (down e))) in
    let s : (k + 1) * C ≡ k * C + 1 * C = add-mul k 1 C in
    let o : 1 * C ≡ C = one-mul C in
    let g : (k + 1) * C ≤ n * C = mul-le-mul_right C (omega arith) in
    within (A + B) C n (mul-pos (down_pos e) (down_pos d)) (omega arith)
added (fin false m e) (fin true m' d) k n l v u =
    let C = down e * down d in
    let A = m * up e * down d in
    let B = m' * up d * down e in
    let a = whole_part m k e d v.1 in
    let b : B ≡ 0 = ap (λ (w : ℕ). w * up d * down e) u ∙ ap (λ (w : ℕ). w * down e) (zero-mul (up d)) ∙ zero-mul (down e) in
    let g : k * C ≤ n * C = mul-le-mul_right C (omega arith) in
    rw (le-ltb A B (omega arith)) (within (A - B) C n (mul-pos (down_pos e) (down_pos d)) (omega arith))

stopped_within : (i n : ℕ) (c x : Float) → i < n → n ≤ 2 ^ 53 → PartialSum c → T (finite x) → lt (c ⊕ x) zero⁺ ≡ true → Within (stopped i c x) n
unfolding stopped
stopped_within zero n c x l b g f h = subst (λ (y : Float). Within y n) zero_rounded (within 0 1 n (lit< tt) zero-le)
stopped_within (suc i) n c x l b g f h = added (of_int binary64 (pos (suc i))) (c ⊘ magnitude x) (suc i) n l (unfold of_int in round_whole binary64 false (suc i) (le_trans (le_of_lt l) b)) (quotient_in_unit c x g f h)

-- ---- the walk
walk_within : (i n : ℕ) (s : Float) (xs : List Float) → i + length xs ≡ n → n ≤ 2 ^ 53 → PartialSum s → Finite xs → Within (walk i s xs) n
unfolding walk
walk_within i n s [] e b g f = whole_within i n (omega arith)
walk_within i n s (x ∷ xs) e b g f =
    go (lt (s ⊕ x) zero⁺) refl (λ (h : lt (s ⊕ x) zero⁺ ≡ false). walk_within (suc i) n (s ⊕ x) xs (omega arith) b (add_no_nan s x g.0 f.0, h) f.1)
  where
    go : (t : Bool) → lt (s ⊕ x) zero⁺ ≡ t → (lt (s ⊕ x) zero⁺ ≡ false → Within (walk (suc i) (s ⊕ x) xs) n)
        → Within (cond t (stopped i s x) (walk (suc i) (s ⊕ x) xs)) n
    go true h k = stopped_within i n s x (omega arith) b g f.0 h
    go false h k = k h

zero_sum : PartialSum zero⁺
unfolding lt is_nan
zero_sum = (tt, refl)

pub dimension_within : DimensionRange
unfolding dimension kaplan_yorke
dimension_within xs d h =
    let g = given (refused_for xs) (walk 0 zero⁺ (descending xs)) d h in
    let a = accepted xs g.0 in
    subst (λ (x : Float). Within x (length xs)) g.1
    (walk_within 0 (length xs) zero⁺ (descending xs) (zero-add (length (descending xs)) ∙ descending_length xs) (le_trans a.few (lit≤ tt)) zero_sum
    (descending_all (λ x. T (finite x)) xs (all_finite xs a.finite)))
