-- The ordered copy: `descending xs` is in order, holds the floats of xs equally often, and is the only such list.
use mathlib.Core.Path.{◌≡◌, refl, sym, ap, ◌∙◌, subst}
use mathlib.Core.Bool.{Bool, true, false, not, cond}
use mathlib.Core.List.{List, [], ◌∷◌}
use Prim.Native.Nat.{ℕ, suc, ◌+◌, ◌-◌, ◌^◌, ◌≤◌, ◌<◌}
use native.Mathlib.Nat.{le_refl, le_trans, le_of_lt, le_antisymm}
use native.Mathlib.Numerals.{add-one}
use native.Mathlib.Omega.{arith}
use lib.Dec.{T, ltb, eqb, ltb→lt, nltb→le}
use lib.ListN.{length, get_or}
use lib.Ieee.{Float, nan, binary64, to_bits, of_bits, fits}
use lib.Ieee.Bits.{of_bits-to_bits, to_bits-lt}
use borrow.Author.Tests.{eq-eqb, eqb-true}
use Rattle.std.specs.List.{sum_by}
use Rattle.std.specs.List.Sorted.{IsPermutation, IsSortedByKey}
use Rattle.std.specs.Ordering.{is_lt, nat_cmp}
use Rattle.std.proofs.lemmas.Bool.Decides.{nat_tests}
use Rattle.std.proofs.lemmas.List.Sums.{sum_by-cons}
use Rattle.std.proofs.lemmas.List.Sorted.{sum_by-IsPermutation}
use Rattle.floats.specs.TotalOrder.{rank}
use Rattle.floats.proofs.Sign.{either}
use Rattle.diagnostics.specs.Sorting.{upper, lower, insert, insert_each, descending, All, Descending, one_if, occurrences, SameFloats, Binary64}
use Rattle.diagnostics.specs.OrderedCopy.{CopyInOrder, OnlyCopy}

-- ---- what holds of every entry still does in the ordered copy
module _ (P : Float → Type 0) where
  insert_all : (x : Float) (ys : List Float) → P x → All P ys → All P (insert x ys)
  unfolding insert
  insert_all x [] p h = (p, tt)
  insert_all x (y ∷ ys) p h =
      let b = ltb (rank y) (rank x) in
      (either P b x y p h.0, insert_all (lower x y) ys (either P b y x h.0 p) h.1)

  insert_each_all : (done xs : List Float) → All P done → All P xs → All P (insert_each done xs)
  unfolding insert_each
  insert_each_all done [] d h = d
  insert_each_all done (x ∷ xs) d h = insert_each_all (insert x done) xs (insert_all x done h.0 d) h.1

  pub descending_all : (xs : List Float) → All P xs → All P (descending xs)
  unfolding descending
  descending_all xs h = insert_each_all [] xs tt h

-- ---- in order
all_below : (r s : ℕ) (ys : List Float) → r ≤ s → All (λ y. rank y ≤ r) ys → All (λ y. rank y ≤ s) ys
all_below r s [] h u = u
all_below r s (y ∷ ys) h u = (le_trans u.0 h, all_below r s ys h u.1)

upper_first : (x y : Float) → (rank x ≤ rank (upper x y)) × (rank y ≤ rank (upper x y))
upper_first x y = go (ltb (rank y) (rank x)) (ltb→lt (rank y) (rank x)) (nltb→le (rank y) (rank x))
  where
    go : (b : Bool) → (T b → rank y < rank x) → (T (not b) → rank x ≤ rank y) → (rank x ≤ rank (cond b x y)) × (rank y ≤ rank (cond b x y))
    go true h k = (le_refl (rank x), le_of_lt (h tt))
    go false h k = (k tt, le_refl (rank y))

insert_descending : (x : Float) (ys : List Float) → Descending ys → Descending (insert x ys)
unfolding insert
insert_descending x [] d = (tt, tt)
insert_descending x (y ∷ ys) d =
    let u = upper_first x y in
    let r = rank (upper x y) in (
      insert_all (λ z. rank z ≤ r) (lower x y) ys (either (λ z. rank z ≤ r) (ltb (rank y) (rank x)) y x u.1 u.0) (all_below (rank y) r ys u.1 d.0),
      insert_descending (lower x y) ys d.1,
    )

insert_each_descending : (done xs : List Float) → Descending done → Descending (insert_each done xs)
unfolding insert_each
insert_each_descending done [] d = d
insert_each_descending done (x ∷ xs) d = insert_each_descending (insert x done) xs (insert_descending x done d)

pub descending_ordered : (xs : List Float) → Descending (descending xs)
unfolding descending
descending_ordered xs = insert_each_descending [] xs tt

-- ---- as many entries, and the same floats equally often
insert_length : (x : Float) (ys : List Float) → length (insert x ys) ≡ suc (length ys)
unfolding insert
insert_length x [] = refl
insert_length x (y ∷ ys) = ap suc (insert_length (lower x y) ys)

insert_each_length : (done xs : List Float) → length (insert_each done xs) ≡ length done + length xs
unfolding insert_each
insert_each_length done [] = omega arith
insert_each_length done (x ∷ xs) =
    let h = insert_each_length (insert x done) xs in
    let i = insert_length x done in
    omega arith

pub descending_length : (xs : List Float) → length (descending xs) ≡ length xs
unfolding descending
descending_length xs = let h = insert_each_length [] xs in omega arith

-- 1 where x has the pattern b
abbrev count : ℕ → Float → ℕ
count b x = one_if (eqb (to_bits binary64 x) b)

occurrences_cons : (b : ℕ) (x : Float) (xs : List Float) → occurrences b (x ∷ xs) ≡ count b x + occurrences b xs
unfolding occurrences
occurrences_cons b x xs = refl

occurrences_none : (b : ℕ) → occurrences b [] ≡ 0
unfolding occurrences
occurrences_none b = refl

two_of : (b : ℕ) (c : Bool) (x y : Float) → count b (cond c x y) + count b (cond c y x) ≡ count b x + count b y
two_of b true x y = refl
two_of b false x y = omega arith

insert_occurrences : (b : ℕ) (x : Float) (ys : List Float) → occurrences b (insert x ys) ≡ count b x + occurrences b ys
unfolding insert
insert_occurrences b x [] = occurrences_cons b x []
insert_occurrences b x (y ∷ ys) =
    let t = two_of b (ltb (rank y) (rank x)) x y in
    let h = insert_occurrences b (lower x y) ys in
    let m = occurrences_cons b (upper x y) (insert (lower x y) ys) in
    let n = occurrences_cons b y ys in
    omega arith

insert_each_occurrences : (b : ℕ) (done xs : List Float) → occurrences b (insert_each done xs) ≡ occurrences b done + occurrences b xs
unfolding insert_each
insert_each_occurrences b done [] = let e = occurrences_none b in omega arith
insert_each_occurrences b done (x ∷ xs) =
    let h = insert_each_occurrences b (insert x done) xs in
    let i = insert_occurrences b x done in
    let n = occurrences_cons b x xs in
    omega arith

descending_same : (xs : List Float) → SameFloats (descending xs) xs
unfolding descending
descending_same xs b =
    let h = insert_each_occurrences b [] xs in
    let e = occurrences_none b in
    omega arith

-- ---- the only such list
-- the rank of a pattern
abbrev rank_of : ℕ → ℕ
rank_of b = cond (ltb b (2 ^ 63)) (b + 2 ^ 63) (2 ^ 64 - 1 - b)

rank_is : (x : Float) → rank x ≡ rank_of (to_bits binary64 x)
unfolding rank
rank_is x = refl

rank_of_injective : (a b : ℕ) → a < 2 ^ 64 → b < 2 ^ 64 → rank_of a ≡ rank_of b → a ≡ b
rank_of_injective a b h k e = go (ltb a (2 ^ 63)) (ltb b (2 ^ 63)) (ltb→lt a (2 ^ 63)) (nltb→le a (2 ^ 63)) (ltb→lt b (2 ^ 63)) (nltb→le b (2 ^ 63)) e
  where
    go : (p q : Bool) → (T p → a < 2 ^ 63) → (T (not p) → 2 ^ 63 ≤ a) → (T q → b < 2 ^ 63) → (T (not q) → 2 ^ 63 ≤ b)
        → cond p (a + 2 ^ 63) (2 ^ 64 - 1 - a) ≡ cond q (b + 2 ^ 63) (2 ^ 64 - 1 - b) → a ≡ b
    go true true al ag bl bg e = omega arith
    go true false al ag bl bg e = let l = bg tt in omega arith
    go false true al ag bl bg e = let l = ag tt in omega arith
    go false false al ag bl bg e = omega arith

-- values of binary64 of the same rank are the same
rank_injective : (x y : Float) → T (fits binary64 x) → T (fits binary64 y) → rank x ≡ rank y → x ≡ y
rank_injective x y f g e =
    let b = rank_of_injective (to_bits binary64 x) (to_bits binary64 y) (to_bits-lt binary64 x f) (to_bits-lt binary64 y g) (sym (rank_is x) ∙ e ∙ rank_is y) in
    sym (of_bits-to_bits binary64 x f) ∙ ap (of_bits binary64) b ∙ of_bits-to_bits binary64 y g

-- a pattern that is in the list has a rank no higher than every entry's bound
occurs_below : (r b : ℕ) (zs : List Float) → All (λ z. rank z ≤ r) zs → 0 < occurrences b zs → rank_of b ≤ r
occurs_below r b [] u h = absurd (no (occurrences_none b) h)
  where
    no : occurrences b [] ≡ 0 → 0 < occurrences b [] → ⊥
    no e h = omega arith
occurs_below r b (z ∷ zs) u h = go (eqb (to_bits binary64 z) b) refl (occurrences_cons b z zs) (occurs_below r b zs u.1)
  where
    go : (c : Bool) → eqb (to_bits binary64 z) b ≡ c → occurrences b (z ∷ zs) ≡ count b z + occurrences b zs → (0 < occurrences b zs → rank_of b ≤ r) → rank_of b ≤ r
    go true e m k = subst (λ (a : ℕ). rank_of a ≤ r) (eqb-true (to_bits binary64 z) b e) (subst (λ (n : ℕ). n ≤ r) (rank_is z) u.0)
    go false e m k = k (let o : one_if (eqb (to_bits binary64 z) b) ≡ 0 = ap one_if e in omega arith)

occurs : (y : Float) (ys : List Float) → 0 < occurrences (to_bits binary64 y) (y ∷ ys)
occurs y ys =
    let m = occurrences_cons (to_bits binary64 y) y ys in
    let e : one_if (eqb (to_bits binary64 y) (to_bits binary64 y)) ≡ 1 = ap one_if (eq-eqb (to_bits binary64 y) (to_bits binary64 y) refl) in
    omega arith

first_below : (y z : Float) (ys zs : List Float) → Descending (z ∷ zs) → SameFloats (y ∷ ys) (z ∷ zs) → rank y ≤ rank z
first_below y z ys zs d s =
    let b = to_bits binary64 y in
    subst (λ (n : ℕ). n ≤ rank z) (sym (rank_is y)) (occurs_below (rank z) b (z ∷ zs) (le_refl (rank z), d.0) (subst (λ (n : ℕ). 0 < n) (s b) (occurs y ys)))

none_occurs : (z : Float) (zs : List Float) → SameFloats (z ∷ zs) [] → ⊥
none_occurs z zs s = no (to_bits binary64 z) (s (to_bits binary64 z)) (occurs z zs)
  where
    no : (b : ℕ) → occurrences b (z ∷ zs) ≡ occurrences b [] → 0 < occurrences b (z ∷ zs) → ⊥
    no b h k = let n = occurrences_none b in omega arith

one_order : (ys zs : List Float) → Binary64 ys → Binary64 zs → Descending ys → Descending zs → SameFloats ys zs → ys ≡ zs
one_order [] [] f g d e s = refl
one_order [] (z ∷ zs) f g d e s = absurd (none_occurs z zs (λ b. sym (s b)))
one_order (y ∷ ys) [] f g d e s = absurd (none_occurs y ys s)
one_order (y ∷ ys) (z ∷ zs) f g d e s =
    let h : y ≡ z = rank_injective y z f.0 g.0 (le_antisymm (first_below y z ys zs e s) (first_below z y zs ys d (λ b. sym (s b)))) in
    let rest : SameFloats ys zs = λ b. rest_of b (occurrences_cons b y ys) (occurrences_cons b z zs) (ap (count b) h) (s b) in
    ap (λ (v : Float). v ∷ ys) h ∙ ap (λ (l : List Float). z ∷ l) (one_order ys zs f.1 g.1 d.1 e.1 rest)
  where
    rest_of : (b : ℕ) → occurrences b (y ∷ ys) ≡ count b y + occurrences b ys → occurrences b (z ∷ zs) ≡ count b z + occurrences b zs
        → count b y ≡ count b z → occurrences b (y ∷ ys) ≡ occurrences b (z ∷ zs) → occurrences b ys ≡ occurrences b zs
    rest_of b m n e s = omega arith

pub copy_in_order : CopyInOrder
copy_in_order xs = (descending_ordered xs, descending_same xs)

pub descending_only : OnlyCopy
descending_only xs ys f g d s = one_order ys (descending xs) g (descending_all (λ x. T (fits binary64 x)) xs f) d (descending_ordered xs) (λ b. s b ∙ sym (descending_same xs b))

-- ---- the library's sort: neighbours that do not rise, and the same floats
binary64_from : (xs : List Float) → ((i : ℕ) → T (fits binary64 (get_or xs i nan))) → Binary64 xs
binary64_from [] f = tt
binary64_from (x ∷ xs) f = (f 0, binary64_from xs (λ i. f (suc i)))

not_less : (a b : ℕ) → is_lt (nat_cmp a b) ≡ false → b ≤ a
not_less a b h = grind (arith, nat_tests)

descending_from : (ys : List Float) → IsSortedByKey rank (λ a b. nat_cmp b a) ys → Descending ys
descending_from [] h = tt
descending_from (x ∷ []) h = (tt, tt)
descending_from (x ∷ y ∷ ys) h =
    let first : rank y ≤ rank x = not_less (rank x) (rank y) (h 0 nan (omega arith) (omega arith)) in
    let d = descending_from (y ∷ ys) (λ k e l m. rw (add-one k) (rw (add-one (suc k)) at (h (suc k) e (omega arith) (omega arith)))) in
    ((first, all_below (rank y) (rank x) ys first d.0), d)

occurrences_sum : (b : ℕ) (xs : List Float) → occurrences b xs ≡ sum_by (count b) xs
occurrences_sum b [] = occurrences_none b
occurrences_sum b (x ∷ xs) = let h = occurrences_sum b xs in let e = occurrences_cons b x xs in let s = sum_by-cons (count b) x xs in omega arith

pub sorted_is : (xs ys : List Float) → ((i : ℕ) → T (fits binary64 (get_or xs i nan))) → ((i : ℕ) → T (fits binary64 (get_or ys i nan)))
    → IsPermutation xs ys → IsSortedByKey rank (λ a b. nat_cmp b a) ys → ys ≡ descending xs
sorted_is xs ys f g p s =
    descending_only xs ys (binary64_from xs f) (binary64_from ys g) (descending_from ys s)
    (λ b. occurrences_sum b ys ∙ sum_by-IsPermutation (count b) xs ys p ∙ sym (occurrences_sum b xs))
