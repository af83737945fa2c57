-- Eight other numbers are kept exactly where no slot is left for a number.
use Prim.Native.Nat.{ℕ, zero, suc, ◌+◌, ◌-◌, ◌≤◌, ◌<◌}
use native.Mathlib.Omega.{arith}
use mathlib.Core.Path.{◌≡◌, refl, sym, ap, ◌∙◌}
use mathlib.Core.Bool.{Bool, true, false, cond, ◌&&◌, ◌||◌, not, false≢true}
use mathlib.Core.Logic.{◌⊎◌, inl, inr, ◌≢◌}
use mathlib.Core.List.{List, [], ◌∷◌}
use mathlib.Core.Option.{Option, none, some, map}
use borrow.Author.Tests.{eq-eqb, ne_eqb, eqb-true, eqb-false}
use lib.Dec.{eqb}
use lib.ListN.{length, get_or}
use Rattle.store.specs.Slots.{first_index}
use Rattle.calls.proofs.Distinct.{Distinct, none_cons}
use Rattle.calls.specs.Calls.{count_below}

-- ---- how many numbers below N have a property

pub count_same : (N : ℕ) (p q : ℕ → Bool) → ((m : ℕ) → m < N → p m ≡ q m) → count_below N p ≡ count_below N q
unfolding count_below
count_same zero p q h = refl
count_same (suc N) p q h = rw (h N (omega arith), count_same N p q (λ m l. h m (omega (arith, l))))

count_none : (N : ℕ) (p : ℕ → Bool) → ((m : ℕ) → p m ≡ false) → count_below N p ≡ 0
unfolding count_below
count_none zero p h = refl
count_none (suc N) p h = rw (h N) (count_none N p h)

-- k has q and not p, and all else alike
count_more : (N k : ℕ) (p q : ℕ → Bool) → k < N → p k ≡ false → q k ≡ true → ((m : ℕ) → m ≢ k → q m ≡ p m) → count_below N q ≡ suc (count_below N p)
unfolding count_below
count_more zero k p q l x y h = absurd (omega (arith, l))
count_more (suc N) k p q l x y h = go (eqb k N) refl (count_more N k p q)
  where
    go : (b : Bool) → eqb k N ≡ b → (k < N → p k ≡ false → q k ≡ true → ((m : ℕ) → m ≢ k → q m ≡ p m) → count_below N q ≡ suc (count_below N p)) → cond (q N) (suc (count_below N q)) (count_below N q) ≡ suc (cond (p N) (suc (count_below N p)) (count_below N p))
    go true e r =
        let z = eqb-true k N e in
        rw (ap q (sym z) ∙ y, ap p (sym z) ∙ x, count_same N q p (λ m g. h m (λ f. omega (arith, z, f, g))))
    go false e r = let n = eqb-false k N e in rw (h N (λ f. n (sym f)), r (omega (arith, l, n)) x y h) (same (p N))
      where
        same : (b : Bool) → cond b (suc (suc (count_below N p))) (suc (count_below N p)) ≡ suc (cond b (suc (count_below N p)) (count_below N p))
        same true = refl
        same false = refl

-- ---- how many tags are neither 0 nor t

abbrev spare : ℕ → ℕ → Bool
spare t x = eqb x 0 || eqb x t

spare_true : (t x : ℕ) → spare t x ≡ true → x ≡ 0 ⊎ x ≡ t
spare_true t x e = go (eqb x 0) refl e
  where
    go : (a : Bool) → eqb x 0 ≡ a → (a || eqb x t) ≡ true → x ≡ 0 ⊎ x ≡ t
    go true f e = inl (eqb-true x 0 f)
    go false f e = inr (eqb-true x t e)

spare_false : (t x : ℕ) → spare t x ≡ false → (x ≢ 0) × (x ≢ t)
spare_false t x e = go (eqb x 0) refl e
  where
    go : (a : Bool) → eqb x 0 ≡ a → (a || eqb x t) ≡ false → (x ≢ 0) × (x ≢ t)
    go true f e = absurd (false≢true (sym e))
    go false f e = (eqb-false x 0 f, eqb-false x t e)

abbrev pub taken : ℕ → List ℕ → ℕ
taken t [] = 0
taken t (x ∷ ts) = cond (spare t x) (taken t ts) (suc (taken t ts))

abbrev pub found : Option ℕ → Bool
found none = false
found (some j) = true

-- n is another number, and one of the tags is its
abbrev other : ℕ → List ℕ → ℕ → Bool
other n ts m = not (eqb m n) && found (first_index (m + 1) ts)

module _ (n x : ℕ) (ts : List ℕ) (h : x ≢ 0 → first_index x ts ≡ none) (l : x ≤ 256) where
  found_next : (m : ℕ) → x ≢ m + 1 → found (first_index (m + 1) (x ∷ ts)) ≡ found (first_index (m + 1) ts)
  unfolding first_index
  found_next m e = rw (ne_eqb x (m + 1) e) (go (first_index (m + 1) ts))
    where
      go : (o : Option ℕ) → found (map suc o) ≡ found o
      go none = refl
      go (some j) = refl

  same_count : x ≡ 0 ⊎ x ≡ n + 1 → count_below 256 (other n (x ∷ ts)) ≡ count_below 256 (other n ts)
  same_count s = count_same 256 (other n (x ∷ ts)) (other n ts) (λ m g. go m s (eqb m n) refl)
    where
      go : (m : ℕ) → x ≡ 0 ⊎ x ≡ n + 1 → (b : Bool) → eqb m n ≡ b → (not b && found (first_index (m + 1) (x ∷ ts))) ≡ (not b && found (first_index (m + 1) ts))
      go m s true e = refl
      go m (inl z) false e = found_next m (λ f. omega (arith, z, f))
      go m (inr z) false e = found_next m (λ f. eqb-false m n e (omega (arith, z, f)))

  one_more : x ≢ 0 → x ≢ n + 1 → count_below 256 (other n (x ∷ ts)) ≡ suc (count_below 256 (other n ts))
  unfolding first_index
  one_more g f =
      let k = x - 1 in
      let z : x ≡ k + 1 = omega (arith, g) in
      let y = ne_eqb k n (λ e. f (omega (arith, z, e))) in
      count_more 256 k (other n ts) (other n (x ∷ ts)) (omega (arith, l, g)) (rw (y, ← z, h g)) (rw (y, eq-eqb x (k + 1) z)) (λ m e. ap (λ (b : Bool). not (eqb m n) && b) (found_next m (λ w. e (omega (arith, w)))))

-- every other number that is kept has its tag, and every tag a number
pub counted : (n : ℕ) (ts : List ℕ) → Distinct ts → ((i : ℕ) → i < length ts → get_or ts i 0 ≤ 256) → count_below 256 (other n ts) ≡ taken (n + 1) ts
unfolding Distinct
counted n [] h l = count_none 256 (other n []) (λ m. go (not (eqb m n)))
  where
    go : (b : Bool) → (b && false) ≡ false
    go true = refl
    go false = refl
counted n (x ∷ ts) h l = go (spare (n + 1) x) refl (counted n ts h.1 (λ i g. l (suc i) (omega (arith, g))))
  where
    go : (b : Bool) → spare (n + 1) x ≡ b → count_below 256 (other n ts) ≡ taken (n + 1) ts → count_below 256 (other n (x ∷ ts)) ≡ cond b (taken (n + 1) ts) (suc (taken (n + 1) ts))
    go true e r = same_count n x ts h.0 (l 0 (omega arith)) (spare_true (n + 1) x e) ∙ r
    go false e r = let f = spare_false (n + 1) x e in one_more n x ts h.0 (l 0 (omega arith)) f.0 f.1 ∙ ap suc r

-- ---- all tags are taken, or there is room

pub all_taken : (t : ℕ) (ts : List ℕ) → first_index t ts ≡ none → first_index 0 ts ≡ none → taken t ts ≡ length ts
all_taken t [] e f = refl
all_taken t (x ∷ ts) e f =
    let y = none_cons t x ts e in
    let z = none_cons 0 x ts f in
    rw (ne_eqb x 0 z.0, ne_eqb x t y.0, all_taken t ts y.1 z.1)

taken_most : (t : ℕ) (ts : List ℕ) → taken t ts ≤ length ts
taken_most t [] = omega arith
taken_most t (x ∷ ts) = go (spare t x) (taken_most t ts)
  where
    go : (b : Bool) → taken t ts ≤ length ts → cond b (taken t ts) (suc (taken t ts)) ≤ suc (length ts)
    go true h = omega (arith, h)
    go false h = omega (arith, h)

pub not_taken : (t : ℕ) (ts : List ℕ) (j : ℕ) → j < length ts → get_or ts j 0 ≡ 0 ⊎ get_or ts j 0 ≡ t → taken t ts < length ts
not_taken t [] j l s = absurd (omega (arith, l))
not_taken t (x ∷ ts) zero l s = go (spare t x) refl s
  where
    go : (b : Bool) → spare t x ≡ b → x ≡ 0 ⊎ x ≡ t → cond b (taken t ts) (suc (taken t ts)) < suc (length ts)
    go true e s = omega (arith, taken_most t ts)
    go false e (inl z) = absurd ((spare_false t x e).0 z)
    go false e (inr z) = absurd ((spare_false t x e).1 z)
not_taken t (x ∷ ts) (suc j) l s = go (spare t x) (not_taken t ts j (omega (arith, l)) s)
  where
    go : (b : Bool) → taken t ts < length ts → cond b (taken t ts) (suc (taken t ts)) < suc (length ts)
    go true h = omega (arith, h)
    go false h = omega (arith, h)
