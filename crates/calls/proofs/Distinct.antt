-- Tags that differ where they are not 0: one of them becomes another.
use Prim.Native.Nat.{ℕ, zero, suc, ◌<◌}
use native.Mathlib.Omega.{arith}
use mathlib.Core.Path.{◌≡◌, refl, sym, ap, ◌∙◌}
use mathlib.Core.Bool.{Bool, true, false, cond}
use mathlib.Core.Logic.{◌≢◌}
use mathlib.Core.List.{List, [], ◌∷◌}
use mathlib.Core.Option.{Option, none, some, map}
use borrow.Author.Tests.{eq-eqb, ne_eqb, eqb-false}
use lib.Dec.{eqb}
use lib.ListN.{length, get_or, set, replicate}
use Rattle.store.specs.Slots.{first_index}

unfoldable pub Distinct : List ℕ → Type 0
unfolding first_index
Distinct [] = Unit {0}
Distinct (t ∷ ts) = (t ≢ 0 → first_index t ts ≡ none) × Distinct ts

-- ---- a tag that no entry has

pub none_cons : (t x : ℕ) (ts : List ℕ) → first_index t (x ∷ ts) ≡ none → (x ≢ t) × (first_index t ts ≡ none)
unfolding first_index
none_cons t x ts e = go (eqb x t) refl (first_index t ts) e
  where
    go : (b : Bool) → eqb x t ≡ b → (o : Option ℕ) → cond b (some 0) (map suc o) ≡ none → (x ≢ t) × (o ≡ none)
    go true f o h = let z : ◌≡◌ {A = ℕ} 0 1 = cc in absurd (omega arith)
    go false f none h = (eqb-false x t f, refl)
    go false f (some i) h = let z : ◌≡◌ {A = ℕ} 0 1 = cc in absurd (omega arith)

cons_none : (t x : ℕ) (ts : List ℕ) → x ≢ t → first_index t ts ≡ none → first_index t (x ∷ ts) ≡ none
unfolding first_index
cons_none t x ts n e = rw (ne_eqb x t n, e)

none_at : (t : ℕ) (ts : List ℕ) (j : ℕ) → t ≢ 0 → first_index t ts ≡ none → get_or ts j 0 ≢ t
none_at t [] j n e = λ f. n (sym f)
none_at t (x ∷ ts) zero n e = (none_cons t x ts e).0
none_at t (x ∷ ts) (suc j) n e = none_at t ts j n (none_cons t x ts e).1

pub none_set : (t x : ℕ) (ts : List ℕ) (j : ℕ) → x ≢ t → first_index t ts ≡ none → first_index t (set ts j x) ≡ none
none_set t x [] j n e = e
none_set t x (y ∷ ts) zero n e = cons_none t x ts n (none_cons t y ts e).1
none_set t x (y ∷ ts) (suc j) n e = let k = none_cons t y ts e in cons_none t y (set ts j x) k.0 (none_set t x ts j n k.1)

-- ---- entry j becomes x

-- no entry has a tag once the one that had it is free
pub none_freed : (t : ℕ) (ts : List ℕ) (j : ℕ) → t ≢ 0 → Distinct ts → get_or ts j 0 ≡ t → first_index t (set ts j 0) ≡ none
unfolding Distinct
none_freed t [] j n h e = absurd (n (sym e))
none_freed t (x ∷ ts) zero n h e = cons_none t 0 ts (λ f. n (sym f)) (ap (λ (k : ℕ). first_index k ts) (sym e) ∙ h.0 (λ f. n (sym e ∙ f)))
none_freed t (x ∷ ts) (suc j) n h e = cons_none t x (set ts j 0) (λ f. none_at t ts j n (ap (λ (k : ℕ). first_index k ts) (sym f) ∙ h.0 (λ g. n (sym f ∙ g))) e) (none_freed t ts j n h.1 e)

pub distinct_set : (x : ℕ) (ts : List ℕ) (j : ℕ) → Distinct ts → (x ≢ 0 → first_index x (set ts j 0) ≡ none) → Distinct (set ts j x)
unfolding Distinct
distinct_set x [] j h f = tt
distinct_set x (y ∷ ts) zero h f = (λ n. (none_cons x 0 ts (f n)).1, h.1)
distinct_set x (y ∷ ts) (suc j) h f =
    (λ n. none_set y x ts j (λ e. (none_cons x y (set ts j 0) (f (λ z. n (sym e ∙ z)))).0 (sym e)) (h.0 n), distinct_set x ts j h.1 (λ n. (none_cons x y (set ts j 0) (f n)).1))

pub first_put : (x : ℕ) (ts : List ℕ) (j : ℕ) → j < length ts → first_index x (set ts j 0) ≡ none → first_index x (set ts j x) ≡ some j
unfolding first_index
first_put x [] j l e = absurd (omega arith)
first_put x (y ∷ ts) zero l e = rw (eq-eqb x x refl)
first_put x (y ∷ ts) (suc j) l e = let k = none_cons x y (set ts j 0) e in rw (ne_eqb y x k.0, first_put x ts j (omega (arith, l)) k.1)

-- any other tag stands where it stood
pub first_other : (t x : ℕ) (ts : List ℕ) (j : ℕ) → x ≢ t → get_or ts j 0 ≢ t → first_index t (set ts j x) ≡ first_index t ts
unfolding first_index
first_other t x [] j n g = refl
first_other t x (y ∷ ts) zero n g = rw (ne_eqb x t n, ne_eqb y t g)
first_other t x (y ∷ ts) (suc j) n g = ap (λ (o : Option ℕ). cond (eqb y t) (some 0) (map suc o)) (first_other t x ts j n g)

-- ---- where all tags are 0

pub distinct_zeros : (n : ℕ) → Distinct (replicate n 0)
unfolding Distinct
distinct_zeros zero = tt
distinct_zeros (suc n) = (λ z. absurd (z refl), distinct_zeros n)

pub none_zeros : (t n : ℕ) → t ≢ 0 → first_index t (replicate n 0) ≡ none
unfolding first_index
none_zeros t zero h = refl
none_zeros t (suc n) h = cons_none t 0 (replicate n 0) (λ e. h (sym e)) (none_zeros t n h)
