-- A ring of n cells: the list of its entries, a cell with the two before it, and the loops over the cells.
use Prim.Native.Nat.{ℕ, zero, suc, ◌+◌, ◌%◌, ◌≤◌, ◌<◌}
use native.Mathlib.Nat.{not-suc-le-zero, le_of_suc-le-suc, zero-add, add-zero, mod-lt, mod-eq_of_lt, mod_self, add-mod_right}
use native.Mathlib.Omega.{arith}
use mathlib.Core.Path.{◌≡◌, refl, sym, ap, ◌∙◌, fun_ext}
use mathlib.Core.List.{List}
use borrow.Author.Count.{below_more}
use lib.ListN.{length, take, get_or, set, length-set}
use lib.Seq.{get_or-take, get_or-set_same, get_or-set_other, ext_get_or, length-take-le}
use lib.Ieee.{Float, nan}
use Rattle.lorenz96.specs.Ring.{ring, from, cell_field, cell_tangent, ring_field, ring_tangent}
use Rattle.lorenz96.specs.Around.{Around, Following}
use Rattle.lorenz96.specs.declared.Pair.{Pair}
use Rattle.lorenz96.specs.declared.Stencil.{Stencil}

-- ---- the list of the entries f 0, f 1, and on

module _ (f : ℕ → Float) where
  pub from_length : (i n : ℕ) → length (from f i n) ≡ n
  unfolding from
  from_length i zero = refl
  from_length i (suc n) = ap suc (from_length (suc i) n)

  from_at : (i n j : ℕ) → j < n → get_or (from f i n) j nan ≡ f (i + j)
  unfolding from
  from_at i zero j h = absurd (not-suc-le-zero h)
  from_at i (suc n) zero h = rw add-zero
  from_at i (suc n) (suc j) h = from_at (suc i) n j (le_of_suc-le-suc h) ∙ ap f (omega arith)

  -- the first i entries stand in o
  abbrev pub Written : ℕ → List Float → Type 0
  Written i o = (k : ℕ) → k < i → get_or o k nan ≡ f k

  pub written_next : (i : ℕ) (o : List Float) (v : Float) → i < length o → v ≡ f i → Written i o → Written (i + 1) (set o i v)
  written_next i o v h e w = below_more _ i (λ k l. get_or-set_other o i k v nan (λ z. absurd (omega arith)) ∙ w k l) (get_or-set_same o i v nan h ∙ e)

  pub written_two : (i j : ℕ) (o : List Float) {v w : Float} → i + 1 < length o → j ≡ i + 2 → v ≡ f i → w ≡ f (i + 1) → Written i o → Written j (set (set o i v) (i + 1) w)
  written_two i j o {v} {w} h z e d g =
      let m : length (set o i v) ≡ length o = length-set o i v in
      let t : j ≡ i + 1 + 1 = omega arith in
      rw t (written_next (i + 1) (set o i v) w (omega arith) d (written_next i o v (omega arith) e g))

  pub written_all : {n : ℕ} (i : ℕ) (o : List Float) → n ≤ i → n ≤ length o → Written i o → take n o ≡ from f 0 n
  written_all {n} i o h g w =
      let l : length (take n o) ≡ n = length-take-le n o g in
      ext_get_or nan (take n o) (from f 0 n) (l ∙ sym (from_length 0 n)) (λ k t. get_or-take n o k nan (omega arith) ∙ w k (omega arith) ∙ sym (from_at 0 n k (omega arith) ∙ ap f (zero-add k)))

  -- one more, the last, at place k
  pub written_last : {n k : ℕ} (i : ℕ) (o : List Float) {v : Float} → i + 1 ≡ n → k ≡ i → n ≤ length o → v ≡ f i → Written i o → take n (set o k v) ≡ from f 0 n
  written_last i o {v} h z g e w =
      let m : length (set o i v) ≡ length o = length-set o i v in
      rw z (written_all (i + 1) (set o i v) (omega arith) (omega arith) (written_next i o v (omega arith) e w))

-- ---- the vector field and the tangent map: their lengths, and that only the first n entries of a vector count

pub field_length : (n : ℕ) (F : Float) (p : List Float) → length (ring_field n F p) ≡ n
unfolding ring_field
field_length n F p = from_length (cell_field n F (ring n p)) 0 n

pub tangent_length : (n : ℕ) (p t : List Float) → length (ring_tangent n p t) ≡ n
unfolding ring_tangent
tangent_length n p t = from_length (cell_tangent n (ring n p) (ring n t)) 0 n

ring_few : (n : ℕ) (v : List Float) → ring (suc n) v ≡ ring (suc n) (take (suc n) v)
ring_few n v = fun_ext (λ i. sym (get_or-take (suc n) v (i % suc n) nan (mod-lt i (omega arith))))

pub field_few : (n : ℕ) (F : Float) (p : List Float) → ring_field n F p ≡ ring_field n F (take n p)
unfolding ring_field
field_few zero F p = refl
field_few (suc n) F p = ap (λ (x : ℕ → Float). from (cell_field (suc n) F x) 0 (suc n)) (ring_few n p)

pub tangent_few : (n : ℕ) (p t : List Float) → ring_tangent n p t ≡ ring_tangent n (take n p) (take n t)
unfolding ring_tangent
tangent_few zero p t = refl
tangent_few (suc n) p t =
    ap (λ (x : ℕ → Float). from (cell_tangent (suc n) x (ring (suc n) t)) 0 (suc n)) (ring_few n p)
    ∙ ap (λ (u : ℕ → Float). from (cell_tangent (suc n) (ring (suc n) (take (suc n) p)) u) 0 (suc n)) (ring_few n t)

-- as the code leaves them at the front of an array o
module _ (n : ℕ) (x o : List Float) where
  pub front_field : (F : Float) → take n o ≡ from (cell_field n F (ring n x)) 0 n → take n o ≡ ring_field n F (take n x)
  unfolding ring_field
  front_field F e = e ∙ field_few n F x

  pub front_tangent : (t : List Float) → take n o ≡ from (cell_tangent n (ring n x) (ring n t)) 0 n → take n o ≡ ring_tangent n (take n x) (take n t)
  unfolding ring_tangent
  front_tangent t e = e ∙ tangent_few n x t

-- ---- a cell with the two before it, as the code moves it along

module _ (n : ℕ) (v : List Float) where
  -- one turn further is the same cell
  round : (i : ℕ) → ring n v (i + n) ≡ ring n v i
  round i = ap (λ (k : ℕ). get_or v k nan) (add-mod_right i n)

  inside : (i : ℕ) → i < n → ring n v i ≡ get_or v i nan
  inside i h = ap (λ (k : ℕ). get_or v k nan) (mod-eq_of_lt h)

  -- the last cell has the first one after it
  pub last_after : (i : ℕ) → i < n → n ≤ i + 1 → get_or v 0 nan ≡ ring n v (i + 1)
  last_after i h l = let e : i + 1 ≡ n = omega arith in sym (ap (λ (j : ℕ). get_or v j nan) (ap (λ (j : ℕ). j % n) e ∙ mod_self n))

  pub around_next : (i : ℕ) (s : Stencil) (after : Float) → 0 < n → Around n v i s → after ≡ ring n v (i + 1) → Around n v (i + 1) (record { two_before = s.before; before = s.own; own = after })
  around_next i s after h a e =
      record {
        two_before = a.before ∙ ap (ring n v) (omega arith);
        before = a.own ∙ sym (ap (ring n v) (omega arith) ∙ round i);
        own = e;
      }

-- ---- a loop over the cells, two at a time

-- it stands at cell i: `after` is loaded with it, and is the next cell unless i is the last one
pub record At (n : ℕ) (v : List Float) (i : ℕ) (s : Stencil) (after : Float) : Type 0 where
  pub around : Around n v i s
  pub next : i + 1 < n → after ≡ ring n v (i + 1)

module _ {n : ℕ} {v : List Float} where
  pub at_second : {i j : ℕ} {p : Pair} {s : Stencil} → j ≡ i + 2 → Following n v i p → Around n v (i + 1 + 1) s → At n v j s p.second
  at_second {i} z f a = let e : i + 1 + 1 ≡ i + 2 = omega arith in record { around = rw (z, ← e) a; next = rw z f.second }

-- the pair is loaded from place k
module _ (n : ℕ) (v : List Float) (i k : ℕ) (w : k ≡ (i + 2) % n) (h : i + 1 < n) where
  pub following : Following n v i (record { first = get_or v k nan; second = get_or v (k + 1) nan })
  following =
      record {
        first = ap (λ (l : ℕ). get_or v l nan) (w ∙ ap (λ (j : ℕ). j % n) (omega arith));
        second = λ l. let f : k ≡ i + 2 = w ∙ mod-eq_of_lt (omega arith) in ap (λ (j : ℕ). get_or v j nan) (omega arith) ∙ sym (inside n v (i + 2 + 1) l);
      }
