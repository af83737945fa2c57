-- A matrix by columns of w entries: the places, a row as it is put, and the sums of all rows, a column at a time.
use Prim.Native.Nat.{ℕ, ◌+◌, ◌*◌, ◌%◌, ◌≤◌, ◌<◌}
use native.Mathlib.Nat.{mul-suc, mul-le-mul_left, mod-eq_of_lt, mul-add-mod_self_left}
use native.Mathlib.Omega.{arith}
use mathlib.Core.Path.{◌≡◌, sym, ap, ◌∙◌}
use mathlib.Core.List.{List}
use borrow.Author.Count.{below_more}
use lib.ListN.{length, take, drop, get_or, set}
use lib.Seq.{get_or-set_same, get_or-set_other}
use lib.Ieee.{Float, nan}
use Rattle.floats.specs.Arithmetic.{◌⊕◌, ◌⊗◌}
use Rattle.floats.specs.Vector.{dot_from, part, chunks}
use Rattle.floats.proofs.Vector.{vector_fits}
use Rattle.matrix.specs.Matrix.{row_start, times, Transposed}
use Rattle.matrix.proofs.Times.{row_next, row_end, times_front, times_few}

-- ---- the places

-- a column lies before the next
pub column_fits : (w j n : ℕ) → j < n → w * j + w ≤ w * n
column_fits w j n h = rw (← mul-suc w j) (mul-le-mul_left w h)

-- a place tells its row
same_row : (w j k l i : ℕ) → k < w → i < w → w * j + k ≡ w * l + i → k ≡ i
same_row w j k l i g h e =
    sym (mod-eq_of_lt g) ∙ sym (mul-add-mod_self_left w j k) ∙ ap (λ (n : ℕ). n % w) e ∙ mul-add-mod_self_left w l i ∙ mod-eq_of_lt h

-- ---- row i as it is put

-- its first j entries stand in c
abbrev pub Put : ℕ → ℕ → List Float → ℕ → List Float → Type 0
Put w i row j c = (l : ℕ) → l < j → get_or c (w * l + i) nan ≡ get_or row l nan

-- the other rows stand in c as in o
abbrev pub Kept : ℕ → ℕ → List Float → List Float → Type 0
Kept w i o c = (k l : ℕ) → k < w → (k ≡ i → ⊥) → get_or c (w * l + k) nan ≡ get_or o (w * l + k) nan

module _ (w i j : ℕ) (c : List Float) (v : Float) (h : i < w) where
  pub put_entry : (row : List Float) → v ≡ get_or row j nan → w * j + i < length c → Put w i row j c → Put w i row (j + 1) (set c (w * j + i) v)
  put_entry row f g e =
      below_more _ j (λ l k. get_or-set_other c (w * j + i) (w * l + i) v nan (λ z. absurd (omega (arith, column_fits w l j k))) ∙ e l k)
      (get_or-set_same c (w * j + i) v nan g ∙ f)

  pub kept_entry : (o : List Float) → Kept w i o c → Kept w i o (set c (w * j + i) v)
  kept_entry o e k l g n = get_or-set_other c (w * j + i) (w * l + k) v nan (λ z. n (same_row w l k j i g h z)) ∙ e k l g n

-- the first i rows of m stand in c
abbrev pub Rows : ℕ → ℕ → List Float → ℕ → List Float → Type 0
Rows w d m i c = (r : ℕ) → r < i → (j : ℕ) → j < d → get_or c (w * j + r) nan ≡ get_or m (r * d + j) nan

-- ---- the sums of all rows after j columns: a row's whole sum takes what is still to come

module _ (w d : ℕ) (columns x : List Float) where
  abbrev pub Summed : ℕ → List Float → Type 0
  Summed j sums =
      (m : List Float) → length m ≡ d * d → Transposed w d m columns → (i : ℕ) → i < d
      → dot_from row_start (part (i * d) d m) x ≡ dot_from (get_or sums i nan) (drop j (part (i * d) d m)) (drop j x)

  module _ (j : ℕ) (sums : List Float) (e : Summed j sums) where
    pub summed_next : (next : List Float) → d ≤ w → d ≤ length x → j < d
        → ((i : ℕ) → i < w → get_or next i nan ≡ get_or sums i nan ⊕ get_or columns (w * j + i) nan ⊗ get_or x j nan) → Summed (j + 1) next
    summed_next next h l g f m n t i k =
        let q = vector_fits i d d k in
        e m n t i k ∙ row_next m x (i * d) d j (get_or sums i nan) (omega arith) l g ∙ rw (f i (omega arith), t i j k g)

    pub summed_all : d ≤ j → d ≤ length sums → (m : List Float) → length m ≡ d * d → Transposed w d m columns → take d sums ≡ times (chunks d d m) (take d x)
    summed_all h g m n t =
        times_front d m x sums g (λ i k. let q = vector_fits i d d k in sym (e m n t i k ∙ row_end m x (i * d) d j (get_or sums i nan) (omega arith) h))
        ∙ times_few d d m x
