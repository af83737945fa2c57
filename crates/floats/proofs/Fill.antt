-- A loop that writes a list L over a list o from the front: what is written, and what is still to come.
use Prim.Native.Nat.{ℕ, suc, ◌+◌, ◌≤◌, ◌<◌}
use native.Mathlib.Numerals.{add-one}
use native.Mathlib.Omega.{arith}
use mathlib.Core.Path.{◌≡◌, sym, ap, ◌∙◌}
use mathlib.Core.List.{List, ◌++◌, map, append-nil}
use lib.ListN.{length, take, drop, get_or, set, drop_of_length-le, length-map}
use lib.Seq.{take_all, take-suc, length-take-le, drop-cons, set_at, append_snoc, take-suc-set}
use lib.Ieee.{Float, nan}
use Rattle.floats.proofs.Updated.{map_drop, map_at}

module _ {A : Type 0} where
  pub fill_next : (L o : List A) (i : ℕ) (d : A) → i < length L → i < length o → set (take i L ++ drop i o) i (get_or L i d) ≡ take (i + 1) L ++ drop (i + 1) o
  fill_next L o i d h g =
      rw (drop-cons o i d g, set_at (take i L) (get_or o i d) (drop (suc i) o) (get_or L i d) i (length-take-le i L (omega arith)), add-one, take-suc L i d h)
      (sym (append_snoc (take i L) (get_or L i d) (drop (suc i) o)))

  -- an iteration of the loop, where X is under way
  pub fill_step : (L o X : List A) (i : ℕ) (v d : A) → X ≡ take i L ++ drop i o → v ≡ get_or L i d → i < length L → i < length o → set X i v ≡ take (i + 1) L ++ drop (i + 1) o
  fill_step L o X i v d e f h g = rw (e, f) (fill_next L o i d h g)

-- ---- n entries of L are written over o, behind which o has none

module _ {A : Type 0} (L o : List A) (n : ℕ) {X : List A} (e : X ≡ take n L ++ drop n o) (h : length o ≤ n) where
  pub copied_front : X ≡ take n L
  copied_front = e ∙ ap (λ (l : List A). take n L ++ l) (drop_of_length-le o h) ∙ append-nil (take n L)

  pub copied_whole : length L ≤ n → X ≡ L
  copied_whole g = copied_front ∙ take_all n L g

-- ---- a loop that writes a list L over a list row from the front, told by what is still to come

module _ {A : Type 0} where
  pub copy_next : (row L : List A) (i : ℕ) (d : A) → i < length row → i < length L → take i row ++ drop i L ≡ take (i + 1) (set row i (get_or L i d)) ++ drop (i + 1) L
  copy_next row L i d h g = rw (add-one, take-suc-set row i (get_or L i d) h, drop-cons L i d g) (sym (append_snoc (take i row) (get_or L i d) (drop (suc i) L)))

  pub copy_end : (row L : List A) (i : ℕ) → length row ≤ i → length L ≤ i → take i row ++ drop i L ≡ row
  copy_end row L i h g = rw (drop_of_length-le L g, append-nil) (take_all i row h)

-- where L is f at each entry of another list, or of the list itself
module _ (f : Float → Float) where
  pub map_next : (row values : List Float) (i : ℕ) → i < length row → i < length values
      → take i row ++ map f (drop i values) ≡ take (i + 1) (set row i (f (get_or values i nan))) ++ map f (drop (i + 1) values)
  map_next row values i h g =
      rw (map_drop f i values, map_drop f (i + 1) values, ← map_at f values i nan nan g) (copy_next row (map f values) i nan h (rw length-map g))

  pub map_end : (row values : List Float) (i : ℕ) → length row ≤ i → length values ≤ i → take i row ++ map f (drop i values) ≡ row
  map_end row values i h g = rw (map_drop f i values) (copy_end row (map f values) i h (rw length-map g))
