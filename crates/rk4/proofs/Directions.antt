-- A loop over vectors that lie one after the other in one list, which replaces each by its image under a map G.
use Prim.Native.Nat.{ℕ, zero, suc, ◌+◌, ◌*◌, ◌≤◌}
use native.Mathlib.Nat.{suc-mul, zero-mul, add_comm}
use native.Mathlib.Numerals.{add-one}
use native.Mathlib.Omega.{arith}
use mathlib.Core.Path.{◌≡◌, sym, ap, ◌∙◌}
use mathlib.Core.List.{List, ◌++◌, map, append-nil, append_assoc}
use lib.ListN.{length, take, drop, length-append, length-drop, drop_of_length-le}
use lib.Seq.{take_at, drop_at, drop-drop}
use lib.Ieee.{Float}
use Rattle.floats.specs.Vector.{part, chunks, concat}

module _ (G : List Float → List Float) (d : ℕ) where
  -- the first j vectors of l
  abbrev images : ℕ → List Float → List Float
  images j l = concat (map G (chunks d j l))

  images_next : (j : ℕ) (l : List Float) → images (suc j) l ≡ images j l ++ G (part (j * d) d l)
  unfolding chunks concat
  images_next zero l = rw (zero-mul, append-nil)
  images_next (suc j) l =
      rw (images_next j (drop d l), drop-drop (j * d) d l, suc-mul, add_comm (j * d) d) (sym (append_assoc (G (take d l)) (images j (drop d l)) (G (part (d + j * d) d l))))

  -- X is what the loop has made of l after j vectors
  abbrev pub Replaced : ℕ → List Float → List Float → Type 0
  Replaced j l X = X ≡ images j l ++ drop (j * d) l

  pub replaced_none : (l : List Float) → Replaced 0 l l
  unfolding chunks concat
  replaced_none l = rw zero-mul

  module _ (j : ℕ) (l X : List Float) (e : Replaced j l X) where
    -- k entries from j * d on were lent, and came back as ys
    pub replaced_next : (k : ℕ) (ys : List Float) → length X ≡ length l → k ≡ d → j * d + d ≤ length l → ys ≡ G (part (j * d) k X) → Replaced (j + 1) l (take (j * d) X ++ (ys ++ drop k (drop (j * d) X)))
    replaced_next k ys s f h g =
        let n : length (images j l) ≡ j * d = omega (arith, s, simp (length-append, length-drop) at (ap length e)) in
        let p : drop (j * d) X ≡ drop (j * d) l = rw (e, drop_at (images j l) (drop (j * d) l) (j * d) n) in
        let y : ys ≡ G (part (j * d) d l) = g ∙ rw (f, p) in
        let t : take (j * d) X ≡ images j l = rw (e, take_at (images j l) (drop (j * d) l) (j * d) n) in
        let r : drop k (drop (j * d) X) ≡ drop (j * d + d) l = rw (f, p) (drop-drop d (j * d) l) in
        rw (t, y, r, add-one, images_next j l, suc-mul j d) (sym (append_assoc (images j l) (G (part (j * d) d l)) (drop (j * d + d) l)))

    pub replaced_all : length l ≤ j * d → X ≡ concat (map G (chunks d j l))
    replaced_all h = e ∙ rw (drop_of_length-le l h) (append-nil (images j l))
