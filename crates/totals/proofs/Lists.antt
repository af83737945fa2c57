-- The faint counts, entry by entry: one more entry, and how far a count goes.
use Prim.Native.Nat.{ℕ, zero, suc, ◌+◌, ◌≤◌, ◌<◌}
use native.Mathlib.Numerals.{add-one}
use native.Mathlib.Omega.{arith}
use mathlib.Core.Path.{◌≡◌, sym, ap, ◌∙◌}
use mathlib.Core.List.{List, [], ◌∷◌, ◌++◌}
use lib.ListN.{length, take, drop, get_or, set, length-set}
use lib.Seq.{get_or-set_other}
use lib.Ieee.{Float, nan}
use mathlib.Core.Bool.{Bool, true, false, cond}
use Rattle.floats.specs.Vector.{updated}
use Rattle.floats.proofs.Updated.{updated_next, updated_same}
use Rattle.gram_schmidt.specs.GramSchmidt.{euclidean}
use Rattle.totals.specs.Progress.{counted}

cond_more : (b : Bool) (n : ℕ) → cond b (suc n) n ≤ n + 1
cond_more true n = omega arith
cond_more false n = omega arith

pub counted_more : (xs : List ℕ) (ys : List Float) (i : ℕ) → get_or (updated counted xs ys) i 0 ≤ get_or xs i 0 + 1
unfolding updated
counted_more [] ys i = omega arith
counted_more (x ∷ xs) [] i = omega arith
counted_more (x ∷ xs) (y ∷ ys) zero = cond_more (euclidean.faint y) x
counted_more (x ∷ xs) (y ∷ ys) (suc i) = counted_more xs ys i

-- one more entry: a faint one, and one that is not
module _ (xs : List ℕ) (ys : List Float) (i : ℕ) (h : i < length xs) (g : i < length ys) where
  pub counted_yes : (zs : List ℕ) → euclidean.faint (get_or ys i nan) ≡ true → zs ≡ set xs i (get_or xs i 0 + 1)
      → (length zs ≡ length xs) × (take i xs ++ updated counted (drop i xs) (drop i ys) ≡ take (i + 1) zs ++ updated counted (drop (i + 1) zs) (drop (i + 1) ys)) × ((j : ℕ) → i + 1 ≤ j → get_or zs j 0 ≡ get_or xs j 0)
  counted_yes zs f e =
      let t : counted (get_or xs i 0) (get_or ys i nan) ≡ get_or xs i 0 + 1 = rw (f, add-one) in
      let z : zs ≡ set xs i (counted (get_or xs i 0) (get_or ys i nan)) = e ∙ ap (λ (n : ℕ). set xs i n) (sym t) in
      (ap length e ∙ length-set xs i _, updated_next counted xs ys i 0 nan h g ∙ rw z, λ j l. ap (λ (w : List ℕ). get_or w j 0) e ∙ get_or-set_other xs i j _ 0 (λ q. omega arith))

  pub counted_no : (zs : List ℕ) → euclidean.faint (get_or ys i nan) ≡ false → zs ≡ xs
      → (length zs ≡ length xs) × (take i xs ++ updated counted (drop i xs) (drop i ys) ≡ take (i + 1) zs ++ updated counted (drop (i + 1) zs) (drop (i + 1) ys)) × ((j : ℕ) → i + 1 ≤ j → get_or zs j 0 ≡ get_or xs j 0)
  counted_no zs f e =
      let t : counted (get_or xs i 0) (get_or ys i nan) ≡ get_or xs i 0 = rw f in
      (ap length e, updated_same counted xs ys i 0 nan h g t ∙ rw e, λ j l. ap (λ (w : List ℕ). get_or w j 0) e)
