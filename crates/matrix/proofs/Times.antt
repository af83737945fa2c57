-- The product of a matrix and a vector: a row one product at a time, and all rows.
use Prim.Native.Nat.{ℕ, zero, suc, ◌+◌, ◌*◌, ◌≤◌, ◌<◌}
use native.Mathlib.Nat.{not-suc-le-zero, le_of_suc-le-suc}
use native.Mathlib.Omega.{arith}
use mathlib.Core.Path.{◌≡◌, refl, sym, ap₂, ◌∙◌}
use mathlib.Core.List.{List, [], ◌∷◌}
use lib.ListN.{length, take, drop, get_or, length-map}
use lib.Seq.{get_or-take, ext_get_or, length-take-le}
use lib.Ieee.{Float, nan}
use Rattle.floats.specs.Arithmetic.{◌⊕◌, ◌⊗◌}
use Rattle.floats.specs.Vector.{dot_from, part, chunks}
use Rattle.floats.proofs.Sets.{part_length}
use Rattle.floats.proofs.Parts.{part_at}
use Rattle.floats.proofs.Vector.{dot_next, dot_end, chunks_at, chunks_length}
use Rattle.matrix.specs.Matrix.{row_start, times}

-- ---- a row of d entries from place a on: one more product, and the end

module _ (m x : List Float) (a d j : ℕ) (s : Float) (h : a + d ≤ length m) where
  pub row_next : d ≤ length x → j < d
      → dot_from s (drop j (part a d m)) (drop j x) ≡ dot_from (s ⊕ get_or m (a + j) nan ⊗ get_or x j nan) (drop (j + 1) (part a d m)) (drop (j + 1) x)
  row_next g k =
      let n : length (part a d m) ≡ d = part_length a d m h in
      dot_next s (part a d m) x j (omega arith) (omega arith) ∙ rw (part_at a d m j k)

  pub row_end : d ≤ j → dot_from s (drop j (part a d m)) (drop j x) ≡ s
  row_end k = let n : length (part a d m) ≡ d = part_length a d m h in dot_end s (part a d m) (drop j x) j (omega arith)

-- ---- entries

pub times_length : (d n : ℕ) (m x : List Float) → length (times (chunks d n m) x) ≡ n
unfolding times
times_length d n m x = length-map (chunks d n m) _ ∙ chunks_length d n m

rows_at : (rows : List (List Float)) (x : List Float) (i : ℕ) → i < length rows → get_or (times rows x) i nan ≡ dot_from row_start (get_or rows i []) x
unfolding times
rows_at [] x i h = absurd (not-suc-le-zero h)
rows_at (r ∷ rows) x zero h = refl
rows_at (r ∷ rows) x (suc i) h = rows_at rows x i (le_of_suc-le-suc h)

times_at : (d n : ℕ) (m x : List Float) (i : ℕ) → i < n → get_or (times (chunks d n m) x) i nan ≡ dot_from row_start (part (i * d) d m) x
times_at d n m x i h =
    let e : length (chunks d n m) ≡ n = chunks_length d n m in
    rows_at (chunks d n m) x i (omega arith) ∙ rw (chunks_at d n m i h)

-- the product is what stands at the front of o
pub times_front : (d : ℕ) (m x o : List Float) → d ≤ length o → ((i : ℕ) → i < d → get_or o i nan ≡ dot_from row_start (part (i * d) d m) x) → take d o ≡ times (chunks d d m) x
times_front d m x o g e =
    let n : length (take d o) ≡ d = length-take-le d o g in
    ext_get_or nan (take d o) (times (chunks d d m) x) (n ∙ sym (times_length d d m x)) (λ i l. get_or-take d o i nan (omega arith) ∙ e i (omega arith) ∙ sym (times_at d d m x i (omega arith)))

-- ---- only the first d entries of the vector count

dot_few : (d : ℕ) (s : Float) (r x : List Float) → dot_from s (take d r) x ≡ dot_from s (take d r) (take d x)
unfolding dot_from
dot_few zero s r x = refl
dot_few (suc d) s [] x = refl
dot_few (suc d) s (a ∷ r) [] = refl
dot_few (suc d) s (a ∷ r) (b ∷ x) = dot_few d (s ⊕ a ⊗ b) r x

pub times_few : (d n : ℕ) (m x : List Float) → times (chunks d n m) x ≡ times (chunks d n m) (take d x)
unfolding times chunks
times_few d zero m x = refl
times_few d (suc n) m x = ap₂ (λ (a : Float) (l : List Float). a ∷ l) (dot_few d row_start m x) (times_few d n (drop d m) x)
