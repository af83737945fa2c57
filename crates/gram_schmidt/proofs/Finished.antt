-- For a caller: the two slices once every direction is finished, for any lengths. The directions and what was left over; the logarithms, the reports, and the rest of `norms`.
use Prim.Native.Nat.{ℕ, suc, ◌+◌, ◌*◌, ◌≤◌}
use native.Mathlib.Omega.{arith}
use mathlib.Core.Path.{◌≡◌, refl, ap, ◌∙◌}
use mathlib.Core.Bool.{Bool, true, false}
use mathlib.Core.List.{List, [], ◌∷◌, ◌++◌, append_assoc}
use mathlib.Core.Option.{Option, none, some, map}
use lib.ListN.{length, take, drop, length-append, length-map}
use lib.Seq.{sets, sets-eq, length-sets, length-take-le, drop_at}
use lib.Ieee.{Float}
use Rattle.gram_schmidt.specs.Orthonormalise.{Lengths, Basis, with_direction, orthonormalise, orthogonalise_twice, collapsed}
use Rattle.gram_schmidt.specs.GramSchmidt.{holds, stored}
use Rattle.gram_schmidt.proofs.Loops.{orthogonalise_twice_length}
use Rattle.gram_schmidt.proofs.Collapse.{by_norm}
use Rattle.floats.specs.Vector.{chunks, concat}
use Rattle.floats.proofs.Vector.{chunks_length, concat_chunks}

-- as many entries as before
with_direction_entries : (b : Bool) (w : List Float) (ws : List (List Float)) (u : List Float) (l q : Float) (r : Basis) → length u ≡ length w → length (concat r.directions) ≡ length (concat ws)
    → length (concat (with_direction b w ws u l q r).directions) ≡ length w + length (concat ws)
unfolding with_direction concat
with_direction_entries true w ws u l q r h k = length-append w (concat ws)
with_direction_entries false w ws u l q r h k = simp length-append (omega arith)

-- a logarithm and a report for each of n directions, unless one collapsed
abbrev pub Logged : ℕ → Basis → Type 0
Logged n b = b.collapse ≡ none → (length b.logs ≡ n) × (length b.reports ≡ n)

unbroken : (o : Option ℕ) → map suc o ≡ none → o ≡ none
unbroken none e = refl
unbroken (some i) e = let z : ◌≡◌ {A = ℕ} 0 1 = cc in absurd (omega arith)

with_direction_logged : (n : ℕ) (b : Bool) (w : List Float) (ws : List (List Float)) (u : List Float) (l q : Float) (r : Basis) → Logged n r → Logged (suc n) (with_direction b w ws u l q r)
unfolding with_direction
with_direction_logged n true w ws u l q r h e = let z : ◌≡◌ {A = ℕ} 0 1 = cc in absurd (omega arith)
with_direction_logged n false w ws u l q r h e = let g = h (unbroken r.collapse e) in (ap suc g.0, ap suc g.1)

-- sets from the start
pub sets_start : (w l : List Float) → length w ≤ length l → sets l 0 w ≡ w ++ drop (length w) l
sets_start w l h = let z : 0 + length w ≡ length w = omega arith in sets-eq w l 0 (omega arith) ∙ rw z

module _ (L : Lengths) where
  pub concat_length : (done ts : List (List Float)) → length (concat (orthonormalise L done ts).directions) ≡ length (concat ts)
  unfolding orthonormalise concat
  concat_length done [] = refl
  concat_length done (t ∷ ts) =
      let w = orthogonalise_twice L.start done t in
      let u = by_norm L w in
      let k = concat_length (done ++ (u ∷ [])) ts in
      with_direction_entries (collapsed (L.norm w)) w ts u (L.log (L.norm w)) (L.report w) (orthonormalise L (done ++ (u ∷ [])) ts) (length-map w _) k
      ∙ simp length-append (ap (λ (n : ℕ). n + length (concat ts)) (orthogonalise_twice_length L.start done t))

  pub norms_length : (done ts : List (List Float)) → Logged (length ts) (orthonormalise L done ts)
  unfolding orthonormalise
  norms_length done [] = λ e. (refl, refl)
  norms_length done (t ∷ ts) =
      let w = orthogonalise_twice L.start done t in
      let u = by_norm L w in
      let k = norms_length (done ++ (u ∷ [])) ts in
      with_direction_logged (length ts) (collapsed (L.norm w)) w ts u (L.log (L.norm w)) (L.report w) (orthonormalise L (done ++ (u ∷ [])) ts) k

  module _ (d n : ℕ) (xs norms : List Float) where
    abbrev b : Basis
    b = orthonormalise L [] (chunks d n xs)

    pub after : n * d ≤ length xs → 2 * n ≤ length norms → b.collapse ≡ none
        → stored n xs norms b ≡ holds none (concat b.directions ++ drop (n * d) xs) (b.logs ++ (b.reports ++ drop (n + n) norms))
    unfolding stored
    after h g e =
        let k = norms_length [] (chunks d n xs) e in
        let r : length b.logs ≡ n = k.0 ∙ chunks_length d n xs in
        let q : length b.reports ≡ n = k.1 ∙ chunks_length d n xs in
        let f : length (concat b.directions) ≡ n * d = concat_length [] (chunks d n xs) ∙ ap length (concat_chunks d n xs) ∙ length-take-le (n * d) xs h in
        let z : length (sets norms n b.reports) ≡ length norms = length-sets norms n b.reports in
        let x : sets xs 0 (concat b.directions) ≡ concat b.directions ++ drop (n * d) xs = sets_start (concat b.directions) xs (omega arith) ∙ rw f in
        let y : sets (sets norms n b.reports) 0 b.logs ≡ b.logs ++ (b.reports ++ drop (n + n) norms) =
        sets_start b.logs (sets norms n b.reports) (omega arith) ∙ rw (r, sets-eq b.reports norms n (omega arith), q) (ap (λ (o : List Float). b.logs ++ o) (behind b.reports (omega arith))) in
        rw (e, x, y)
      where
        behind : (w : List Float) → n ≤ length norms → drop n (take n norms ++ w ++ drop (n + n) norms) ≡ w ++ drop (n + n) norms
        behind w h = rw (append_assoc (take n norms) w (drop (n + n) norms)) (drop_at (take n norms) (w ++ drop (n + n) norms) n (length-take-le n norms h))
