-- One direction of the slice in full, and the loop over them, for any lengths.
use Prim.Native.Nat.{ℕ, suc, ◌+◌, ◌-◌, ◌*◌, ◌/◌, ◌≤◌, ◌<◌}
use native.Mathlib.Nat.{suc-mul, zero-mul, sub-zero, add-zero, add-mul, add-sub_cancel_left}
use native.Mathlib.Numerals.{add-one}
use native.Mathlib.Omega.{arith}
use mathlib.Core.Path.{◌≡◌, refl, sym, ap, ◌∙◌}
use mathlib.Core.Bool.{Bool, true, false, cond}
use mathlib.Core.List.{List, [], ◌∷◌, ◌++◌, map, append_assoc}
use mathlib.Core.Option
use mathlib.Core.Option.{Option, none, some}
use lib.ListN.{length, take, drop, set, length-map}
use lib.Seq.{sets, sets-eq, length-sets, drop-drop}
use lib.Ieee.{Float}
use borrow.Author.Tests.{eq-eqb, ne_eqb, lt-ltb, le-ltb}
use borrow.Rule.Slice.PartMut.{put_mid}
use Rattle.std.specs.Prelude as code
use Rattle.std.specs.Prelude.{Some, None}
use Rattle.gram_schmidt.specs.Orthonormalise.{Lengths, Basis, orthonormalise, with_direction, orthogonalise, collapsed}
use Rattle.gram_schmidt.specs.GramSchmidt.{squared_length, cleared, normalised, divided, Orthonormalised, holds, collapse_refusal, stored, orthonormalised}
use Rattle.gram_schmidt.proofs.Loops.{orthogonalise_length, orthogonalise_twice_length}
use Rattle.gram_schmidt.proofs.Collapse.{by_norm, was_divided, was_collapsed}
use Rattle.error.specs.Refusal.{refuse}
use Rattle.error.specs.declared.Refusal.{Refusal}
use Rattle.floats.specs.Arithmetic.{◌⊘◌}
use Rattle.floats.specs.Vector.{dot_from, part, chunks, concat}
use Rattle.floats.proofs.Sets.{part_length, part_sets, sets_over, sets_own, sets_append, set_sets, take_before, drop_behind}
use Rattle.floats.proofs.Vector.{chunks_sets, chunks_snoc, concat_chunks}

-- ---- one direction

chosen_length : (b : Bool) (w : List Float) (r : Float) → length (cond b w (map (λ x. x ⊘ r) w)) ≡ length w
chosen_length true w r = refl
chosen_length false w r = length-map w (λ x. x ⊘ r)

-- a part that is put back
put_back : (xs : List Float) (t d : ℕ) (w us : List Float) → t + d ≤ length xs → length w ≡ d → length us ≡ d
    → put_mid t d (sets xs t w) us ≡ sets xs t us
put_back xs t d w us g k m =
    rw (drop-drop d t (sets xs t w), take_before t xs t w (omega arith), drop_behind (t + d) xs t w (omega arith), ← m)
    (sym (append_assoc (take t xs) us (drop (t + length us) xs)) ∙ sym (sets-eq us xs t (omega arith)))

module _ (L : Lengths) (d v : ℕ) (xs : List Float) (g : v * d + d ≤ length xs) where
  abbrev w : List Float
  w = cleared L d v xs

  pub cleared_length : length w ≡ d
  cleared_length = orthogonalise_twice_length _ (chunks d v xs) _ ∙ part_length (v * d) d xs g

  -- with none before it, a direction is cleared as it is; q is its product with the first one, which is itself
  pub cleared_first : (q : Float) → v ≡ 0 → q ≡ dot_from L.start (part 0 d xs) (part (v * d) (v * d + d - v * d) xs)
      → (xs ≡ sets xs (v * d) w) × (q ≡ squared_length L.start w)
  unfolding orthogonalise chunks
  cleared_first q e f =
      let z : v * d ≡ 0 = rw e (zero-mul d) in
      let k : v * d + d - v * d ≡ d = add-sub_cancel_left (v * d) d in
      (rw e (sym (sets_own xs (0 * d) d (rw e at g))), f ∙ rw (k, e, zero-mul))

  -- of the slice zs in which the direction is cleared
  pub cleared_part : (zs : List Float) → zs ≡ sets xs (v * d) w → part (v * d) d zs ≡ w
  cleared_part zs q = rw q (part_sets xs (v * d) w d cleared_length g)

  -- cleared once, and once more; q is what the second time answers
  pub cleared_again : (ys zs : List Float) (q : Float)
      → ys ≡ sets xs (v * d) (orthogonalise L.start (chunks d v xs) (part (v * d) d xs))
      → zs ≡ sets ys (v * d) (orthogonalise L.start (chunks d v ys) (part (v * d) d ys))
      → q ≡ squared_length L.start (part (v * d) d zs)
      → (zs ≡ sets xs (v * d) w) × (q ≡ squared_length L.start w)
  cleared_again ys zs q e f h =
      let once = orthogonalise L.start (chunks d v xs) (part (v * d) d xs) in
      let k : length once ≡ d = orthogonalise_length L.start (chunks d v xs) _ ∙ part_length (v * d) d xs g in
      let m : length w ≡ d = cleared_length in
      let r : zs ≡ sets xs (v * d) w =
      f ∙ rw (e, part_sets xs (v * d) once d k g, chunks_sets d v 0 xs (v * d) once (omega arith)) (sets_over xs (v * d) once w (omega arith) (omega arith)) in
      (r, h ∙ ap (squared_length L.start) (cleared_part zs r))

  -- cleared, as zs has it, and then divided, as us has it
  pub direction : (zs us : List Float) (r : code.Option (Float × Float)) → zs ≡ sets xs (v * d) w
      → (r ≡ normalised L (part (v * d) (v * d + d - v * d) zs)) × (us ≡ divided L (part (v * d) (v * d + d - v * d) zs))
      → (r ≡ normalised L w) × (put_mid (v * d) (v * d + d - v * d) zs us ≡ sets xs (v * d) (divided L w))
  direction zs us r q h =
      let k : v * d + d - v * d ≡ d = add-sub_cancel_left (v * d) d in
      let p : part (v * d) (v * d + d - v * d) zs ≡ w = rw k (cleared_part zs q) in
      let u : us ≡ divided L w = h.1 ∙ ap (divided L) p in
      let n : length (divided L w) ≡ d = chosen_length (collapsed (L.norm w)) w (L.norm w) ∙ cleared_length in
      (h.0 ∙ ap (normalised L) p, rw (k, q, u) (put_back xs (v * d) d w (divided L w) g cleared_length n))

-- ---- what is left to do from direction v on, as a function of the two slices as they are

abbrev pub counted : ℕ → Option ℕ → Option Refusal
counted v none = none
counted v (some i) = some (refuse 14 (v + i))

abbrev pub from : ℕ → ℕ → List Float → List Float → ℕ → Basis → Orthonormalised
from d n xs norms v b = holds (counted v b.collapse) (sets xs (v * d) (concat b.directions)) (sets (sets norms (n + v) b.reports) v b.logs)

same : {a b : Option Refusal} {xs ys os ps : List Float} → a ≡ b → xs ≡ ys → os ≡ ps → holds a xs os ≡ holds b ys ps
same p q r = λ i. holds (p i) (q i) (r i)

counted_zero : (o : Option ℕ) → counted 0 o ≡ collapse_refusal o
counted_zero none = refl
counted_zero (some i) = ap (λ (k : ℕ). some (refuse 14 k)) (omega arith)

counted_suc : (v : ℕ) (o : Option ℕ) → counted v (Option.map suc o) ≡ counted (v + 1) o
counted_suc v none = refl
counted_suc v (some i) = ap (λ (k : ℕ). some (refuse 14 k)) (omega arith)

-- the next direction is finished, or it collapsed
module _ (d n : ℕ) (xs norms : List Float) (v : ℕ) (w : List Float) (ws : List (List Float)) (u : List Float) (l q : Float) (b : Basis) where
  from_next : length u ≡ d → from d n xs norms v (with_direction false w ws u l q b) ≡ from d n (sets xs (v * d) u) (set (set norms (n + v) q) v l) (v + 1) b
  unfolding with_direction concat
  from_next e =
      let e₁ : (v + 1) * d ≡ v * d + length u = rw (add-one, suc-mul, e) in
      let e₂ : n + (v + 1) ≡ suc (n + v) = omega arith in
      same (counted_suc v b.collapse) (rw e₁ (sets_append xs (v * d) u (concat b.directions)))
      (rw (e₂, add-one v) (ap (λ (o : List Float). sets o (suc v) b.logs) (set_sets (set norms (n + v) q) (suc (n + v)) b.reports v l (omega arith))))

  from_collapsed : from d n xs norms v (with_direction true w ws u l q b) ≡ holds (some (refuse 14 v)) (sets (sets xs (v * d) w) (v * d + length w) (concat ws)) norms
  unfolding with_direction concat
  from_collapsed = same (ap (λ (k : ℕ). some (refuse 14 k)) (add-zero v)) (sets_append xs (v * d) w (concat ws)) refl

module _ (L : Lengths) where
  abbrev pub pending : ℕ → ℕ → List Float → List Float → ℕ → Orthonormalised
  pending d n xs norms v = from d n xs norms v (orthonormalise L (chunks d v xs) (chunks d (n - v) (drop (v * d) xs)))

  pub pending_end : (d n : ℕ) (xs norms : List Float) (v : ℕ) → n ≤ v → pending d n xs norms v ≡ holds none xs norms
  unfolding orthonormalise chunks concat
  pending_end d n xs norms v h = let e : n - v ≡ 0 = omega arith in rw e

  module _ (d n : ℕ) (xs norms : List Float) (v : ℕ) (h : v < n) (g : n * d ≤ length xs) where
    -- the direction cleared, and divided, and those behind it
    abbrev c : List Float
    c = cleared L d v xs

    abbrev u : List Float
    u = by_norm L c

    abbrev ws : List (List Float)
    ws = chunks d (n - (v + 1)) (drop (v * d + d) xs)

    rows : n * d ≡ v * d + d + (n - (v + 1)) * d
    rows = let e : n ≡ suc v + (n - (v + 1)) = omega arith in ap (λ (k : ℕ). k * d) e ∙ rw (add-mul, suc-mul)

    fits : v * d + d ≤ length xs
    fits = omega (arith, rows)

    pending_at : pending d n xs norms v
        ≡ from d n xs norms v (with_direction (collapsed (L.norm c)) c ws u (L.log (L.norm c)) (L.report c) (orthonormalise L (chunks d v xs ++ (u ∷ [])) ws))
    unfolding chunks orthonormalise
    pending_at = let e : n - v ≡ suc (n - (v + 1)) = omega arith in rw (e, drop-drop d (v * d) xs)

    -- as the code has it: ys is the slice with what became of this direction, and l and q are its numbers
    pub iteration_by : (l q : Float) (ys : List Float) → normalised L c ≡ Some (l, q) → ys ≡ sets xs (v * d) (divided L c)
        → pending d n xs norms v ≡ pending d n ys (set (set norms (n + v) q) v l) (v + 1)
    iteration_by l q ys e k =
        let s = was_divided L c l q e in
        let f = fits in
        let m : length u ≡ d = length-map c _ ∙ cleared_length L d v xs f in
        let y : ys ≡ sets xs (v * d) u = k ∙ ap (sets xs (v * d)) s.1 in
        let a : (v + 1) * d ≡ v * d + d = rw (add-one, suc-mul) in
        let front : chunks d (v + 1) ys ≡ chunks d v xs ++ (u ∷ []) =
        rw (y, add-one, chunks_snoc d v (sets xs (v * d) u), chunks_sets d v 0 xs (v * d) u (omega arith), part_sets xs (v * d) u d m f) in
        let back : chunks d (n - (v + 1)) (drop ((v + 1) * d) ys) ≡ ws = rw (y, a, drop_behind (v * d + d) xs (v * d) u (omega arith)) in
        pending_at ∙ rw (s.0, front, back, y, s.2, s.3) (from_next d n xs norms v c ws u _ _ _ m)

    pub iteration_stop : (ys : List Float) → normalised L c ≡ None → ys ≡ sets xs (v * d) (divided L c)
        → pending d n xs norms v ≡ holds (some (refuse 14 v)) ys norms
    iteration_stop ys e k =
        let s = was_collapsed L c e in
        let m : length c ≡ d = cleared_length L d v xs fits in
        let y : ys ≡ sets xs (v * d) c = k ∙ ap (sets xs (v * d)) s.1 in
        let z : length (sets xs (v * d) c) ≡ length xs = length-sets xs (v * d) c in
        let r = rows in
        pending_at
        ∙ rw (s.0, y)
        (from_collapsed d n xs norms v c ws u _ _ _
        ∙ rw (m, concat_chunks, ← drop_behind (v * d + d) xs (v * d) c (omega arith), sets_own (sets xs (v * d) c) (v * d + d) ((n - (v + 1)) * d) (omega arith)))

  -- ---- the answers before the loop
  module _ (xs : List Float) (d : ℕ) (norms : List Float) where
    pub refused_7 : d ≡ 0 → holds (some (refuse 7 0)) xs norms ≡ orthonormalised L xs d norms
    unfolding orthonormalised
    refused_7 e = rw (eq-eqb d 0 e)

    pub refused_13 : (d ≡ 0 → ⊥) → length norms / 2 < length xs / d → holds (some (refuse 13 0)) xs norms ≡ orthonormalised L xs d norms
    unfolding orthonormalised
    refused_13 h g = rw (ne_eqb d 0 h, lt-ltb (length norms) (2 * (length xs / d)) (omega arith))

    pub begun : (d ≡ 0 → ⊥) → length xs / d ≤ length norms / 2 → pending d (length xs / d) xs norms 0 ≡ orthonormalised L xs d norms
    unfolding orthonormalised stored chunks
    begun h g = rw (ne_eqb d 0 h, le-ltb (length norms) (2 * (length xs / d)) (omega arith)) (simp (zero-mul, add-zero, sub-zero, counted_zero))
