-- A rule at every place of a vector: length, places, and the first places of the vectors. Nothing here knows a stepper.
use Prim.Native.Nat.{ℕ, zero, suc, ◌≤◌, ◌<◌}
use native.Mathlib.Nat.{not-suc-le-zero, le_of_suc-le-suc}
use native.Mathlib.Omega.{arith}
use mathlib.Core.Path.{◌≡◌, refl, sym, ap, ap₂, ◌∙◌}
use mathlib.Core.List.{List, [], ◌∷◌, map}
use lib.ListN.{length, take, drop, length-take}
use lib.Seq.{take-take, length-take-le, get_or-take, ext_get_or}
use lib.Ieee.{Float, nan}
use Rattle.stepper.specs.Stepper.{Rule, at, entrywise, base}

-- a map after another, over the derivatives
mapped : {C : Type 0} (f : List Float → C) (g : List Float → List Float) (h : List Float → C) → ((k : List Float) → f (g k) ≡ h k)
    → (ks : List (List Float)) → map f (map g ks) ≡ map h ks
mapped f g h e [] = refl
mapped {C} f g h e (k ∷ ks) = ap₂ (λ (a : C) (l : List C). a ∷ l) (e k) (mapped f g h e ks)

pub entrywise_base : (ks : List (List Float)) (v : List Float) → entrywise base ks v ≡ v
unfolding entrywise
entrywise_base ks [] = refl
entrywise_base ks (x ∷ v) = ap (λ (l : List Float). x ∷ l) (entrywise_base (map (drop 1) ks) v)

at_next : (i : ℕ) (k : List Float) → at i (drop 1 k) ≡ at (suc i) k
at_next i [] = refl
at_next i (x ∷ k) = refl

module _ (p : Rule) where
  pub entrywise_length : (ks : List (List Float)) (v : List Float) → length (entrywise p ks v) ≡ length v
  unfolding entrywise
  entrywise_length ks [] = refl
  entrywise_length ks (x ∷ v) = ap suc (entrywise_length (map (drop 1) ks) v)

  pub entrywise_at : (ks : List (List Float)) (v : List Float) (i : ℕ) → i < length v → at i (entrywise p ks v) ≡ p (map (at i) ks) (at i v)
  unfolding entrywise
  entrywise_at ks [] i h = absurd (not-suc-le-zero h)
  entrywise_at ks (x ∷ v) zero h = refl
  entrywise_at ks (x ∷ v) (suc i) h =
      entrywise_at (map (drop 1) ks) v i (le_of_suc-le-suc h) ∙ ap (λ (l : List Float). p l (at i v)) (mapped (at i) (drop 1) (at (suc i)) (at_next i) ks)

  -- the first n places come from the first n places
  pub entrywise_take : (n : ℕ) (ks : List (List Float)) (v : List Float) → take n (entrywise p ks v) ≡ entrywise p (map (take n) ks) (take n v)
  entrywise_take n ks v =
      let l = entrywise_length ks v in
      let m : length (take n (entrywise p ks v)) ≡ length (take n v) = rw (length-take n (entrywise p ks v), length-take n v, l) in
      let r = entrywise_length (map (take n) ks) (take n v) in
      ext_get_or nan (take n (entrywise p ks v)) (entrywise p (map (take n) ks) (take n v)) (m ∙ sym r) (λ i t.
      let u : i < length (take n v) = omega arith in
      let s : i < n = omega (arith, length-take n v) in
      get_or-take n (entrywise p ks v) i nan s
      ∙ entrywise_at ks v i (omega (arith, length-take n v))
      ∙ sym (entrywise_at (map (take n) ks) (take n v) i u ∙ ap₂ p (mapped (at i) (take n) (at i) (λ k. get_or-take n k i nan s) ks) (get_or-take n v i nan s)))

  -- d of the w places that the code computes
  pub entrywise_front : (d w : ℕ) → d ≤ w → (Ks : List (List Float)) (B P : List Float) → take w P ≡ entrywise p (map (take w) Ks) (take w B)
      → take d P ≡ entrywise p (map (take d) Ks) (take d B)
  entrywise_front d w h Ks B P e =
      sym (take-take d w P h)
      ∙ ap (take d) e
      ∙ entrywise_take d (map (take w) Ks) (take w B)
      ∙ ap₂ (entrywise p) (mapped (take d) (take w) (take d) (λ k. take-take d w k h) Ks) (take-take d w B h)

  -- a loop that writes the first w places
  pub front_written : (ks : List (List Float)) (v : List Float) (w : ℕ) (o : List Float) → w ≤ length v → w ≤ length o → ((i : ℕ) → i < w → at i o ≡ p (map (at i) ks) (at i v))
      → take w o ≡ entrywise p (map (take w) ks) (take w v)
  front_written ks v w o h g e =
      let l = entrywise_length ks v in
      let n : length (take w o) ≡ w = length-take-le w o g in
      let m : length (take w (entrywise p ks v)) ≡ w = length-take-le w (entrywise p ks v) (omega arith) in
      ext_get_or nan (take w o) (take w (entrywise p ks v)) (n ∙ sym m) (λ i t.
      let s : i < w = omega arith in
      get_or-take w o i nan s ∙ e i s ∙ sym (get_or-take w (entrywise p ks v) i nan s ∙ entrywise_at ks v i (omega arith)))
      ∙ entrywise_take w ks v
