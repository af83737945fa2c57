-- Parts of lists that agree on a longer part, and runs of stores one after the other.
use Prim.Native.Nat.{ℕ, zero, suc, ◌+◌, ◌-◌, ◌≤◌, ◌<◌}
use native.Mathlib.Omega.{arith}
use mathlib.Core.Path.{◌≡◌, refl, sym, ap, ◌∙◌}
use mathlib.Core.Logic.{◌⊎◌, inl, inr}
use mathlib.Core.List.{List, [], ◌∷◌, ◌++◌}
use lib.ListN.{length, take, drop, get_or}
use lib.Seq.{sets, length-sets, take-take, drop-drop, get_or-take, get_or-drop}
use Rattle.floats.specs.Vector.{part}
use Rattle.floats.proofs.Sets.{part_before, drop_behind, part_sets}

-- ---- parts of lists that agree on a longer part

module _ {A : Type 0} where
  part_take : (p n N : ℕ) (l : List A) → p + n ≤ N → part p n (take N l) ≡ part p n l
  part_take zero n N l h = take-take n N l (omega arith)
  part_take (suc p) n zero l h = absurd (omega arith)
  part_take (suc p) n (suc N) [] h = refl
  part_take (suc p) n (suc N) (x ∷ l) h = part_take p n N l (omega arith)

  pub part_get : (b : ℕ) (l : List A) (z : A) → get_or (part b 1 l) 0 z ≡ get_or l b z
  part_get b l z = get_or-take 1 (drop b l) 0 z (omega arith) ∙ get_or-drop b l 0 z ∙ ap (λ (k : ℕ). get_or l k z) (omega arith)

  module _ (a N : ℕ) (l l' : List A) (e : part a N l' ≡ part a N l) where
    pub part_inside : (b n : ℕ) → a ≤ b → b + n ≤ a + N → part b n l' ≡ part b n l
    part_inside b n h g = split l' ∙ ap (part (b - a) n) e ∙ sym (split l)
      where
        split : (x : List A) → part b n x ≡ part (b - a) n (part a N x)
        split x =
            let z : b ≡ a + (b - a) = omega arith in
            ap (λ (k : ℕ). part k n x) z ∙ ap (take n) (sym (drop-drop (b - a) a x)) ∙ sym (part_take (b - a) n N (drop a x) (omega arith))

    pub get_inside : (z : A) (b : ℕ) → a ≤ b → b < a + N → get_or l' b z ≡ get_or l b z
    get_inside z b h g = sym (part_get b l' z) ∙ ap (λ (x : List A). get_or x 0 z) (part_inside b 1 h (omega arith)) ∙ part_get b l z

-- ---- runs of stores one after the other, each with its place

module _ {A : Type 0} where
  abbrev pub writes : List A → List (ℕ × List A) → List A
  writes l [] = l
  writes l (w ∷ ws) = writes (sets l w.0 w.1) ws

  -- all of them from b on
  abbrev pub From : ℕ → List (ℕ × List A) → Type 0
  From b [] = Unit {0}
  From b (w ∷ ws) = (b ≤ w.0) × From b ws

  before : (a n : ℕ) (l : List A) (ws : List (ℕ × List A)) → From (a + n) ws → part a n (writes l ws) ≡ part a n l
  before a n l [] h = refl
  before a n l (w ∷ ws) h = before a n (sets l w.0 w.1) ws h.1 ∙ part_before a n l w.0 w.1 h.0

  -- what is written with nothing over it comes back
  pub back : (l : List A) (us : List (ℕ × List A)) (p : ℕ) (v : List A) (ws : List (ℕ × List A)) (n : ℕ) → length v ≡ n → p + n ≤ length l → From (p + n) ws → part p n (writes l (us ++ (p, v) ∷ ws)) ≡ v
  back l [] p v ws n e h g = before p n (sets l p v) ws g ∙ part_sets l p v n e h
  back l (u ∷ us) p v ws n e h g = back (sets l u.0 u.1) us p v ws n e (rw length-sets h) g

  -- all of them within M places from b on
  abbrev pub Inside : ℕ → ℕ → List (ℕ × List A) → Type 0
  Inside b M [] = Unit {0}
  Inside b M (w ∷ ws) = (b ≤ w.0) × (w.0 + length w.1 ≤ b + M) × Inside b M ws

  pub apart : (a n b M : ℕ) → (a + n ≤ b) ⊎ (b + M ≤ a) → (l : List A) (ws : List (ℕ × List A)) → Inside b M ws → part a n (writes l ws) ≡ part a n l
  apart a n b M s l [] h = refl
  apart a n b M (inl s) l (w ∷ ws) h = apart a n b M (inl s) (sets l w.0 w.1) ws h.2 ∙ part_before a n l w.0 w.1 (omega (arith, s, h.0))
  apart a n b M (inr s) l (w ∷ ws) h = apart a n b M (inr s) (sets l w.0 w.1) ws h.2 ∙ ap (take n) (drop_behind a l w.0 w.1 (omega (arith, s, h.1)))
