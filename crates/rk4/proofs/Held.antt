-- A vector of d entries at the front of an array of 16: how it gets there, and back.
use Prim.Native.Nat.{ℕ, ◌≤◌}
use native.Mathlib.Omega.{arith}
use mathlib.Core.Path.{◌≡◌, refl, ◌∙◌}
use mathlib.Core.List.{List, [], ◌∷◌, ◌++◌, append-nil}
use lib.ListN.{length, take, drop, get_or, length-take, drop_of_length-le}
use lib.Seq.{take_all, take_at}
use lib.Ieee.{Float}
use Rattle.system.specs.Array.{in16}
use Rattle.system.proofs.Padding.{in16_take}

-- in registers, where v places are copied
module _ {d v : ℕ} (x : List Float) (sized : length x ≡ d) (copied : d ≤ v) where
  pub padded_front : {b : List Float} → b ≡ in16 (take v x) → take d b ≡ x
  padded_front e = rw (e, take_all v x (omega arith)) (in16_take x d sized)

  pub copied_front : (n y : List Float) → y ≡ take v (take (length x) n) ++ drop v x → y ≡ take d n
  copied_front n y e =
      let l : length (take d n) ≤ v = rw length-take (omega arith) in
      let q : length x ≤ v = omega arith in
      e ∙ rw (sized, take_all v (take d n) l, drop_of_length-le x q) (append-nil (take d n))

-- in memory
module _ {d : ℕ} (x : List Float) (sized : length x ≡ d) where
  pub loaded_front : (z : List Float) {b : List Float} → b ≡ take (length x) x ++ z → take d b ≡ x
  loaded_front z e = rw (e, take_all (length x) x (omega arith)) (take_at x z d sized)

  pub stored_front : (n y : List Float) → y ≡ take (length x) n ++ drop (length x) x → y ≡ take d n
  stored_front n y e = let q : length x ≤ length x = omega arith in e ∙ rw (drop_of_length-le x q, ← sized) (append-nil (take (length x) n))

-- the arrays of the four stage points

pub four_places : {A : Type 0} (z : A) (xs : List A) → length xs ≡ 4 → get_or xs 0 z ∷ get_or xs 1 z ∷ get_or xs 2 z ∷ get_or xs 3 z ∷ [] ≡ xs
four_places z [] e = absurd (omega arith)
four_places z (a ∷ []) e = absurd (omega arith)
four_places z (a ∷ b ∷ []) e = absurd (omega arith)
four_places z (a ∷ b ∷ c ∷ []) e = absurd (omega arith)
four_places z (a ∷ b ∷ c ∷ d ∷ []) e = refl
four_places z (a ∷ b ∷ c ∷ d ∷ x ∷ xs) e = absurd (omega arith)
