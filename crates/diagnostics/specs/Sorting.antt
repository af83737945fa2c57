-- A list in the descending order of `total_cmp`, and what such a list has to be. Definitions only.
use Rattle.std.specs.Prelude.{◌≡◌, Bool, true, false, cond, List, [], ◌∷◌, ℕ, ◌+◌, ◌≤◌, T, ltb, eqb, Float}
use Rattle.std.specs.Float.{binary64}
use Rattle.std.specs.Float.Ieee.{to_bits, fits}
use Rattle.floats.specs.TotalOrder.{rank}

-- ---- the list
-- the upper and the lower of two floats
abbrev pub upper : Float → Float → Float
upper x y = cond (ltb (rank y) (rank x)) x y

abbrev pub lower : Float → Float → Float
lower x y = cond (ltb (rank y) (rank x)) y x

-- x inserted into a list that is in order
unfoldable pub insert : Float → List Float → List Float
unfolding rank
insert x [] = x ∷ []
insert x (y ∷ ys) = upper x y ∷ insert (lower x y) ys

-- each entry inserted, one after the other, into what is in order already
unfoldable pub insert_each : List Float → List Float → List Float
unfolding insert
insert_each done [] = done
insert_each done (x ∷ xs) = insert_each (insert x done) xs

unfoldable pub descending : List Float → List Float
unfolding insert_each
descending xs = insert_each [] xs

-- ---- what it has to be
-- P holds of every entry
abbrev pub All : (Float → Type 0) → List Float → Type 0
All P [] = Unit {0}
All P (x ∷ xs) = P x × All P xs

-- no entry is above an earlier one
abbrev pub Descending : List Float → Type 0
Descending [] = Unit {0}
Descending (x ∷ xs) = All (λ y. rank y ≤ rank x) xs × Descending xs

-- how often the bit pattern b is in the list
abbrev pub one_if : Bool → ℕ
one_if true = 1
one_if false = 0

unfoldable pub occurrences : ℕ → List Float → ℕ
occurrences b [] = 0
occurrences b (x ∷ xs) = one_if (eqb (to_bits binary64 x) b) + occurrences b xs

-- the same floats, by their bits, equally often
abbrev pub SameFloats : List Float → List Float → Type 0
SameFloats xs ys = (b : ℕ) → occurrences b xs ≡ occurrences b ys

-- every entry is a value of binary64
abbrev pub Binary64 : List Float → Type 0
Binary64 xs = All (λ x. T (fits binary64 x)) xs
