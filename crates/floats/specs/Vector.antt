-- Lists entry by entry, vectors as lists of floats, and vectors that lie one after the other in a slice. Definitions only.
use Rattle.std.specs.Prelude.{ℕ, zero, suc, List, [], ◌∷◌, ◌++◌, take, drop, Float}
use Rattle.floats.specs.Arithmetic.{◌⊕◌, ◌⊗◌}

-- entry by entry, as far as both go
unfoldable pub zip {a b c} : {A : Type a} {B : Type b} {C : Type c} → (A → B → C) → List A → List B → List C
zip f [] ys = []
zip f (x ∷ xs) [] = []
zip f (x ∷ xs) (y ∷ ys) = f x y ∷ zip f xs ys

-- f at each entry of xs that ys has one for; the others stay
unfoldable pub updated {a b} : {A : Type a} {B : Type b} → (A → B → A) → List A → List B → List A
updated f [] ys = []
updated f (x ∷ xs) [] = x ∷ xs
updated f (x ∷ xs) (y ∷ ys) = f x y ∷ updated f xs ys

-- the sum s with x[i] * y[i] added to it, in index order
unfoldable pub dot_from : Float → List Float → List Float → Float
dot_from s [] ys = s
dot_from s (x ∷ xs) [] = s
dot_from s (x ∷ xs) (y ∷ ys) = dot_from (s ⊕ x ⊗ y) xs ys

-- the d entries from place a on
abbrev pub part {u} : {A : Type u} → ℕ → ℕ → List A → List A
part a d l = take d (drop a l)

-- n vectors of d entries each
unfoldable pub chunks : ℕ → ℕ → List Float → List (List Float)
chunks d zero l = []
chunks d (suc n) l = take d l ∷ chunks d n (drop d l)

unfoldable pub concat : List (List Float) → List Float
concat [] = []
concat (v ∷ vs) = v ++ concat vs
