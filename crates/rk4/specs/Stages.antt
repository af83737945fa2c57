-- How the code holds a step; a reader may skip this. Definitions only.
use Rattle.std.specs.Prelude.{ℕ, ◌≡◌, List, [], ◌∷◌, map, length, take, Float}
use Rattle.std.specs.Borrow.{MutBor}
use Rattle.floats.specs.Finite.{first_not_finite}
use Rattle.floats.specs.Vector.{chunks, concat}
use Rattle.stepper.specs.Stepper.{stage_points, rk4}
use Rattle.system.specs.System.{dim, field, tangent}
use Rattle.system.specs.declared.System.{System}
use Rattle.rk4.specs.Step.{Stepped, not_finite, advance}

-- the tangent map of each stage, with the stage points of the state at the front of the arrays xs
abbrev pub along : System → List Float → List (List Float) → List (List Float → List Float)
along S m xs = map (tangent S m) (map (take (dim S)) xs)

-- the stage points of the state x are at the front of the arrays xs
abbrev pub Pointed : System → List Float → Float → List Float → List (List Float) → Type 0
Pointed S m h x xs = map (take (dim S)) xs ≡ stage_points (rk4 h).points (field S m) [] x

-- four stages of one map
abbrev pub alike : (List Float → List Float) → List (List Float → List Float)
alike f = f ∷ f ∷ f ∷ f ∷ []

-- y and vs are what a step of the state x and the n directions in t leads to
pub record Advances (S : System) (m : List Float) (h : Float) (x t : List Float) (n : ℕ) (y vs : List Float) : Type 0 where
  pub next : y ≡ (advance S m h x).0
  pub along_with : vs ≡ concat (map (advance S m h x).1 (chunks (dim S) n t))

-- what a step leaves in the two slices, with the answer that they call for
abbrev pub tested_finite : List Float → List Float → Stepped
tested_finite y vs = record { refusal = not_finite (first_not_finite y) (first_not_finite vs); state = y; tangents = vs }

-- a call replaces a lent vector of d entries by its image under G; v and w lend it before and after
abbrev pub Computes : ℕ → (List Float → List Float) → (MutBor (List Float) → Unit {0} → MutBor (List Float) → Type 0) → Type 0
Computes d G post = (v w : MutBor (List Float)) → length v.now ≡ d → post v tt w → w.now ≡ G v.now
