-- Document 01, "Orthonormalise", over lists: a direction is a list of floats, a basis a list of directions. Definitions only.
use Rattle.std.specs.Prelude.{ℕ, zero, suc, Bool, true, false, not, ◌||◌, List, [], ◌∷◌, ◌++◌, map, Float}
use Rattle.std.proofs.Math.Option
use Rattle.std.proofs.Math.Option.{Option, none, some}
use Rattle.std.specs.Float.Ieee.{le}
use Rattle.std.specs.Float.Ieee.Scale.{finite}
use Rattle.floats.specs.Arithmetic.{◌⊖◌, ◌⊗◌, ◌⊘◌, least_normal}
use Rattle.floats.specs.Vector.{dot_from, updated}

-- v less p times b, entry by entry (source: subtract_projection)
abbrev pub subtract_projection : Float → List Float → List Float → List Float
subtract_projection p v b = updated (λ x y. x ⊖ p ⊗ y) v b

-- v cleared of each direction of bs in turn: take the dot product, from z, and subtract product * entry
unfoldable pub orthogonalise : Float → List (List Float) → List Float → List Float
orthogonalise z [] v = v
orthogonalise z (b ∷ bs) v = orthogonalise z bs (subtract_projection (dot_from z b v) v b)

-- cleared twice: the second time takes what rounding left the first time
abbrev pub orthogonalise_twice : Float → List (List Float) → List Float → List Float
orthogonalise_twice z bs v = orthogonalise z bs (orthogonalise z bs v)

-- How lengths are taken. `start` is the zero that a sum starts from. `norm` of a cleared direction is what its entries are divided by and what the test of a collapse is on;
-- `report` is the number that is given beside the logarithm of the norm, and it may be `faint`.
pub record Lengths : Type 0 where
  pub start : Float
  pub norm : List Float → Float
  pub report : List Float → Float
  pub log : Float → Float
  pub faint : Float → Bool

-- `collapse` is document 01's term: the norm, by euclidean lengths the root of the squared length, is not finite or at most 2 ^ -1022 (14)
unfoldable pub collapsed : Float → Bool
collapsed r = not (finite r) || le r least_normal

-- What is left: every direction, the numbers of those that are finished, and the place of the first that collapsed.
pub record Basis : Type 0 where
  pub directions : List (List Float)
  pub logs : List Float
  pub reports : List Float
  pub collapse : Option ℕ

-- The direction u is finished, with its two numbers, and r is what becomes of those behind it. Or it collapsed: it stays cleared, as w, and those behind it stay as they are, as ws.
unfoldable pub with_direction : Bool → List Float → List (List Float) → List Float → Float → Float → Basis → Basis
with_direction true w ws u l q r = record { directions = w ∷ ws; logs = []; reports = []; collapse = some zero }
with_direction false w ws u l q r =
    record { directions = u ∷ r.directions; logs = l ∷ r.logs; reports = q ∷ r.reports; collapse = Option.map suc r.collapse }

-- the directions vs in order, behind those that are finished already: cleared twice, then divided by their length
unfoldable pub orthonormalise : Lengths → List (List Float) → List (List Float) → Basis
unfolding dot_from updated collapsed orthogonalise with_direction
orthonormalise L done [] = record { directions = []; logs = []; reports = []; collapse = none }
orthonormalise L done (v ∷ vs) =
    let w = orthogonalise_twice L.start done v in
    let r = L.norm w in
    let u = map (λ x. x ⊘ r) w in
    let rest = orthonormalise L (done ++ (u ∷ [])) vs in
    with_direction (collapsed r) w vs u (L.log r) (L.report w) rest
