-- Document 02, a): a ring of n cells. Indices are taken modulo n, and operations are rounded in the order written. Definitions only.
use Rattle.std.specs.Prelude.{ℕ, zero, suc, ◌+◌, ◌-◌, ◌%◌, List, [], ◌∷◌, get_or, Float}
use Rattle.std.specs.Float.{nan}
use Rattle.floats.specs.Arithmetic.{◌⊕◌, ◌⊖◌, ◌⊗◌}

-- `ring` is document 02's own term: cell i of the n equal cells v
abbrev pub ring : ℕ → List Float → ℕ → Float
ring n v i = get_or v (i % n) nan

-- f at i, i + 1, and on: n of them
unfoldable pub from : (ℕ → Float) → ℕ → ℕ → List Float
from f i zero = []
from f i (suc n) = f i ∷ from f (suc i) n

-- the derivative of cell i, where x gives the cells: i - 1 and i - 2 are i + n - 1 and i + n - 2
abbrev pub cell_field : ℕ → Float → (ℕ → Float) → ℕ → Float
cell_field n F x i = (x (i + 1) ⊖ x (i + n - 2)) ⊗ x (i + n - 1) ⊖ x i ⊕ F

-- that of entry i of a direction, which u gives
abbrev pub cell_tangent : ℕ → (ℕ → Float) → (ℕ → Float) → ℕ → Float
cell_tangent n x u i = (x (i + 1) ⊖ x (i + n - 2)) ⊗ u (i + n - 1) ⊕ x (i + n - 1) ⊗ (u (i + 1) ⊖ u (i + n - 2)) ⊖ u i

-- the vector field at p, with forcing F
unfoldable pub ring_field : ℕ → Float → List Float → List Float
unfolding from
ring_field n F p = from (cell_field n F (ring n p)) 0 n

-- its tangent map, of the direction t at the state p
unfoldable pub ring_tangent : ℕ → List Float → List Float → List Float
unfolding from
ring_tangent n p t = from (cell_tangent n (ring n p) (ring n t)) 0 n
