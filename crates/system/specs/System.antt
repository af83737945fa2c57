-- Document 01, "System", and document 02, a): the vector fields and their tangent maps. Operations are rounded in the order written. Definitions only.
use Rattle.std.specs.Prelude.{ℕ, ◌*◌, Bool, true, List, [], ◌∷◌, eqb, leb, length, get_or, Float}
use Rattle.std.specs.Float.{nan}
use Rattle.std.specs.Float.Ieee.{neg}
use Rattle.floats.specs.Arithmetic.{◌⊕◌, ◌⊖◌, ◌⊗◌, one, minus_two}
use Rattle.floats.specs.Vector.{chunks}
use Rattle.lorenz96.specs.Ring.{ring_field, ring_tangent}
use Rattle.matrix.specs.Matrix.{times}
use Rattle.system.specs.declared.System.{System}
use Rattle.system.specs.declared.System.TheVariants.{Lorenz, Rossler, VanDerPol, Linear, Lorenz96}

abbrev pub dim : System → ℕ
dim (Lorenz σ ρ β) = 3
dim (Rossler a b c) = 3
dim (VanDerPol μ) = 2
dim (Linear d) = d
dim (Lorenz96 n F) = n

-- a matrix is lent to a linear system only: d * d floats in rows
abbrev pub matrix_fits : System → List Float → Bool
matrix_fits (Lorenz σ ρ β) m = true
matrix_fits (Rossler a b c) m = true
matrix_fits (VanDerPol μ) m = true
matrix_fits (Linear d) m = eqb (length m) (d * d)
matrix_fits (Lorenz96 n F) m = true

-- a ring has at least 4 cells; the other systems have none
abbrev pub cells_fit : System → Bool
cells_fit (Lorenz σ ρ β) = true
cells_fit (Rossler a b c) = true
cells_fit (VanDerPol μ) = true
cells_fit (Linear d) = true
cells_fit (Lorenz96 n F) = leb 4 n

abbrev at : List Float → ℕ → Float
at v i = get_or v i nan

unfoldable pub field : System → List Float → List Float → List Float
unfolding chunks times ring_field
field (Lorenz σ ρ β) m p =
    let x = at p 0 in let y = at p 1 in let z = at p 2 in
    σ ⊗ (y ⊖ x) ∷ x ⊗ (ρ ⊖ z) ⊖ y ∷ x ⊗ y ⊖ β ⊗ z ∷ []
field (Rossler a b c) m p =
    let x = at p 0 in let y = at p 1 in let z = at p 2 in
    neg y ⊖ z ∷ x ⊕ a ⊗ y ∷ b ⊕ z ⊗ (x ⊖ c) ∷ []
field (VanDerPol μ) m p =
    let x = at p 0 in let y = at p 1 in
    y ∷ μ ⊗ (one ⊖ x ⊗ x) ⊗ y ⊖ x ∷ []
field (Linear d) m p = times (chunks d d m) p
field (Lorenz96 n F) m p = ring_field n F p

-- of the direction t at the state p
unfoldable pub tangent : System → List Float → List Float → List Float → List Float
unfolding chunks times ring_tangent
tangent (Lorenz σ ρ β) m p t =
    let x = at p 0 in let y = at p 1 in let z = at p 2 in let u = at t 0 in let v = at t 1 in let w = at t 2 in
    σ ⊗ (v ⊖ u) ∷ (ρ ⊖ z) ⊗ u ⊖ v ⊖ x ⊗ w ∷ y ⊗ u ⊕ x ⊗ v ⊖ β ⊗ w ∷ []
tangent (Rossler a b c) m p t =
    let x = at p 0 in let z = at p 2 in let u = at t 0 in let v = at t 1 in let w = at t 2 in
    neg v ⊖ w ∷ u ⊕ a ⊗ v ∷ z ⊗ u ⊕ (x ⊖ c) ⊗ w ∷ []
tangent (VanDerPol μ) m p t =
    let x = at p 0 in let y = at p 1 in let u = at t 0 in let v = at t 1 in
    v ∷ (minus_two ⊗ μ ⊗ x ⊗ y ⊖ one) ⊗ u ⊕ μ ⊗ (one ⊖ x ⊗ x) ⊗ v ∷ []
tangent (Linear d) m p t = times (chunks d d m) t
tangent (Lorenz96 n F) m p t = ring_tangent n p t
