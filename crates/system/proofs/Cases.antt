-- What a match on a system tells: a linear one has the code's columns, a ring its cells, and any other has a fixed dimension.
use Prim.Native.Nat.{◌≤◌}
use native.Mathlib.Omega.{arith}
use mathlib.Core.Path.{◌≡◌, refl, ap, ◌∙◌}
use mathlib.Core.Bool.{true}
use mathlib.Core.List.{List, [], ◌∷◌}
use types.Run.{OneOf, miss}
use denote.Enum.Declared.{tag_of}
use lib.ListN.{take}
use lib.Ieee.{Float}
use Rattle.system.specs.System.{dim, cells_fit, field, tangent}
use Rattle.system.specs.Array.{in16}
use Rattle.system.specs.Evaluation.{Fixed, Columns}
use Rattle.system.specs.declared.System.{System}
use Rattle.system.specs.declared.System.TheVariants.{Lorenz, Rossler, VanDerPol, Linear, Lorenz96}
use Rattle.system.specs.contracts.System.{the_type}

-- ---- the tags of the systems of fixed dimension, and those of the others

pub is_fixed : (S : System) → OneOf (0 ∷ 1 ∷ 2 ∷ []) (tag_of the_type S) → Fixed S
is_fixed (Lorenz σ ρ β) k = tt
is_fixed (Rossler a b c) k = tt
is_fixed (VanDerPol μ) k = tt
is_fixed (Linear d) k = absurd (miss (0 ∷ 1 ∷ 2 ∷ []) 3 tt k)
is_fixed (Lorenz96 n F) k = absurd (miss (0 ∷ 1 ∷ 2 ∷ []) 4 tt k)

pub not_fixed : (S : System) → OneOf (3 ∷ 4 ∷ []) (tag_of the_type S) → Fixed S → ⊥
not_fixed (Lorenz σ ρ β) k f = miss (3 ∷ 4 ∷ []) 0 tt k
not_fixed (Rossler a b c) k f = miss (3 ∷ 4 ∷ []) 1 tt k
not_fixed (VanDerPol μ) k f = miss (3 ∷ 4 ∷ []) 2 tt k
not_fixed (Linear d) k f = f
not_fixed (Lorenz96 n F) k f = f

pub fixed_dimension : (S : System) → Fixed S → dim S ≤ 3
fixed_dimension (Lorenz σ ρ β) k = omega arith
fixed_dimension (Rossler a b c) k = omega arith
fixed_dimension (VanDerPol μ) k = omega arith
fixed_dimension (Linear d) k = absurd k
fixed_dimension (Lorenz96 n F) k = absurd k

-- ---- a system of fixed dimension reads no matrix

field_free : (S : System) → Fixed S → (m x : List Float) → field S [] x ≡ field S m x
unfolding field
field_free (Lorenz σ ρ β) k m x = refl
field_free (Rossler a b c) k m x = refl
field_free (VanDerPol μ) k m x = refl
field_free (Linear d) k m x = absurd k
field_free (Lorenz96 n F) k m x = absurd k

tangent_free : (S : System) → Fixed S → (m x t : List Float) → tangent S [] x t ≡ tangent S m x t
unfolding tangent
tangent_free (Lorenz σ ρ β) k m x t = refl
tangent_free (Rossler a b c) k m x t = refl
tangent_free (VanDerPol μ) k m x t = refl
tangent_free (Linear d) k m x t = absurd k
tangent_free (Lorenz96 n F) k m x t = absurd k

-- ---- a system that is no ring has no cells to count

pub no_cells : (S : System) → OneOf (0 ∷ 1 ∷ 2 ∷ 3 ∷ []) (tag_of the_type S) → true ≡ cells_fit S
no_cells (Lorenz σ ρ β) k = refl
no_cells (Rossler a b c) k = refl
no_cells (VanDerPol μ) k = refl
no_cells (Linear d) k = refl
no_cells (Lorenz96 n F) k = absurd (miss (0 ∷ 1 ∷ 2 ∷ 3 ∷ []) 4 tt k)

-- ---- what an arm of a match returns is that of the system matched

module _ {S T : System} (e : S ≡ T) (k : Fixed T) (r : List Float) where
  pub field_case : (x : List Float) → r ≡ in16 (field T [] x) → (m : List Float) → r ≡ in16 (field S m x)
  field_case x f m = rw e (f ∙ ap in16 (field_free T k m x))

  pub tangent_case : (x t : List Float) → r ≡ in16 (tangent T [] x t) → (m : List Float) → r ≡ in16 (tangent S m x t)
  tangent_case x t f m = rw e (f ∙ ap in16 (tangent_free T k m x t))

-- ---- the same of the first entries, where what the evaluation asks for is there

module _ {S T : System} (e : S ≡ T) (m columns k : List Float) (c : Columns S m columns) where
  pub field_matched : (x : List Float) → (Columns T m columns → take (dim T) k ≡ field T m (take (dim T) x)) → take (dim S) k ≡ field S m (take (dim S) x)
  field_matched x p = let q = rw e at c in rw e (p q)

  pub tangent_matched : (x t : List Float) → (Columns T m columns → take (dim T) k ≡ tangent T m (take (dim T) x) (take (dim T) t)) → take (dim S) k ≡ tangent S m (take (dim S) x) (take (dim S) t)
  tangent_matched x t p = let q = rw e at c in rw e (p q)
