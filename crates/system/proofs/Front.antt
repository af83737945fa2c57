-- Fields and tangent maps read and give the first entries of the code's arrays.
use native.Mathlib.Omega.{arith}
use mathlib.Core.Path.{◌≡◌, refl}
use mathlib.Core.List.{List}
use lib.ListN.{length, take}
use lib.Seq.{get_or-take}
use lib.Ieee.{Float, nan}
use Rattle.lorenz96.proofs.Ring as Ring
use Rattle.matrix.proofs.Times.{times_length, times_few}
use Rattle.system.specs.System.{dim, field, tangent}
use Rattle.system.specs.Array.{in16}
use Rattle.system.specs.declared.System.{System}
use Rattle.system.specs.declared.System.TheVariants.{Lorenz, Rossler, VanDerPol, Linear, Lorenz96}
use Rattle.system.proofs.Padding.{in16_take}

pub field_length : (S : System) (m x : List Float) → length (field S m x) ≡ dim S
unfolding field
field_length (Lorenz σ ρ β) m x = refl
field_length (Rossler a b c) m x = refl
field_length (VanDerPol μ) m x = refl
field_length (Linear d) m x = times_length d d m x
field_length (Lorenz96 n F) m x = Ring.field_length n F x

pub tangent_length : (S : System) (m x t : List Float) → length (tangent S m x t) ≡ dim S
unfolding tangent
tangent_length (Lorenz σ ρ β) m x t = refl
tangent_length (Rossler a b c) m x t = refl
tangent_length (VanDerPol μ) m x t = refl
tangent_length (Linear d) m x t = times_length d d m t
tangent_length (Lorenz96 n F) m x t = Ring.tangent_length n x t

field_few : (S : System) (m x : List Float) → field S m x ≡ field S m (take (dim S) x)
unfolding field
field_few (Lorenz σ ρ β) m x = rw (get_or-take 3 x 0 nan (omega arith), get_or-take 3 x 1 nan (omega arith), get_or-take 3 x 2 nan (omega arith))
field_few (Rossler a b c) m x = rw (get_or-take 3 x 0 nan (omega arith), get_or-take 3 x 1 nan (omega arith), get_or-take 3 x 2 nan (omega arith))
field_few (VanDerPol μ) m x = rw (get_or-take 2 x 0 nan (omega arith), get_or-take 2 x 1 nan (omega arith))
field_few (Linear d) m x = times_few d d m x
field_few (Lorenz96 n F) m x = Ring.field_few n F x

tangent_few : (S : System) (m x t : List Float) → tangent S m x t ≡ tangent S m (take (dim S) x) (take (dim S) t)
unfolding tangent
tangent_few (Lorenz σ ρ β) m x t =
    rw (
      get_or-take 3 x 0 nan (omega arith),
      get_or-take 3 x 1 nan (omega arith),
      get_or-take 3 x 2 nan (omega arith),
      get_or-take 3 t 0 nan (omega arith),
      get_or-take 3 t 1 nan (omega arith),
      get_or-take 3 t 2 nan (omega arith),
    )
tangent_few (Rossler a b c) m x t =
    rw (
      get_or-take 3 x 0 nan (omega arith),
      get_or-take 3 x 2 nan (omega arith),
      get_or-take 3 t 0 nan (omega arith),
      get_or-take 3 t 1 nan (omega arith),
      get_or-take 3 t 2 nan (omega arith),
    )
tangent_few (VanDerPol μ) m x t =
    rw (get_or-take 2 x 0 nan (omega arith), get_or-take 2 x 1 nan (omega arith), get_or-take 2 t 0 nan (omega arith), get_or-take 2 t 1 nan (omega arith))
tangent_few (Linear d) m x t = times_few d d m t
tangent_few (Lorenz96 n F) m x t = Ring.tangent_few n x t

-- what the code's arrays hold of a derivative
pub field_front : (S : System) (m x k : List Float) → k ≡ in16 (field S m x) → take (dim S) k ≡ field S m (take (dim S) x)
field_front S m x k f = rw (f, in16_take (field S m x) (dim S) (field_length S m x)) (field_few S m x)

pub tangent_front : (S : System) (m x t k : List Float) → k ≡ in16 (tangent S m x t) → take (dim S) k ≡ tangent S m (take (dim S) x) (take (dim S) t)
tangent_front S m x t k f = rw (f, in16_take (tangent S m x t) (dim S) (tangent_length S m x t)) (tangent_few S m x t)
