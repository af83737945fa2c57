-- The numbers of a system name it.
use mathlib.Core.Path.{◌≡◌, refl}
use Rattle.system.specs.declared.System.{System}
use Rattle.system.specs.declared.System.TheVariants.{Lorenz, Rossler, VanDerPol, Linear, Lorenz96}
use Rattle.system_numbers.specs.Numbers.{system, numbers}

pub named : (S : System) → (let n = numbers S in system n.kind n.p0 n.p1 n.p2 n.dimension ≡ S)
named (Lorenz σ ρ β) = refl
named (Rossler a b c) = refl
named (VanDerPol μ) = refl
named (Linear d) = refl
named (Lorenz96 n F) = refl
