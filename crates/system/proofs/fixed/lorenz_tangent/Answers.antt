-- system::fixed::lorenz_tangent
use mathlib.Core.Path.{refl}
use lib.Ieee.{of_bits}
use Rattle.system.specs.System.{tangent}
use Rattle.system.proofs.fixed.lorenz_tangent.Goals as goal

pub returns : goal.returns
unfolding tangent of_bits
returns c = refl
