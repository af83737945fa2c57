-- system::fixed::lorenz_field
use mathlib.Core.Path.{refl}
use lib.Ieee.{of_bits}
use Rattle.system.specs.System.{field}
use Rattle.system.proofs.fixed.lorenz_field.Goals as goal

pub returns : goal.returns
unfolding field of_bits
returns c = refl
