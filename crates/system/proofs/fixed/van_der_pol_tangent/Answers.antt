-- system::fixed::van_der_pol_tangent
use mathlib.Core.Path.{refl}
use lib.Ieee.{of_bits, neg}
use Rattle.system.specs.System.{tangent}
use Rattle.system.proofs.fixed.van_der_pol_tangent.Goals as goal

pub returns : goal.returns
unfolding tangent of_bits neg
returns c = refl
