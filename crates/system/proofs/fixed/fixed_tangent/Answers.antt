-- system::fixed::fixed_tangent
use Rattle.system.specs.System.{tangent}
use Rattle.system.proofs.Cases.{tangent_case}
use Rattle.system.proofs.fixed.fixed_tangent.Goals as goal

pub returns-in-Lorenz : goal.returns-in-Lorenz
returns-in-Lorenz c = tangent_case c.in-Lorenz.is tt _ _ _ c.lorenz_tangent.ensures

-- b is not read
pub returns-in-Rossler : goal.returns-in-Rossler
unfolding tangent
returns-in-Rossler c = tangent_case c.in-Rossler.is tt _ _ _ c.rossler_tangent.ensures

pub returns-in-VanDerPol : goal.returns-in-VanDerPol
returns-in-VanDerPol c = tangent_case c.in-VanDerPol.is tt _ _ _ c.van_der_pol_tangent.ensures
