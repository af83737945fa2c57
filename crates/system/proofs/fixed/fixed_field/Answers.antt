-- system::fixed::fixed_field
use Rattle.system.proofs.Cases.{field_case}
use Rattle.system.proofs.fixed.fixed_field.Goals as goal

pub returns-in-Lorenz : goal.returns-in-Lorenz
returns-in-Lorenz c = field_case c.in-Lorenz.is tt _ _ c.lorenz_field.ensures

pub returns-in-Rossler : goal.returns-in-Rossler
returns-in-Rossler c = field_case c.in-Rossler.is tt _ _ c.rossler_field.ensures

pub returns-in-VanDerPol : goal.returns-in-VanDerPol
returns-in-VanDerPol c = field_case c.in-VanDerPol.is tt _ _ c.van_der_pol_field.ensures
