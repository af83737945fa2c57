-- benettin::BenettinConfig::new
use native.Mathlib.Omega.{arith}
use Rattle.std.proofs.lemmas.Grind.{common_steps}
use Rattle.benettin.specs.Estimate.{configured}
use Rattle.benettin.proofs.BenettinConfig.new.Goals as goal

pub returns-in_err-validate_settings : goal.returns-in_err-validate_settings
unfolding configured
returns-in_err-validate_settings c = grind (arith, common_steps)

pub returns : goal.returns
unfolding configured
returns c = grind (arith, common_steps)
