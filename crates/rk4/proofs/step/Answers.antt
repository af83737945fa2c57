-- rk4::step
use native.Mathlib.Omega.{arith}
use Rattle.std.proofs.lemmas.Grind.{common_steps}
use Rattle.rk4.specs.Step.{stepped}
use Rattle.rk4.proofs.Tests.{step_passed}
use Rattle.rk4.proofs.step.Goals as goal

pub returns-in_err-validate_step_inputs : goal.returns-in_err-validate_step_inputs
unfolding stepped
returns-in_err-validate_step_inputs c = grind (arith, common_steps)

pub step-requires : goal.step-requires
step-requires c = let p = step_passed _ _ _ _ _ _ _ c.in_ok-validate_step_inputs.ensures in (p.0, p.1)

pub returns : goal.returns
unfolding stepped
returns c = grind (arith, common_steps)
