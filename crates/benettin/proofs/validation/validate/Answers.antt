-- benettin::validation::validate
use Rattle.error.proofs.Tests.{stopped, behind}
use Rattle.benettin.specs.Run.{run_tests}
use Rattle.benettin.specs.Estimate.{problem_within, dynamics}
use Rattle.benettin.proofs.validation.validate.Goals as goal

pub returns-in_err-validate_input : goal.returns-in_err-validate_input
unfolding run_tests problem_within dynamics
returns-in_err-validate_input c = stopped _ _ _ _ c.from_residual.ensures.1 c.in_err-validate_input.ensures

pub returns : goal.returns
unfolding run_tests problem_within dynamics
returns c = behind _ _ c.in_ok-validate_input.ensures c.validate_outputs.ensures
