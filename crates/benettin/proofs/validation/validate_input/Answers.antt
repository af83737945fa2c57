-- benettin::validation::validate_input
use mathlib.Core.List.{[]}
use Rattle.error.proofs.Tests.{stopped, behind}
use Rattle.benettin.specs.Run.{input_tests}
use Rattle.benettin.specs.Estimate.{problem_within, dynamics}
use Rattle.benettin.proofs.validation.validate_input.Goals as goal

pub returns-in_err-validate_set_up : goal.returns-in_err-validate_set_up
unfolding input_tests problem_within dynamics
returns-in_err-validate_set_up c = stopped _ _ _ _ c.from_residual.ensures.1 (c.in_err-validate_set_up.ensures [] [])

pub returns-in_err-validate_matrix : goal.returns-in_err-validate_matrix
unfolding input_tests problem_within dynamics
returns-in_err-validate_matrix c = behind _ _ (c.in_ok-validate_set_up.ensures [] []) (stopped _ _ _ _ c.from_residual-in_err-validate_matrix.ensures.1 c.in_err-validate_matrix.ensures)

pub returns : goal.returns
unfolding input_tests problem_within dynamics
returns c = behind _ _ (c.in_ok-validate_set_up.ensures [] []) (behind _ _ c.in_ok-validate_matrix.ensures c.validate_start.ensures)
