-- dispatch::front::validate_turn
use Rattle.error.proofs.Tests.{stopped, behind}
use Rattle.dispatch.proofs.front.validate_turn.Goals as goal

pub returns-in_err-validate_matrix : goal.returns-in_err-validate_matrix
returns-in_err-validate_matrix c = stopped _ _ _ _ c.from_residual.ensures.1 c.in_err-validate_matrix.ensures

pub returns : goal.returns
returns c = behind _ _ c.in_ok-validate_matrix.ensures c.validate_outputs.ensures
