-- resume::complete_from
use Rattle.std.proofs.Common.{◌∙◌}
use Rattle.error.proofs.Tests.{handed_on}
use Rattle.resume.proofs.GoingOn.{resumed_is}
use Rattle.resume.proofs.complete_from.Goals as goal

pub returns-in_err-done : goal.returns-in_err-done
returns-in_err-done c =
    rw (handed_on c.from_residual.result c.from_residual.ensures.1) (c.in_err-done.ensures.answered ∙ resumed_is _ _ c.args.config _ _ _ _ _ (rw c.requires.passed.state at c.load-from.ensures))

pub returns : goal.returns
returns c = c.in_ok-done.ensures.answered ∙ resumed_is _ _ c.args.config _ _ _ _ _ (rw c.requires.passed.state at c.load-from.ensures)
