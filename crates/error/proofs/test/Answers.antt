-- error::test
use Rattle.error.proofs.Tests.{skip, stop, none_left}
use Rattle.error.proofs.test.Goals as goal

pub returns-then-passes : goal.returns-then-passes
returns-then-passes c = skip _ _ c.if-passes.true none_left

pub returns-else-passes : goal.returns-else-passes
returns-else-passes c = stop _ _ c.if-passes.false
