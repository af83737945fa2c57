-- progress::advance::advance_steps
use Rattle.std.proofs.Common.{sym, arith}
use Rattle.progress.proofs.Steps.{stepping_on, stepping_refused, stepping_late, stepping_end}
use Rattle.progress.proofs.advance.advance_steps.Goals as goal

pub returns-in-Err : goal.returns-in-Err
returns-in-Err c = stepping_refused c.loop-made.invariant _ _ c.loop-made-test.true c.in-Err.ensures

pub returns-then-not-is_finite : goal.returns-then-not-is_finite
returns-then-not-is_finite c = stepping_late c.loop-made.invariant _ _ c.loop-made-test.true c.in_default.ensures (sym c.if-not-is_finite.ensures)

pub loop-made-preserved : goal.loop-made-preserved
loop-made-preserved c = stepping_on c.loop-made.invariant _ _ c.loop-made-test.true c.in_default.ensures c.step.auto.state c.step.auto.tangents (sym c.if-not-is_finite.ensures)

pub returns : goal.returns
returns c = stepping_end c.loop-made.invariant (omega arith)
