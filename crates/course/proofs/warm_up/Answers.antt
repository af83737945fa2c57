-- course::warm_up
use Rattle.std.proofs.Common.{arith}
use Rattle.error.proofs.Tests.{handed_on}
use Rattle.course.proofs.Loops.{warming_next, warming_refused, warming_end}
use Rattle.course.proofs.warm_up.Goals as goal

pub returns-in_err-window : goal.returns-in_err-window
returns-in_err-window c =
    rw (handed_on c.from_residual.result c.from_residual.ensures.1) (warming_refused c.loop.invariant (omega arith) c.in_err-window.ensures)

pub loop-preserved : goal.loop-preserved
loop-preserved c =
    let k = c.window.auto in
    warming_next c.loop.invariant (omega arith) c.in_ok-window.ensures (record { state = k.state; tangents = k.tangents })

pub returns : goal.returns
returns c = warming_end c.loop.invariant (omega arith)
