-- course::measure
use Rattle.std.proofs.Common.{arith}
use Rattle.error.proofs.Tests.{handed_on}
use Rattle.course.proofs.Loops.{measuring_start, measuring_next, measuring_refused, measuring_end}
use Rattle.course.proofs.measure.Goals as goal

pub loop-w-init : goal.loop-w-init
loop-w-init c = measuring_start _ c.requires.0

pub returns-in_err-measured_window : goal.returns-in_err-measured_window
returns-in_err-measured_window c =
    rw (handed_on c.from_residual.result c.from_residual.ensures.1) (measuring_refused c.loop-w.invariant (omega arith) (omega arith) c.measured_window.auto.row c.in_err-measured_window.ensures)

pub loop-w-preserved : goal.loop-w-preserved
loop-w-preserved c =
    let k = c.measured_window.auto in
    measuring_next c.loop-w.invariant (omega arith) (omega arith) k.row c.in_ok-measured_window.ensures (record { state = k.state; tangents = k.tangents })

pub returns : goal.returns
returns c = measuring_end c.loop-w.invariant (omega arith)
