-- course::measure
use Rattle.totals.specs.Progress.{held}
use Rattle.course.proofs.Loops.{Measuring}
use Rattle.course.proofs.measure.Given as goal

abbrev pub invariant-loop-w : goal.invariant-loop-w
invariant-loop-w l = Measuring l.system l.matrix l.config (held l.initial.state l.initial.tangents l.initial.norms l.initial.progress) l.initial.rows l.w (held l.state l.tangents l.norms l.progress) l.rows
