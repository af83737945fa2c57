-- course::warm_up
use Rattle.totals.specs.Progress.{held}
use Rattle.course.proofs.Loops.{Warming}
use Rattle.course.proofs.warm_up.Given as goal

abbrev pub invariant-loop : goal.invariant-loop
invariant-loop l = Warming l.system l.matrix l.config (held l.initial.state l.initial.tangents l.initial.norms l.initial.progress) l.counter (held l.state l.tangents l.norms l.progress)
