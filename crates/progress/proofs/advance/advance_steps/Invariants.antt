-- progress::advance::advance_steps
use Rattle.progress.proofs.Steps.{Stepping}
use Rattle.progress.proofs.advance.advance_steps.Given as goal

abbrev pub invariant-loop-made : goal.invariant-loop-made
invariant-loop-made l = Stepping l.system l.matrix l.fn.config l.fn.steps l.start l.initial.state l.initial.tangents l.made l.time l.state l.tangents
