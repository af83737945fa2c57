-- report::refusal_text
use native.Mathlib.Omega.{arith}
use Rattle.std.proofs.lemmas.Grind.{common_steps}
use Rattle.report.specs.Report.{refusal_text}
use Rattle.report.proofs.refusal_text.Goals as goal

pub returns : goal.returns
unfolding refusal_text
returns c = grind (arith, common_steps)
