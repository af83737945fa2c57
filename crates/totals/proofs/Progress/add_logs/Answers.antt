-- totals::Progress::add_logs
use Rattle.std.proofs.Common.{sym, ap, ◌∙◌, arith}
use lib.ListN.{length-set}
use lib.Ieee.{nan}
use Rattle.floats.specs.Arithmetic.{◌⊕◌}
use Rattle.floats.proofs.Updated.{updated_next, updated_end}
use Rattle.totals.specs.Progress.{with_sums}
use Rattle.totals.proofs.Progress.add_logs.Goals as goal

pub loop-i-preserved : goal.loop-i-preserved
loop-i-preserved c =
    let l = c.loop-i in
    (simp length-set (omega arith), l.invariant.1 ∙ updated_next (◌⊕◌) l.self.sums c.args.logs.now l.i nan nan (omega arith) (omega arith), grind arith)

pub returns : goal.returns
returns c =
    let l = c.loop-i in
    grind arith ∙ ap (with_sums c.args.self.now) (sym (l.invariant.1 ∙ updated_end (◌⊕◌) l.self.sums c.args.logs.now l.i (omega arith)))
