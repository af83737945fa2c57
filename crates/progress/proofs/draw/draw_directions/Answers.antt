-- progress::draw::draw_directions
use Rattle.std.proofs.Common.{sym, ◌∙◌, arith}
use Rattle.benettin.specs.Estimate.{splitmix64}
use Rattle.progress.proofs.Draws.{draws_iteration, draws_end}
use Rattle.progress.proofs.draw.draw_directions.Goals as goal

pub loop-entry-preserved : goal.loop-entry-preserved
loop-entry-preserved c =
    let l = c.loop-entry in
    l.invariant ∙ draws_iteration l.entry-items _ l.entry-index l.generator _ _ (omega arith) (omega arith) c.symmetric_unit-value.ensures

pub returns : goal.returns
returns c =
    let l = c.loop-entry in
    sym (l.invariant ∙ draws_end splitmix64 l.entry-items _ l.entry-index _ (omega arith) (omega arith))
