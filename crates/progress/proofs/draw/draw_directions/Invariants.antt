-- progress::draw::draw_directions
use Rattle.std.proofs.Common.{◌≡◌, ◌-◌, ◌++◌, length, take}
use Rattle.benettin.specs.Run.{draws}
use Rattle.benettin.specs.Estimate.{splitmix64}
use Rattle.progress.proofs.draw.draw_directions.Given as goal

abbrev pub invariant-loop-entry : goal.invariant-loop-entry
invariant-loop-entry l = draws splitmix64 (length l.initial.entry-items) l.seed ≡ take l.entry-index l.entry-items ++ draws splitmix64 (length l.initial.entry-items - l.entry-index) l.generator.state
