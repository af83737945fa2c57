-- schedule::least_name
use Rattle.std.proofs.Common.{arith}
use Rattle.turns.proofs.Names.{least_unused, least_below, least_most}
use Rattle.schedule.proofs.least_name.Goals as goal

pub loop-name-preserved : goal.loop-name-preserved
loop-name-preserved c = let u = least_unused c.args.names.now in grind arith

pub returns-then-not-is_queued : goal.returns-then-not-is_queued
returns-then-not-is_queued c = let u = least_below c.args.names.now c.loop-name.name in grind arith

pub returns : goal.returns
returns c = omega (arith, c.loop-name.invariant, least_most c.args.names.now)
