-- schedule::least_name
use Rattle.std.proofs.Common.{◌≤◌}
use Rattle.turns.specs.Dispatcher.{least_free}
use Rattle.schedule.proofs.least_name.Given as goal

abbrev pub invariant-loop-name : goal.invariant-loop-name
invariant-loop-name l = l.name ≤ least_free l.names
