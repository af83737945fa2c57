-- schedule::new_name
use Rattle.std.proofs.Common.{ap, ◌∙◌, arith}
use Rattle.turns.specs.Dispatcher.{least_free}
use Rattle.schedule.proofs.Queue.{names_many, names_are}
use Rattle.schedule.proofs.new_name.Goals as goal

pub overflow_add-e : goal.overflow_add-e
overflow_add-e c = omega (arith, c.queue_length-e.ensures, names_many c.args.queue.now (omega arith))

pub slice_bounds-least_name-end : goal.slice_bounds-least_name-end
slice_bounds-least_name-end c = omega (arith, c.queue_length-e.ensures, names_many c.args.queue.now (omega arith))

pub returns : goal.returns
returns c = c.least_name.ensures ∙ ap least_free (names_are c.args.queue.now (omega arith) _ (omega (arith, c.queue_length-e.ensures)))
