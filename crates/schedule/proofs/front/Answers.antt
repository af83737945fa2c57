-- schedule::front
use Rattle.std.proofs.Common.{sym, ap, ◌∙◌}
use Rattle.floats.specs.Finite.{index}
use Rattle.schedule.specs.Schedule.{names_in}
use Rattle.schedule.proofs.Queue.{next_below}
use Rattle.schedule.proofs.front.Goals as goal

pub is_sound-requires : goal.is_sound-requires
is_sound-requires c = (next_below (names_in c.args.queue.now) _ (sym c.next.ensures ∙ ap index c.in_ok-slot.was)).0
