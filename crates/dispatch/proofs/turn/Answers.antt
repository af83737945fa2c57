-- dispatch::turn
use Rattle.std.proofs.Common.{sym, ap, ◌∙◌}
use Rattle.floats.specs.Finite.{index}
use Rattle.store.specs.Slots as Slots
use Rattle.schedule.specs.Schedule.{memory}
use Rattle.dispatch.proofs.Turns.{in_front, front_turn, nobody_returns}
use Rattle.dispatch.proofs.turn.Goals as goal

pub turn_of-requires : goal.turn_of-requires
turn_of-requires c = in_front _ _ (sym (ap index c.in-Some.is) ∙ c.front.ensures)

pub returns-in_default : goal.returns-in_default
returns-in_default c =
    let a = c.args in
    front_turn (memory (Slots.memory a.floats.now a.counts.now) a.settings.now a.queue.now) a.matrix.now (sym (ap index c.in_default.is) ∙ c.front.ensures) (nobody_returns a.matrix.now)

pub returns : goal.returns
returns c =
    let a = c.args in
    front_turn (memory (Slots.memory a.floats.now a.counts.now) a.settings.now a.queue.now) a.matrix.now (sym (ap index c.in-Some.is) ∙ c.front.ensures) c.turn_of.ensures
