-- dispatch::admit
use Rattle.std.proofs.Common.{sym, [], ◌∙◌}
use Rattle.error.proofs.Tests.{handed_on, first_append, else_stop, behind}
use Rattle.store.specs.Slots as Slots
use Rattle.schedule.specs.Schedule.{memory}
use Rattle.dispatch.proofs.HandedIn.{refused_in, past_tests}
use Rattle.dispatch.proofs.admit.Goals as goal

pub returns-in_err-validate_set_up : goal.returns-in_err-validate_set_up
returns-in_err-validate_set_up c =
    let a = c.args in
    rw (handed_on c.from_residual.result c.from_residual.ensures.1) (refused_in _ _ (memory (Slots.memory a.floats.now a.counts.now) a.settings.now a.queue.now) (else_stop _ _ _ (c.in_err-validate_set_up.ensures [] a.state.now) ∙ sym (first_append _ _)))

pub returns-in_err-validate_start : goal.returns-in_err-validate_start
returns-in_err-validate_start c =
    let r = c.from_residual-in_err-validate_start in
    let a = c.args in
    rw (handed_on r.result r.ensures.1) (refused_in _ _ (memory (Slots.memory a.floats.now a.counts.now) a.settings.now a.queue.now) (behind _ _ (c.in_ok-validate_set_up.ensures [] a.state.now) c.in_err-validate_start.ensures))

pub take_in-requires : goal.take_in-requires
take_in-requires c = record { room = c.requires; passed = behind _ _ (c.in_ok-validate_set_up.ensures [] c.args.state.now) c.in_ok-validate_start.ensures }

pub returns : goal.returns
returns c = c.take_in.ensures ∙ past_tests _ _ _ (behind _ _ (c.in_ok-validate_set_up.ensures [] c.args.state.now) c.in_ok-validate_start.ensures)
