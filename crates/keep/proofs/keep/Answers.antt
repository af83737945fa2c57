-- keep::keep
use Rattle.std.proofs.Common.{refl, ◌∙◌}
use Rattle.error.proofs.Tests.{handed_on}
use Rattle.error.specs.declared.LyapunovError.TheVariants.{StoreFull}
use Rattle.benettin.specs.Estimate.{input}
use Rattle.store.specs.Slots.{memory}
use Rattle.store.proofs.Found.{slot_below}
use Rattle.calls.specs.Calls.{brought}
use Rattle.calls.specs.Served.{serve}
use Rattle.keep.proofs.Keeping.{found, missing, told_away}
use Rattle.keep.proofs.keep.Goals as goal

pub returns-in_err-slot : goal.returns-in_err-slot
unfolding serve
returns-in_err-slot c =
    let q = missing _ _ c.slot_for.ensures c.ok_or.ensures.value c.in_err-slot.was in
    let a = c.args in
    rw (handed_on c.from_residual.result c.from_residual.ensures.1, q.1, q.0) (told_away 27 (brought (input a.system a.matrix.now a.time a.state.now a.config) a.config.top_k a.rows.now a.exponents.now a.final_state.now) StoreFull refl (memory a.floats.now a.counts.now))

pub keep_at-requires : goal.keep_at-requires
keep_at-requires c =
    slot_below c.args.number (memory c.args.floats.now c.args.counts.now) _ (found _ _ c.slot_for.ensures c.ok_or.ensures.value c.in_ok-slot.was)

pub returns : goal.returns
unfolding serve
returns c = c.keep_at.ensures ∙ rw (found _ _ c.slot_for.ensures c.ok_or.ensures.value c.in_ok-slot.was)
