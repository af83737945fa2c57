-- keep::go_on
use Rattle.std.proofs.Common.{arith, refl, ap, ◌+◌, ◌∙◌}
use Rattle.error.proofs.Tests.{handed_on}
use Rattle.error.specs.declared.LyapunovError.TheVariants.{NoSuchNumber}
use Rattle.benettin.specs.Estimate.{input}
use Rattle.benettin.specs.Outputs.{Estimated}
use Rattle.store.specs.Slots.{memory}
use Rattle.store.proofs.Found.{first_below, first_tag}
use Rattle.calls.specs.Calls.{brought, ran}
use Rattle.calls.specs.Served.{served, serve}
use Rattle.keep.proofs.Keeping.{found, missing, told_away}
use Rattle.keep.proofs.go_on.Goals as goal

pub returns-in_err-slot : goal.returns-in_err-slot
unfolding serve
returns-in_err-slot c =
    let q = missing _ _ c.slot_of.ensures c.ok_or.ensures.value c.in_err-slot.was in
    let a = c.args in
    rw (handed_on c.from_residual.result c.from_residual.ensures.1, q.1, q.0) (told_away 26 (brought (input a.system a.matrix.now a.time a.state.now a.config) a.config.top_k a.rows.now a.exponents.now a.final_state.now) NoSuchNumber refl (memory a.floats.now a.counts.now))

pub go_on_from-requires : goal.go_on_from-requires
go_on_from-requires c =
    let f = found _ _ c.slot_of.ensures c.ok_or.ensures.value c.in_ok-slot.was in
    let m = memory c.args.floats.now c.args.counts.now in
    (first_below (c.args.number + 1) m _ f, λ z. let e = first_tag (c.args.number + 1) m _ f in absurd (omega (arith, e, z)))

pub returns : goal.returns
unfolding serve
returns c =
    let a = c.args in
    ap (λ (x : Estimated). served (ran x) (memory a.floats.now a.counts.now)) c.go_on_from.ensures ∙ rw (found _ _ c.slot_of.ensures c.ok_or.ensures.value c.in_ok-slot.was)
