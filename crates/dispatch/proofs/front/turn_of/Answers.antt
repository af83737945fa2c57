-- dispatch::front::turn_of
use Rattle.std.proofs.Common.{◌≡◌, ℕ, ◌*◌, length, arith, refl, sym, ap, ◌∙◌}
use lib.Seq.{length-take-le}
use Rattle.floats.specs.Vector.{part}
use Rattle.system.specs.System.{dim}
use Rattle.dispatch.proofs.Turns.{limited, taken, taken_few, few_begun, unfit_returns, fit_returns, turns_in}
use Rattle.dispatch.proofs.front.turn_of.Goals as goal

pub overflow_add-result : goal.overflow_add-result
overflow_add-result c = omega (arith, few_begun c.requires c.settings_at-set.ensures (c.windows_at.ensures c.args.floats.now))

pub returns-in-Err : goal.returns-in-Err
returns-in-Err c =
    unfit_returns c.requires c.settings_at-set.ensures c.args.matrix.now c.args.rows.now c.args.exponents.now c.args.final_state.now _ (rw c.of-lengths.ensures at c.in-Err.ensures) (c.windows_at.ensures c.args.floats.now)

pub slice_bounds-moving-end : goal.slice_bounds-moving-end
slice_bounds-moving-end c = omega (arith, c.dimension-d.ensures, (limited c.requires c.settings_at-set.ensures).4)

pub slice_bounds-state-end : goal.slice_bounds-state-end
slice_bounds-state-end c = sym (length-take-le _ _ (omega (arith, c.dimension-d.ensures, (limited c.requires c.settings_at-set.ensures).4)))

pub load_vectors-requires : goal.load_vectors-requires
load_vectors-requires c =
    let l = limited c.requires c.settings_at-set.ensures in
    record { slot = c.requires.slot; entries = taken_few _ _ (omega (arith, c.dimension-d.ensures, l.4)); few = l.5 }

pub turn_in-requires : goal.turn_in-requires
turn_in-requires c =
    let a = c.args in
    let e = c.settings_at-set.ensures in
    let kept = c.load_vectors.auto.state in
    let d : length c.load_vectors.new.state ≡ dim c.settings_at-set.result.system =
    kept ∙ length-take-le _ _ (omega (arith, c.dimension-d.ensures, (limited c.requires e).4)) ∙ c.dimension-d.ensures in
    turns_in c.requires e a.matrix.now a.rows.now a.exponents.now a.final_state.now (rw c.of-lengths.ensures at c.in_default.ensures) d
    (taken c.requires e _ refl (omega arith) (omega arith) d (c.load_vectors.ensures.0 ∙ ap (λ (n : ℕ). part (321 * a.slot) n a.floats.now) (sym kept), c.load_vectors.ensures.1) c.faint_at-faint.ensures)

pub returns : goal.returns
returns c = fit_returns c.requires c.settings_at-set.ensures c.args.matrix.now c.args.rows.now c.args.exponents.now c.args.final_state.now (rw c.of-lengths.ensures at c.in_default.ensures) c.turn_in.ensures
