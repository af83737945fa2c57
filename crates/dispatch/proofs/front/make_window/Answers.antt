-- dispatch::front::make_window
use native.Mathlib.Omega.{arith}
use Prim.Native.Nat.{◌+◌, ◌*◌}
use mathlib.Core.Path.{refl, ap, ◌∙◌}
use borrow.Author.Tests.{lt-ltb, le-ltb}
use lib.ListN.{length}
use Rattle.error.proofs.Tests.{handed_on}
use Rattle.floats.proofs.Parts.{part_many}
use Rattle.floats.proofs.Sets.{part_length}
use Rattle.progress.proofs.Bounds.{bounded_up}
use Rattle.benettin.specs.Estimate.{limit}
use Rattle.dispatch.proofs.Windows.{directions, entries, room, next_few, row_room, place_small, lent, warm_up_made, refused_made, measured_made}
use Rattle.dispatch.proofs.front.make_window.Goals as goal

pub overflow_mul-e : goal.overflow_mul-e
overflow_mul-e c = let p = c.requires in omega (arith, directions p, entries p)

pub overflow_add-e : goal.overflow_add-e
overflow_add-e c = let p = c.requires in omega (arith, directions p, entries p, p.slot)

pub slice_bounds-tangents-end : goal.slice_bounds-tangents-end
slice_bounds-tangents-end c = let p = c.requires in omega (arith, directions p, room p _ c.told-floats)

pub window-requires : goal.window-requires
window-requires c =
    let p = c.requires in (
      record {
        passed = p.passed;
        steps = p.steps;
        tangents = ap length (lent p _) ∙ part_length _ _ _ (room p _ c.told-floats);
        bounded = bounded_up (omega arith) (omega arith) p.bounded;
      },
      omega (arith, next_few p, c.steps_of_next-steps.ensures),
    )

pub returns-in_err-window : goal.returns-in_err-window
returns-in_err-window c =
    rw (handed_on c.from_residual.result c.from_residual.ensures.1) (refused_made c.requires _ _ c.told-floats (lent c.requires _) c.window.auto.tangents refl (rw c.steps_of_next-steps.ensures at c.in_err-window.ensures))

pub returns-then-settings-config : goal.returns-then-settings-config
returns-then-settings-config c =
    warm_up_made c.requires _ _ c.told-floats (lent c.requires _) c.window.auto.tangents refl (rw c.steps_of_next-steps.ensures at c.in_ok-window.ensures) (lt-ltb _ _ c.if-settings-config.true)

pub overflow_mul-b : goal.overflow_mul-b
overflow_mul-b c = omega (arith, place_small c.requires)

pub overflow_add-f : goal.overflow_add-f
overflow_add-f c = let p = c.requires in omega (arith, place_small p, p.passed.count)

pub offset_bounds-rows-b : goal.offset_bounds-rows-b
offset_bounds-rows-b c = omega (arith, place_small c.requires)

pub slice_bounds-row-end : goal.slice_bounds-row-end
slice_bounds-row-end c = omega (arith, row_room c.requires)

pub record_window-requires : goal.record_window-requires
record_window-requires c =
    let p = c.requires in
    let a = c.args in
    let w = 1 + 2 * a.settings.config.top_k in
    record {
      few = p.passed.count;
      steps = p.steps;
      row = part_many a.rows.now (a.progress.now.windows * w) w (row_room p);
      bounded = bounded_up (omega arith) (omega arith) (c.in_ok-window.ensures.bounded (limit + limit) limit p.bounded);
    }

pub returns : goal.returns
returns c =
    measured_made c.requires _ _ c.told-floats (lent c.requires _) c.window.auto.tangents refl (rw c.steps_of_next-steps.ensures at c.in_ok-window.ensures) (le-ltb _ _ c.if-settings-config.false) c.record_window.ensures c.record_window.auto.row
