-- keep::forget
use Rattle.std.proofs.Common.{arith, ◌+◌, ◌<◌}
use Rattle.error.proofs.Tests.{handed_on}
use Rattle.store.specs.Slots.{memory}
use Rattle.store.proofs.Found.{first_below}
use Rattle.calls.specs.Served.{serve}
use Rattle.keep.proofs.Keeping.{found, missing}
use Rattle.keep.proofs.forget.Goals as goal
use Rattle.keep.proofs.forget.Goals.{In_ok-forgotten}

below : (c : In_ok-forgotten) → c.in_ok-forgotten.forgotten < 8
below c = let a = c.args in first_below (a.number + 1) (memory a.floats.now a.counts.now) _ (found _ _ c.slot_of.ensures c.ok_or.ensures.value c.in_ok-forgotten.was)

pub returns-in_err-forgotten : goal.returns-in_err-forgotten
unfolding serve
returns-in_err-forgotten c =
    let q = missing _ _ c.slot_of.ensures c.ok_or.ensures.value c.in_err-forgotten.was in
    rw (handed_on c.from_residual.result c.from_residual.ensures.1, q.1, q.0)

pub overflow_mul-counts : goal.overflow_mul-counts
overflow_mul-counts c = omega (arith, below c)

pub offset_bounds-counts-forgotten : goal.offset_bounds-counts-forgotten
offset_bounds-counts-forgotten c = omega (arith, below (goal.at.offset_bounds-counts-forgotten c).In_ok-forgotten)

pub bounds-counts-forgotten : goal.bounds-counts-forgotten
bounds-counts-forgotten c = omega (arith, below (goal.at.bounds-counts-forgotten c).In_ok-forgotten)

pub returns : goal.returns
unfolding serve
returns c = rw (found _ _ c.slot_of.ensures c.ok_or.ensures.value c.in_ok-forgotten.was)
