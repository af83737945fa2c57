-- resume::go_on_from
use Rattle.std.proofs.Common.{◌≡◌, ◌+◌, ◌*◌, ◌≤◌, ◌∙◌, [], length, arith}
use Rattle.std.proofs.Math.Option.{none}
use lib.ListN.{length-take}
use lib.Seq.{length-take-le}
use lib.Ieee.{Float}
use Rattle.error.proofs.Tests.{handed_on}
use Rattle.rk4.proofs.Tests.{passed_kept}
use Rattle.benettin.specs.Outputs.{lengths_of}
use Rattle.benettin.specs.Estimate.{input}
use Rattle.benettin.specs.Validation.{Ready}
use Rattle.benettin.proofs.RunTests.{ready}
use Rattle.store.specs.Slots.{memory, windows_at}
use Rattle.store.proofs.Found.{used_windows}
use Rattle.resume.proofs.GoingOn.{sizes, tests_of, refused_by_tests, resumed_by_tests}
use Rattle.resume.proofs.go_on_from.Goals as goal
use Rattle.resume.proofs.go_on_from.Goals.{In_ok-validate_later}

-- what is known behind the tests
module _ (c : In_ok-validate_later) where
  passed : none ≡ (let a = c.args in tests_of a.system a.matrix.now a.time a.state.now a.config a.slot (memory a.floats.now a.counts.now) a.rows.now a.exponents.now a.final_state.now)
  passed = rw (c.windows_at-windows.ensures c.args.floats.now, c.of-lengths.ensures) at c.in_ok-validate_later.ensures

  known : (let a = c.args in Ready (windows_at a.slot (memory a.floats.now a.counts.now) + a.config.windows) (input a.system a.matrix.now a.time a.state.now a.config) a.config.top_k (lengths_of a.rows.now a.exponents.now a.final_state.now))
  known = ready _ _ _ _ passed

  small : length c.args.state.now ≤ 16
  small = (sizes known).0

  entries : c.args.config.top_k * length c.args.state.now ≤ 256
  entries = (sizes known).1

pub validate_later-requires : goal.validate_later-requires
validate_later-requires c = omega (arith, c.windows_at-windows.ensures [], used_windows c.args.slot (memory c.args.floats.now c.args.counts.now) c.requires.1)

pub returns-in_err-validate_later : goal.returns-in_err-validate_later
returns-in_err-validate_later c =
    let a = c.args in
    rw (handed_on c.from_residual.result c.from_residual.ensures.1) (refused_by_tests a.system a.matrix.now a.time a.state.now a.config a.slot (memory a.floats.now a.counts.now) a.rows.now a.exponents.now a.final_state.now _ (rw (c.windows_at-windows.ensures c.args.floats.now, c.of-lengths.ensures) at c.in_err-validate_later.ensures))

pub overflow_mul-kd : goal.overflow_mul-kd
overflow_mul-kd c = omega (arith, entries (goal.at.overflow_mul-kd c).In_ok-validate_later)

pub slice_bounds-moving-end : goal.slice_bounds-moving-end
slice_bounds-moving-end c = small (goal.at.slice_bounds-moving-end c).In_ok-validate_later

pub slice_bounds-complete_from-end : goal.slice_bounds-complete_from-end
slice_bounds-complete_from-end c = omega (arith, length-take {A = Float}, small (goal.at.slice_bounds-complete_from-end c).In_ok-validate_later)

pub slice_bounds-tangents-end : goal.slice_bounds-tangents-end
slice_bounds-tangents-end c = entries (goal.at.slice_bounds-tangents-end c).In_ok-validate_later

pub slice_bounds-complete_from-end-2 : goal.slice_bounds-complete_from-end-2
slice_bounds-complete_from-end-2 c = omega (arith, length-take {A = Float}, entries (goal.at.slice_bounds-complete_from-end-2 c).In_ok-validate_later)

pub complete_from-requires : goal.complete_from-requires
complete_from-requires c =
    let e = (goal.at.complete_from-requires c).In_ok-validate_later in
    let p = known e in
    let n = length-take-le _ _ (small e) in
    record {
      slot = c.requires.0;
      used = c.requires.1;
      passed = passed_kept n p.step;
      steps = p.steps_limit;
      windows = p.windows_limit;
      tangents = length-take-le _ _ (entries e) ∙ rw n;
      rows_room = p.rows;
      exponents = p.exponents;
      state = p.state;
    }

pub returns : goal.returns
returns c =
    let a = c.args in
    c.complete_from.ensures ∙ resumed_by_tests a.system a.matrix.now a.time a.state.now a.config a.slot (memory a.floats.now a.counts.now) a.rows.now a.exponents.now a.final_state.now (passed (goal.at.returns c).In_ok-validate_later)
