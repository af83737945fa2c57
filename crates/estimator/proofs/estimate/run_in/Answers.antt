-- estimator::estimate::run_in
use Rattle.std.proofs.Common.{◌*◌, length, ap, ◌∙◌, arith}
use lib.Seq.{length-take-le, take_at}
use Rattle.error.proofs.Tests.{handed_on}
use Rattle.benettin.specs.Estimate.{input, problem}
use Rattle.benettin.specs.Outputs.{lengths_of}
use Rattle.benettin.specs.Validation.{Ready}
use Rattle.benettin.proofs.RunTests.{ready}
use Rattle.estimator.proofs.WholeRun.{ran_refused, ran_done, front, sizes}
use Rattle.estimator.proofs.estimate.run_in.Goals as goal
use Rattle.estimator.proofs.estimate.run_in.Goals.{In_ok-validate}

known : (c : In_ok-validate)
    → (let a = c.args in Ready a.config.windows (input a.system a.matrix.now a.time a.state.now a.config) a.config.top_k (lengths_of a.rows.now a.exponents.now a.final_state.now))
unfolding problem
known c = ready _ _ _ _ (rw c.of-lengths.ensures at c.in_ok-validate.ensures)

pub returns-in_err-validate : goal.returns-in_err-validate
unfolding problem
returns-in_err-validate c =
    rw (handed_on c.from_residual.result c.from_residual.ensures.1) (ran_refused _ _ _ _ _ _ (rw c.of-lengths.ensures at c.in_err-validate.ensures))

pub overflow_mul-kd : goal.overflow_mul-kd
overflow_mul-kd c = omega (arith, (sizes (known (goal.at.overflow_mul-kd c).In_ok-validate)).1)

pub slice_bounds-copy_from_slice-end : goal.slice_bounds-copy_from_slice-end
slice_bounds-copy_from_slice-end c = omega (arith, (sizes (known (goal.at.slice_bounds-copy_from_slice-end c).In_ok-validate)).0)

pub slice_bounds-run-end-3 : goal.slice_bounds-run-end-3
slice_bounds-run-end-3 c = omega (arith, (sizes (known (goal.at.slice_bounds-run-end-3 c).In_ok-validate)).1)

pub run-requires : goal.run-requires
run-requires c =
    let K = known (goal.at.run-requires c).In_ok-validate in
    rw (front _ _ _ c.copy_from_slice.ensures.after) (K, length-take-le _ _ (omega (arith, (sizes K).1)))

pub returns : goal.returns
unfolding problem
returns c =
    let n = c.run.auto in
    let e = front _ _ _ c.copy_from_slice.ensures.after in
    ran_done _ _ _ _ _ _ _ (rw c.of-lengths.ensures at c.in_ok-validate.ensures) (rw e at c.run.ensures)
    (take_at _ _ (length c.args.state.now) (n.state ∙ ap length e))
    (take_at _ _ (c.args.config.top_k * length c.args.state.now) (n.tangents ∙ length-take-le _ _ (omega (arith, (sizes (known (goal.at.returns c).In_ok-validate)).1))))
