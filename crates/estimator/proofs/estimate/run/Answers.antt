-- estimator::estimate::run
use Rattle.std.proofs.Common.{arith}
use Rattle.error.proofs.Tests.{handed_on}
use Rattle.rk4.proofs.Tests.{passed_kept}
use Rattle.progress.proofs.Bounds.{bounded_up}
use Rattle.estimator.proofs.WholeRun.{begin_refused, warm_up_refused, course_is, run_refused, run_done}
use Rattle.estimator.proofs.estimate.run.Goals as goal

pub returns-in_err-begun : goal.returns-in_err-begun
returns-in_err-begun c =
    let a = c.args in
    let d = c.requires.0.step.state in
    rw (handed_on c.from_residual.result c.from_residual.ensures.1) (run_refused a.system a.matrix.now a.time a.state.now a.config d _ _ _ (begin_refused _ _ _ _ _ d c.in_err-begun.ensures))

pub returns-in_err-warm_up : goal.returns-in_err-warm_up
returns-in_err-warm_up c =
    let a = c.args in
    let d = c.requires.0.step.state in
    rw (handed_on c.from_residual-in_err-warm_up.result c.from_residual-in_err-warm_up.ensures.1) (run_refused a.system a.matrix.now a.time a.state.now a.config d _ _ _ (warm_up_refused _ _ _ _ _ d c.in_ok-begun.ensures c.in_err-warm_up.ensures))

pub complete-requires : goal.complete-requires
complete-requires c =
    let r = c.requires.0 in
    record {
      fits =
          record {
            passed = passed_kept c.warm_up.auto.state r.step;
            steps = r.steps_limit;
            tangents = cc (c.requires.1, r.step.state);
            bounded = bounded_up (omega (arith, r.warm_up_limit)) (omega arith) (c.in_ok-warm_up.ensures.bounded 0 0 c.in_ok-begun.ensures.bounded);
          };
      later_limit = r.windows_limit;
      total_limit = r.windows_limit;
      rows_room = r.rows;
      exponents = r.exponents;
      state = r.state;
    }

pub returns : goal.returns
returns c =
    let a = c.args in
    let r = c.requires.0 in
    let d = r.step.state in
    run_done a.system a.matrix.now a.time a.state.now a.config d _ _ _ (course_is _ _ _ _ _ d c.in_ok-begun.ensures c.in_ok-warm_up.ensures) c.complete.ensures
    (bounded_up (omega (arith, r.warm_up_limit)) (omega arith) (c.in_ok-warm_up.ensures.bounded 0 0 c.in_ok-begun.ensures.bounded)) r.windows_limit
