-- estimator::estimate::complete
use Rattle.std.proofs.Common.{◌+◌, arith}
use Rattle.error.proofs.Tests.{handed_on}
use Rattle.benettin.specs.Estimate.{limit}
use Rattle.progress.proofs.Bounds.{bounded_up}
use Rattle.estimator.proofs.WholeRun.{completed_refused, completed_is}
use Rattle.estimator.proofs.estimate.complete.Goals as goal

pub returns-in_err-measure : goal.returns-in_err-measure
returns-in_err-measure c =
    rw (handed_on c.from_residual.result c.from_residual.ensures.1) (completed_refused c.args.total c.args.exponents.now c.args.final_state.now c.in_err-measure.ensures)

pub end-estimate-requires : goal.end-estimate-requires
end-estimate-requires c =
    let p = c.requires in
    record {
      few = p.fits.passed.count;
      steps = p.fits.steps;
      windows = omega (arith, p.later_limit, p.total_limit);
      exponents = p.exponents;
      state = omega (arith, c.measure.auto.state, p.fits.passed.state, p.state);
      bounded = bounded_up (omega (arith, p.later_limit)) (omega (arith, p.later_limit)) (c.in_ok-measure.ensures.bounded (limit + limit) limit p.fits.bounded);
    }

pub returns : goal.returns
returns c = completed_is c.args.total c.args.exponents.now c.args.final_state.now _ _ c.end-estimate.result c.in_ok-measure.ensures c.end-estimate.ensures
