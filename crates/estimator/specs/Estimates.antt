-- What the contracts of the whole run say, by name: a run under way that is completed, and a run whose working memory is lent. A reader may skip it. Definitions only.
use Rattle.std.specs.Prelude.{ℕ, ◌+◌, ◌*◌, ◌≤◌, ◌≡◌, List, length, take, Float, Result, Ok, Err, IfOk}
use Rattle.std.proofs.Math.Option.{none}
use Rattle.system.specs.System.{dim}
use Rattle.system.specs.declared.System.{System}
use Rattle.rk4.specs.Tests.{Passed}
use Rattle.benettin.specs.Run.{ok, answer, run_past, course_of}
use Rattle.benettin.specs.Estimate.{Input, limit, dynamics, problem}
use Rattle.benettin.specs.Outputs.{Meets, call, observed, outputs}
use Rattle.totals.specs.Progress.{Held, held, run_state, status}
use Rattle.totals.specs.Ending.{Bounded}
use Rattle.progress.specs.UnderWay.{Fits, AllMeasured, recorded}
use Rattle.course.specs.Course.{written, windows_from}
use Rattle.benettin.specs.declared.BenettinConfig.{BenettinConfig}
use Rattle.benettin.specs.declared.RefusedRun.{RefusedRun}
use Rattle.benettin.specs.declared.SpectrumEstimate.{SpectrumEstimate}
use Rattle.totals.specs.declared.Progress.{Progress}
use Rattle.estimator.specs.declared.estimate.RunEnd.{RunEnd}

-- ---- a run under way, with the windows of its settings, the last of `total`, to be made

-- what it has to fit
pub record Completes (S : System) (m : List Float) (c : BenettinConfig) (total : ℕ) (H : Held) (rows es fs : List Float) : Type 0 where
  pub fits : Fits S m c (limit + limit) limit H
  pub later_limit : c.windows ≤ limit
  pub total_limit : total ≤ limit
  pub rows_room : c.windows * (1 + 2 * c.top_k) ≤ length rows
  pub exponents : c.top_k ≤ length es
  pub state : dim S ≤ length fs

-- what the code answers of a run, without what it carries on
abbrev pub estimate_of : Result RunEnd RefusedRun → Result SpectrumEstimate RefusedRun
estimate_of (Ok r) = Ok r.estimate
estimate_of (Err r) = Err r

-- and what it carries on
abbrev pub progress_of : Result RunEnd RefusedRun → Result Progress RefusedRun
progress_of (Ok r) = Ok r.progress
progress_of (Err r) = Err r

-- what it comes to: the course, and the answer of all windows
pub record Completed (S : System) (m : List Float) (c : BenettinConfig) (total : ℕ) (H : Held) (rows es fs x t ns rows' es' fs' : List Float) (r : Result RunEnd RefusedRun) : Type 0 where
  pub course : recorded rows' (status (dim S) c.top_k x t ns (progress_of r)) ≡ written rows 0 (windows_from S m c H)
  pub answered : (let T = windows_from S m c H in
      observed (estimate_of r) rows' es' fs' ≡ outputs total rows es fs (answer (dynamics S m c.step_size c.steps_per_window) total c.top_k T.rows T.end))
  pub bounded : AllMeasured c.top_k c.windows H.progress (progress_of r)

-- ---- a whole run for K rates, once its tests are passed

-- where it stands at its end, which bounds hold, and what it answers
pub record RunDone (i : Input) (K : ℕ) (rows es fs x t ns rows' es' fs' : List Float) (r : Result RunEnd RefusedRun) : Type 0 where
  pub course : recorded rows' (status (dim i.system) K x t ns (progress_of r)) ≡ written rows 0 (course_of (problem i) K)
  pub answered : observed (estimate_of r) rows' es' fs' ≡ outputs i.windows rows es fs (run_past none (problem i) K)
  pub bounded : IfOk r (λ e. Bounded K (limit + limit) limit e.progress)

-- ---- a run with its working memory lent: the state and the directions at the front of their arrays

-- where a run that is not refused stands at its end, that it passed its tests, and which bounds hold there
pub record StandsAt (i : Input) (K : ℕ) (H : Held) : Type 0 where
  pub passed : Passed i.system i.matrix i.state K i.step_size
  pub end : (course_of (problem i) K).end ≡ ok (run_state (dim i.system) K H)
  pub bounded : Bounded K (limit + limit) limit H.progress

pub record Ran (i : Input) (K : ℕ) (rows es fs moving tangents norms rows' es' fs' : List Float) (r : Result RunEnd RefusedRun) : Type 0 where
  pub meets : Meets i K (call rows es fs (observed (estimate_of r) rows' es' fs'))
  pub stands : IfOk r (λ e. StandsAt i K (held (take (length i.state) moving) (take (K * length i.state) tangents) norms e.progress))
