-- The whole run: where it stands after its windows, its end, and what the tests decide.
use Prim.Native.Nat.{ℕ, ◌+◌, ◌*◌, ◌≤◌}
use native.Mathlib.Nat.{mul-le-mul_right, mul-le-mul_left, le_trans}
use native.Mathlib.Omega.{arith}
use mathlib.Core.Path.{◌≡◌, refl, sym, ap, ◌∙◌}
use mathlib.Core.List.{List, [], ◌++◌}
use mathlib.Core.Option.{Option, none, some}
use lib.ListN.{length, take}
use lib.Seq.{sets, take-append_seam}
use lib.Ieee.{Float}
use Rattle.std.specs.Prelude.{Result, Ok, Err, IfOk}
use Rattle.error.specs.Refusal.{refusal}
use Rattle.error.specs.Tests.{first_failing}
use Rattle.error.specs.declared.LyapunovError.{LyapunovError}
use Rattle.error.specs.declared.Refusal.{Refusal}
use Rattle.floats.specs.Arithmetic.{◌⊗◌}
use Rattle.system.specs.System.{dim}
use Rattle.system.specs.declared.System.{System}
use Rattle.rk4.specs.Tests.{Passed}
use Rattle.benettin.specs.Validation.{Ready}
use Rattle.benettin.specs.Run.{Dynamics, Course, ok, warmed_up, measured_from, course, course_of, as_float, answer, run_tests, run_past, run, ◌then◌}
use Rattle.benettin.specs.declared.OutputLengths.{OutputLengths}
use Rattle.benettin.specs.Estimate.{Input, limit, dynamics, problem_within, problem, estimate, input}
use Rattle.benettin.specs.Outputs.{estimated, outputs_from, outputs, observed, lengths_of, flat_rows, unstarted}
use Rattle.benettin.specs.declared.BenettinConfig.{BenettinConfig}
use Rattle.benettin.specs.declared.RefusedRun.{RefusedRun}
use Rattle.benettin.specs.declared.SpectrumEstimate.{SpectrumEstimate}
use Rattle.benettin.proofs.Reading.{none_faint}
use Rattle.benettin.proofs.RunTests.{ready}
use Rattle.totals.specs.Progress.{Held, held, run_state, refused_as}
use Rattle.totals.specs.declared.Progress.{Progress}
use Rattle.totals.specs.Ending.{Bounded, Ended}
use Rattle.progress.specs.UnderWay.{Begun, Recorded, recorded}
use Rattle.progress.proofs.Bounds.{bounded_up}
use Rattle.course.specs.Course.{WarmedUp, written, windows_from, MeasuredWindows}
use Rattle.estimator.specs.Estimates.{progress_of, Completed, RunDone, StandsAt, Ran}
use Rattle.estimator.specs.declared.estimate.RunEnd.{RunEnd}

-- ---- where a run stands after its windows, and its end, once the tests are passed

-- of the course T, whose rows are written from place a on
module _ (M : Dynamics) (k W a : ℕ) (rows : List Float) {rows' : List Float} (T : Course) (es fs : List Float) where
  refused_is : (r : RefusedRun) → recorded rows' (refused_as r) ≡ written rows a T → observed (Err r) rows' es fs ≡ outputs_from a W rows es fs (answer M W k T.rows T.end)
  unfolding outputs_from answer
  refused_is r e =
      let x : rows' ≡ sets rows a (flat_rows T.rows) = ap (λ (y : Recorded). y.rows) e in
      rw (x, ← ap (λ (y : Recorded). y.end) e, none_faint k)

  ended_is : (d : ℕ) (H : Held) (es' fs' : List Float) (r : SpectrumEstimate) → recorded rows' (ok (run_state d k H)) ≡ written rows a T → Ended k M.duration W H.state H.progress es fs r es' fs'
      → observed (Ok r) rows' es' fs' ≡ outputs_from a W rows es fs (answer M W k T.rows T.end)
  ended_is d H es' fs' r e E =
      let x : rows' ≡ sets rows a (flat_rows T.rows) = ap (λ (y : Recorded). y.rows) e in
      rw (x, ← ap (λ (y : Recorded). y.end) e) (E M d H.tangents H.norms rows a T.rows refl)

-- measured windows and the end complete a run under way
module _ {S : System} {m : List Float} {c : BenettinConfig} {H : Held} {rows x t ns rows' : List Float} (total : ℕ) (es fs : List Float) where
  pub completed_refused : {r : RefusedRun} → MeasuredWindows S m c H rows x t ns rows' (Err r) → Completed S m c total H rows es fs x t ns rows' es fs (Err r)
  completed_refused {r} X = record { course = X.rows_left; answered = refused_is (dynamics S m c.step_size c.steps_per_window) c.top_k total 0 rows (windows_from S m c H) es fs r X.rows_left; bounded = X.bounded }

  pub completed_is : {p : Progress} (es' fs' : List Float) (r : SpectrumEstimate) → MeasuredWindows S m c H rows x t ns rows' (Ok p) → Ended c.top_k (c.step_size ⊗ as_float c.steps_per_window) total x p es fs r es' fs'
      → Completed S m c total H rows es fs x t ns rows' es' fs' (Ok (record { estimate = r; progress = p }))
  unfolding dynamics
  completed_is {p} es' fs' r X E =
      record { course = X.rows_left; answered = ended_is (dynamics S m c.step_size c.steps_per_window) c.top_k total 0 rows (windows_from S m c H) es fs (dim S) (held x t ns p) es' fs' r X.rows_left E; bounded = X.bounded }

-- the run of a system from the state x
module _ (S : System) (m : List Float) (time : Float) (x : List Float) (c : BenettinConfig) (d : length x ≡ dim S) where
  abbrev i : Input
  i = input S m time x c

  -- the course of a run that is refused before its first measured window
  abbrev Unmeasured : RefusedRun → Type 0
  Unmeasured r = course_of (problem i) c.top_k ≡ record { rows = []; end = refused_as r }

  pub begin_refused : {t ns : List Float} {r : RefusedRun} → Begun c time x t ns (Err r) → Unmeasured r
  unfolding problem dynamics course warmed_up measured_from ◌then◌
  begin_refused B = rw (← B.status S m d)

  module _ {t ns : List Float} {p : Progress} (B : Begun c time x t ns (Ok p)) {x' t' ns' : List Float} where
    pub warm_up_refused : {r : RefusedRun} → WarmedUp S m c (held x t ns p) x' t' ns' (Err r) → Unmeasured r
    unfolding problem dynamics course warmed_up measured_from ◌then◌
    warm_up_refused U = rw (← B.status S m d, ← U.status c.steps_per_window)

    -- the windows behind the warm-up are those of the run
    pub course_is : {q : Progress} → WarmedUp S m c (held x t ns p) x' t' ns' (Ok q) → windows_from S m c (held x' t' ns' q) ≡ course_of (problem i) c.top_k
    unfolding problem dynamics course warmed_up ◌then◌
    course_is U = rw (← B.status S m d, ← U.status c.steps_per_window)

  bounded_end : (r : Result RunEnd RefusedRun) → c.windows ≤ limit → IfOk (progress_of r) (λ p. Bounded c.top_k (limit + c.windows) (0 + c.windows) p) → IfOk r (λ e. Bounded c.top_k (limit + limit) limit e.progress)
  bounded_end (Ok e) l b = bounded_up (omega arith) (omega arith) b
  bounded_end (Err r) l b = tt

  module _ (rows es fs : List Float) {x' t' ns' : List Float} where
    pub run_refused : {r : RefusedRun} → Unmeasured r → RunDone i c.top_k rows es fs x' t' ns' rows es fs (Err r)
    unfolding run_past problem flat_rows
    run_refused {r} e =
        let T = course_of (problem i) c.top_k in
        let w : recorded rows (refused_as r) ≡ written rows 0 T = rw e in
        record { course = w; answered = refused_is (problem i).dynamics c.top_k c.windows 0 rows T es fs r w; bounded = tt }

    -- what completes such a course is the run
    pub run_done : {H : Held} {rows' es' fs' : List Float} {r : Result RunEnd RefusedRun} → windows_from S m c H ≡ course_of (problem i) c.top_k → Completed S m c c.windows H rows es fs x' t' ns' rows' es' fs' r
        → Bounded c.top_k limit 0 H.progress → c.windows ≤ limit → RunDone i c.top_k rows es fs x' t' ns' rows' es' fs' r
    unfolding run_past problem dynamics
    run_done {r = r} e X b l =
        record {
          course = X.course ∙ ap (written rows 0) e;
          answered = X.answered ∙ ap (λ (T : Course). outputs c.windows rows es fs (answer (dynamics S m c.step_size c.steps_per_window) c.windows c.top_k T.rows T.end)) e;
          bounded = bounded_end r l (X.bounded limit 0 b);
        }

-- ---- what the tests decide

-- where a run that is not refused stands
stands : (i : Input) (K : ℕ) {rows es fs x t ns rows' es' fs' : List Float} (r : Result RunEnd RefusedRun) → RunDone i K rows es fs x t ns rows' es' fs' r → Passed i.system i.matrix i.state K i.step_size
    → IfOk r (λ e. StandsAt i K (held x t ns e.progress))
stands i K (Ok e) X p = record { passed = p; end = sym (ap (λ (y : Recorded). y.end) X.course); bounded = X.bounded }
stands i K (Err r) X p = tt

module _ (i : Input) (K : ℕ) (rows es fs : List Float) where
  abbrev tests_of : Option Refusal
  tests_of = first_failing (run_tests (problem i) K (lengths_of rows es fs))

  refused_past : (o : Option Refusal) (ε : LyapunovError) → some (refusal ε) ≡ o → observed (Err (unstarted ε)) rows es fs ≡ outputs i.windows rows es fs (run_past o (problem i) K)
  unfolding outputs_from run_past flat_rows
  refused_past o ε e = rw (← e, none_faint K)

  pub ran_refused : (ε : LyapunovError) {moving tangents norms : List Float} → some (refusal ε) ≡ tests_of → Ran i K rows es fs moving tangents norms rows es fs (Err (unstarted ε))
  unfolding estimated estimate run
  ran_refused ε h = record { meets = refused_past tests_of ε h; stands = tt }

  same_tests : tests_of ≡ first_failing (run_tests (problem_within i.windows i) K (lengths_of rows es fs))
  unfolding problem
  same_tests = refl

  pub ran_done : {x t ns rows' es' fs' : List Float} {r : Result RunEnd RefusedRun} (moving tangents : List Float) → none ≡ tests_of → RunDone i K rows es fs x t ns rows' es' fs' r
      → take (length i.state) moving ≡ x → take (K * length i.state) tangents ≡ t → Ran i K rows es fs moving tangents ns rows' es' fs' r
  unfolding estimated estimate run
  ran_done {r = r} moving tangents h X a b =
      record { meets = X.answered ∙ rw (← h); stands = rw (a, b) (stands i K r X (ready i.windows i K (lengths_of rows es fs) (h ∙ same_tests)).step) }

-- ---- the state and the directions, at the front of their arrays

pub front : (x y z : List Float) → y ≡ x → take (length x) (y ++ z) ≡ x
front x y z e = rw e (take-append_seam x z)

few_entries : (k d : ℕ) → k ≤ d → d ≤ 16 → k * d ≤ 256
few_entries k d h g = let f : k ≤ 16 = omega arith in le_trans (mul-le-mul_right d f) (mul-le-mul_left 16 g)

pub sizes : {i : Input} {K : ℕ} {o : OutputLengths} → Ready i.windows i K o → (length i.state ≤ 16) × (K * length i.state ≤ 256)
sizes {i} {K} R =
    let s : length i.state ≤ 16 = omega (arith, R.step.state, R.step.dimension_within) in
    (s, few_entries K (length i.state) (omega (arith, R.directions, R.step.state)) s)
