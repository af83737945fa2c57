-- A run that is taken up and completed, and what its tests decide.
use Prim.Native.Nat.{ℕ, ◌+◌, ◌*◌, ◌≤◌}
use native.Mathlib.Omega.{arith}
use mathlib.Core.Path.{◌≡◌, ap}
use mathlib.Core.List.{List}
use mathlib.Core.Option.{Option, none, some}
use lib.ListN.{length}
use lib.Ieee.{Float}
use Rattle.std.specs.Prelude.{Err}
use Rattle.error.specs.Refusal.{refusal}
use Rattle.error.specs.Tests.{first_failing}
use Rattle.error.specs.declared.LyapunovError.{LyapunovError}
use Rattle.error.specs.declared.Refusal.{Refusal}
use Rattle.system.specs.System.{dim}
use Rattle.system.specs.declared.System.{System}
use Rattle.benettin.specs.Run.{RunState, ok, measured_from, answer, run_past}
use Rattle.benettin.specs.declared.OutputLengths.{OutputLengths}
use Rattle.benettin.specs.Estimate.{Input, dynamics, problem, input}
use Rattle.benettin.specs.Outputs.{Estimated, outputs, outputs_from, observed, unstarted, lengths_of, flat_rows}
use Rattle.benettin.specs.declared.BenettinConfig.{BenettinConfig}
use Rattle.benettin.specs.Validation.{Ready}
use Rattle.benettin.proofs.Reading.{none_faint}
use Rattle.totals.specs.Progress.{Held, run_state}
use Rattle.continuation.specs.Continuation.{later_tests, resumed, resumed_past}
use Rattle.store.specs.Slots.{Memory, windows_at}
use Rattle.store.specs.Promises.{Loaded}
use Rattle.store.proofs.Laid.{few_entries}
use Rattle.calls.specs.Calls.{Brought, brought}
use Rattle.calls.specs.Served.{go_on_from}
use Rattle.resume.specs.Resume.{resumed_outputs}

module _ (S : System) (m : List Float) (c : BenettinConfig) (j : ℕ) (M : Memory) (rows es fs : List Float) where
  abbrev completed : RunState → Estimated
  completed s =
      let D = dynamics S m c.step_size c.steps_per_window in
      let T = measured_from D c.steps_per_window c.windows (ok s) in
      let n = s.totals.finished + c.windows in
      outputs n rows es fs (answer D n c.top_k T.rows T.end)

  -- a run that is taken up and completed
  pub resumed_is : {H : Held} → Loaded j (dim S) c.top_k M H → completed (run_state (dim S) c.top_k H) ≡ resumed_outputs S m rows es fs c j M
  unfolding measured_from
  resumed_is L = ap completed L.run

-- the state and the directions of a run that passed its tests
pub sizes : {n K : ℕ} {i : Input} {o : OutputLengths} → Ready n i K o → (length i.state ≤ 16) × (K * length i.state ≤ 256)
sizes {K = K} {i = i} R =
    let s : length i.state ≤ 16 = omega (arith, R.step.state, R.step.dimension_within) in
    (s, few_entries K (length i.state) R.step.count s)

-- the tests decide
module _ (S : System) (m : List Float) (time : Float) (x : List Float) (c : BenettinConfig) (j : ℕ) (M : Memory) (rows es fs : List Float) where
  abbrev pub tests_of : Option Refusal
  tests_of = first_failing (later_tests (windows_at j M) (input S m time x c) c.top_k (lengths_of rows es fs))

  abbrev pub call : Brought
  call = brought (input S m time x c) c.top_k rows es fs

  pub refused_by_tests : (ε : LyapunovError) → some (refusal ε) ≡ tests_of → observed (Err (unstarted ε)) rows es fs ≡ go_on_from (some j) call M
  unfolding resumed resumed_past run_past outputs_from flat_rows
  refused_by_tests ε h = rw (← h, none_faint c.top_k)

  pub resumed_by_tests : none ≡ tests_of → resumed_outputs S m rows es fs c j M ≡ go_on_from (some j) call M
  unfolding resumed resumed_past problem
  resumed_by_tests h = rw (← h)
