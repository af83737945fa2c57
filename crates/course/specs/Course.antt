-- What the contracts of the loops over windows say, by name. A reader may skip it. Definitions only.
use Rattle.std.specs.Prelude.{ℕ, ◌≡◌, List, Float, Result}
use Rattle.std.proofs.lemmas.List.Edits.{sets}
use Rattle.system.specs.System.{dim}
use Rattle.system.specs.declared.System.{System}
use Rattle.benettin.specs.Run.{Course, ok, warm_up, measured_from}
use Rattle.benettin.specs.Estimate.{dynamics}
use Rattle.benettin.specs.Outputs.{flat_rows}
use Rattle.benettin.specs.declared.BenettinConfig.{BenettinConfig}
use Rattle.benettin.specs.declared.RefusedRun.{RefusedRun}
use Rattle.totals.specs.Progress.{Held, run_state, status}
use Rattle.totals.specs.declared.Progress.{Progress}
use Rattle.progress.specs.UnderWay.{Unmeasured, AllMeasured, Recorded, recorded}

-- the warm-up windows
pub record WarmedUp (S : System) (m : List Float) (c : BenettinConfig) (H : Held) (x t ns : List Float) (r : Result Progress RefusedRun) : Type 0 where
  pub status : (D : ℕ) → status (dim S) c.top_k x t ns r ≡ warm_up (dynamics S m c.step_size D) c.steps_per_transient_window c.transient_windows (run_state (dim S) c.top_k H)
  pub bounded : Unmeasured c.top_k c.transient_windows H.progress r

-- rows written from place a of the slice on
abbrev pub written : List Float → ℕ → Course → Recorded
written rows a t = recorded (sets rows a (flat_rows t.rows)) t.end

-- the measured windows, from where a run stands
abbrev pub windows_from : System → List Float → BenettinConfig → Held → Course
windows_from S m c H = measured_from (dynamics S m c.step_size c.steps_per_window) c.steps_per_window c.windows (ok (run_state (dim S) c.top_k H))

-- the measured windows, with their rows from place 0 on
pub record MeasuredWindows (S : System) (m : List Float) (c : BenettinConfig) (H : Held) (rows x t ns rows' : List Float) (r : Result Progress RefusedRun) : Type 0 where
  pub rows_left : recorded rows' (status (dim S) c.top_k x t ns r) ≡ written rows 0 (windows_from S m c H)
  pub bounded : AllMeasured c.top_k c.windows H.progress r
