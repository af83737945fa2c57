-- What the function below a going on asks and leaves, by name. A reader may skip it. Definitions only.
use Rattle.std.specs.Prelude.{ℕ, ◌+◌, ◌*◌, ◌≤◌, ◌<◌, ◌≡◌, ◌≢◌, List, length, Float}
use Rattle.system.specs.System.{dim}
use Rattle.rk4.specs.Tests.{Passed}
use Rattle.benettin.specs.Run.{measured, answer}
use Rattle.benettin.specs.Estimate.{limit, dynamics}
use Rattle.benettin.specs.Outputs.{Estimated, outputs}
use Rattle.benettin.specs.declared.BenettinConfig.{BenettinConfig}
use Rattle.system.specs.declared.System.{System}
use Rattle.store.specs.Slots.{Memory, tag_at, windows_at, stood_at}

-- a run in slot j, which is in use, goes on once its tests are passed, with these slices
pub record Resumes (S : System) (m x t rows es fs : List Float) (c : BenettinConfig) (j : ℕ) (M : Memory) : Type 0 where
  pub slot : j < 8
  pub used : tag_at j M ≢ 0
  pub passed : Passed S m x c.top_k c.step_size
  pub steps : c.steps_per_window ≤ limit
  pub windows : windows_at j M + c.windows ≤ limit
  pub tangents : length t ≡ c.top_k * length x
  pub rows_room : c.windows * (1 + 2 * c.top_k) ≤ length rows
  pub exponents : c.top_k ≤ length es
  pub state : dim S ≤ length fs

-- what it answers and leaves
abbrev pub resumed_outputs : System → List Float → List Float → List Float → List Float → BenettinConfig → ℕ → Memory → Estimated
resumed_outputs S m rows es fs c j M =
    let D = dynamics S m c.step_size c.steps_per_window in
    let n = windows_at j M + c.windows in
    let T = measured D c.steps_per_window c.windows (stood_at j (dim S) c.top_k M) in
    outputs n rows es fs (answer D n c.top_k T.rows T.end)
