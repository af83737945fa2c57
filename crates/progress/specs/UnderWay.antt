-- What the contracts of a run under way say, by name. A reader may skip it. Definitions only.
use Rattle.std.specs.Prelude.{ℕ, ◌+◌, ◌*◌, ◌≤◌, ◌<◌, ◌≡◌, true, List, length, Float, Result, Ok, Err, IfOk, IfErr}
use Rattle.std.specs.Float.Ieee.Scale.{finite}
use Rattle.error.specs.Refusal.{refusal}
use Rattle.floats.specs.Arithmetic.{◌⊗◌}
use Rattle.system.specs.System.{dim}
use Rattle.system.specs.declared.System.{System}
use Rattle.rk4.specs.Tests.{Passed}
use Rattle.benettin.specs.Run.{Dynamics, Norms, Totals, Status, ok, refused, row, accumulate, as_float, steps, window, begin, initial}
use Rattle.benettin.specs.Estimate.{dynamics, splitmix64, limit}
use Rattle.benettin.specs.Outputs.{flat_row}
use Rattle.benettin.specs.declared.BenettinConfig.{BenettinConfig}
use Rattle.benettin.specs.declared.RefusedRun.{RefusedRun}
use Rattle.totals.specs.Progress.{Held, held, motion, joined, run_state, status}
use Rattle.totals.specs.Ending.{Bounded, most}
use Rattle.totals.specs.declared.Progress.{Progress}
use Rattle.progress.specs.declared.advance.RefusedStep.{RefusedStep}

-- ---- what is asked

-- what fits together: what passed the tests, the slices' lengths, and what bounds the progress
pub record Fits (S : System) (m : List Float) (c : BenettinConfig) (made measured : ℕ) (H : Held) : Type 0 where
  pub passed : Passed S m H.state c.top_k c.step_size
  pub steps : c.steps_per_window ≤ limit
  pub tangents : length H.tangents ≡ c.top_k * dim S
  pub bounded : Bounded c.top_k made measured H.progress

-- what a run begins with: a state, and room for directions of as many entries
pub record Begins (c : BenettinConfig) (time : Float) (x t : List Float) : Type 0 where
  pub above : 0 < length x
  pub few : c.top_k ≤ 16
  pub steps : c.steps_per_window ≤ limit
  pub tangents : length t ≡ c.top_k * length x
  pub clock : finite time ≡ true

-- ---- what is told

-- how a run goes on after n steps: the state x and the directions t of the system S, whatever a run holds beside them, and however many steps s it has made before
abbrev pub status_after : System → BenettinConfig → ℕ → List Float → List Float → ℕ → Norms → Totals → Result Float RefusedStep → Status
status_after S c n x t s N T (Ok time) = ok (joined (motion (dim S) c.top_k x t time (s + n)) N T)
status_after S c n x t s N T (Err r) = let e = refusal r.error in refused (record { number = e.number; place = e.place; finished = T.finished; steps = s + r.made })

-- the n steps of a window from the state x, the directions t and the time: whatever a run holds beside them, and whatever the steps D of a measured window are
pub record Advanced (S : System) (m : List Float) (c : BenettinConfig) (n : ℕ) (time : Float) (x t x' t' : List Float) (r : Result Float RefusedStep) : Type 0 where
  pub status : (D s : ℕ) (N : Norms) (T : Totals)
      → status_after S c n x' t' s N T r ≡ steps (dynamics S m c.step_size D) n (joined (motion (dim S) c.top_k x t time s) N T)
  pub clock : IfOk r (λ time'. finite time' ≡ true)
  pub few : IfErr r (λ e. e.made ≤ n)

-- so many windows more at most, and so many measured ones of them
abbrev pub Unmeasured : ℕ → ℕ → Progress → Result Progress RefusedRun → Type 0
Unmeasured k w p r = (made measured : ℕ) → Bounded k made measured p → IfOk r (λ p'. Bounded k (made + w) measured p')

abbrev pub AllMeasured : ℕ → ℕ → Progress → Result Progress RefusedRun → Type 0
AllMeasured k w p r = (made measured : ℕ) → Bounded k made measured p → IfOk r (λ p'. Bounded k (made + w) (measured + w) p')

-- one window of n steps, whatever the steps D of a measured one are
pub record Windowed (S : System) (m : List Float) (c : BenettinConfig) (n : ℕ) (H : Held) (x t ns : List Float) (r : Result Progress RefusedRun) : Type 0 where
  pub status : (D : ℕ) → status (dim S) c.top_k x t ns r ≡ window (dynamics S m c.step_size D) n (run_state (dim S) c.top_k H)
  pub bounded : Unmeasured c.top_k 1 H.progress r

-- the drawn basis orthonormalised and the duration tested, for every system of as many entries
pub record Begun (c : BenettinConfig) (time : Float) (x t ns : List Float) (r : Result Progress RefusedRun) : Type 0 where
  pub status : (S : System) (m : List Float) → length x ≡ dim S
      → status (dim S) c.top_k x t ns r ≡ begin (dynamics S m c.step_size c.steps_per_window) (initial splitmix64 (dim S) x time c.seed c.top_k)
  pub bounded : IfOk r (λ p. Bounded c.top_k 0 0 p)

-- ---- measured windows

-- what a window is recorded with: room for its row
pub record Records (c : BenettinConfig) (r : List Float) (p : Progress) : Type 0 where
  pub few : c.top_k ≤ 16
  pub steps : c.steps_per_window ≤ limit
  pub row : length r ≡ 1 + 2 * c.top_k
  pub bounded : Bounded c.top_k (most + 1) most p

-- the rows slice, and how the run went on
pub record Recorded : Type 0 where
  pub rows : List Float
  pub end : Status

abbrev pub recorded : List Float → Status → Recorded
recorded rows end = record { rows = rows; end = end }

-- a measured window: its row, and what is carried on; a refused one leaves the row as it was
abbrev pub with_row_of : Dynamics → List Float → Status → Recorded
with_row_of M old (ok c) = recorded (flat_row (row M (accumulate c))) (ok (accumulate c))
with_row_of M old (refused r) = recorded old (refused r)

-- a window that was made is recorded: its row, and p with one measured window more, whatever the system, the state and the directions are
pub record WindowRecorded (c : BenettinConfig) (norms : List Float) (p p' : Progress) (row' : List Float) : Type 0 where
  pub row_left : (M : Dynamics) (d : ℕ) (x t old : List Float) → M.duration ≡ c.step_size ⊗ as_float c.steps_per_window
      → recorded row' (ok (run_state d c.top_k (held x t norms p'))) ≡ with_row_of M old (ok (run_state d c.top_k (held x t norms p)))
  pub bounded : (made measured : ℕ) → Bounded c.top_k made measured p → Bounded c.top_k made (measured + 1) p'

pub record MeasuredWindow (S : System) (m : List Float) (c : BenettinConfig) (H : Held) (row x t ns row' : List Float) (r : Result Progress RefusedRun) : Type 0 where
  pub row_left : (let D = dynamics S m c.step_size c.steps_per_window in recorded row' (status (dim S) c.top_k x t ns r) ≡ with_row_of D row (window D c.steps_per_window (run_state (dim S) c.top_k H)))
  pub bounded : AllMeasured c.top_k 1 H.progress r
