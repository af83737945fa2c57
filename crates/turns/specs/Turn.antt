-- Document 02, f): a run that is handed in, and one turn of it, which is one window. Definitions only.
use Rattle.std.specs.Prelude.{ℕ, suc, ◌+◌, ◌*◌, Bool, true, false, List, [], ◌++◌, ltb, Float}
use Rattle.std.proofs.Math.Option.{Option, none, some}
use Rattle.std.proofs.lemmas.List.Edits.{sets}
use Rattle.error.specs.Refusal.{refuse}
use Rattle.error.specs.Tests.{Test, first_failing}
use Rattle.error.specs.declared.Refusal.{Refusal}
use Rattle.system.specs.System.{dim}
use Rattle.system.specs.declared.System.{System}
use Rattle.system_validation.specs.Tests.{matrix_tests}
use Rattle.benettin.specs.Run.{Dynamics, RunState, Status, ok, refused, Course, window, measured, begin, initial, answer, output_tests}
use Rattle.benettin.specs.Estimate.{Input, set_up_tests, start_tests, dynamics, splitmix64}
use Rattle.benettin.specs.Outputs.{Estimated, outputs_from, flat_rows, lengths_of}

-- ---- handing in

-- a run's tests up to 12, except 9
abbrev pub hand_in_tests : Input → ℕ → List Test
hand_in_tests i K = set_up_tests i.windows i K ++ start_tests i.system i.state K

-- An unfinished run for so many rates: what was set, how many warm-up windows are made, and where it stands. Its matrix and outputs come with each turn.
pub record Job : Type 0 where
  pub system : System
  pub rates : ℕ
  pub step_size : Float
  pub steps : ℕ
  pub windows : ℕ
  pub warm_up : ℕ
  pub warm_up_steps : ℕ
  pub warmed : ℕ
  pub now : RunState

-- the windows that were begun, of both sorts
abbrev pub begun : Job → ℕ
begun j = j.warmed + j.now.totals.finished

abbrev pub job : Input → ℕ → RunState → Job
job i K c =
    record {
      system = i.system;
      rates = K;
      step_size = i.step_size;
      steps = i.steps;
      windows = i.windows;
      warm_up = i.warm_up;
      warm_up_steps = i.warm_up_steps;
      warmed = 0;
      now = c;
    }

pub data HandedIn : Type 0 where
  taken : Job → HandedIn
  turned_down : Refusal → HandedIn

abbrev pub taken_at : Input → ℕ → Status → HandedIn
taken_at i K (ok c) = taken (job i K c)
taken_at i K (refused r) = turned_down (refuse r.number r.place)

-- past its tests, a run draws (14) and tests 15; no matrix is read
abbrev pub drawn : Input → ℕ → Status
drawn i K = begin (dynamics i.system [] i.step_size i.steps) (initial splitmix64 (dim i.system) i.state i.time i.seed K)

abbrev pub handed_in_past : Option Refusal → Input → ℕ → HandedIn
handed_in_past (some r) i K = turned_down r
handed_in_past none i K = taken_at i K (drawn i K)

unfoldable pub handed_in : Input → ℕ → HandedIn
unfolding first_failing begin initial dynamics
handed_in i K = handed_in_past (first_failing (hand_in_tests i K)) i K

-- ---- a turn

-- the outputs that are lent with it
pub record Slices : Type 0 where
  pub rows : List Float
  pub exponents : List Float
  pub final_state : List Float

abbrev pub slices : List Float → List Float → List Float → Slices
slices rows exponents final = record { rows = rows; exponents = exponents; final_state = final }

-- 9, and 13 on the full lengths
abbrev pub turn_tests : Job → List Float → Slices → List Test
turn_tests j m z = matrix_tests j.system m ++ output_tests j.rates (dim j.system) j.windows (lengths_of z.rows z.exponents z.final_state)

abbrev pub motion : Job → List Float → Dynamics
motion j m = dynamics j.system m j.step_size j.steps

-- whether the next window is one of the warm-up
abbrev pub warming : Job → Bool
warming j = ltb j.warmed j.warm_up

-- one window: a warm-up window has its own steps, and no row
abbrev pub window_by : Bool → Job → List Float → Course
window_by true j m = record { rows = []; end = window (motion j m) j.warm_up_steps j.now }
window_by false j m = measured (motion j m) j.steps 1 j.now

-- after a window, where the run stands at c
abbrev pub warmed_by : Bool → ℕ → ℕ
warmed_by true n = suc n
warmed_by false n = n

abbrev pub onward : Job → RunState → Job
onward j c = record j { warmed = warmed_by (warming j) j.warmed; now = c }

-- the place of the next row
abbrev pub place : Job → ℕ
place j = j.now.totals.finished * (1 + 2 * j.rates)

-- what it answers and leaves after a course that ends it
abbrev pub ended_by : Job → List Float → Slices → Course → Estimated
ended_by j m z t =
    outputs_from (place j) j.windows z.rows z.exponents z.final_state (answer (motion j m) j.windows j.rates t.rows t.end)

-- the run is under way still, with what the slices hold, or it is over
pub data Turned : Type 0 where
  under_way : Job → Slices → Turned
  over : Estimated → Turned

abbrev pub left_by : Bool → Job → List Float → Slices → Course → RunState → Turned
left_by true j m z t c = under_way (onward j c) (slices (sets z.rows (place j) (flat_rows t.rows)) z.exponents z.final_state)
left_by false j m z t c = over (ended_by j m z t)

-- it is over where it is refused, or where no measured window is left
abbrev pub turned_by : Status → Job → List Float → Slices → Course → Turned
turned_by (ok c) j m z t = left_by (ltb c.totals.finished j.windows) j m z t c
turned_by (refused r) j m z t = over (ended_by j m z t)

unfoldable pub turn : Job → List Float → Slices → Turned
unfolding window measured answer outputs_from flat_rows dynamics
turn j m z = let t = window_by (warming j) j m in turned_by t.end j m z t
