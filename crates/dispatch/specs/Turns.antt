-- What the contracts of the parts of a turn say, by name. A reader may skip it. Definitions only.
use Rattle.std.specs.Prelude.{ℕ, ◌+◌, ◌*◌, ◌≤◌, ◌<◌, ◌≡◌, Bool, true, false, ◌≢◌, List, ltb, length, replicate, set, Float, Result, IfOk}
use Rattle.std.proofs.lemmas.List.Edits.{sets}
use Rattle.floats.specs.Arithmetic.{zero⁺}
use Rattle.floats.specs.Vector.{part}
use Rattle.system.specs.System.{dim}
use Rattle.rk4.specs.Tests.{Passed}
use Rattle.benettin.specs.Run.{RunState}
use Rattle.benettin.specs.Estimate.{limit}
use Rattle.benettin.specs.declared.BenettinConfig.{BenettinConfig}
use Rattle.benettin.specs.declared.RefusedRun.{RefusedRun}
use Rattle.totals.specs.Progress.{Held, held, run_state, status}
use Rattle.totals.specs.Ending.{Bounded}
use Rattle.totals.specs.declared.Progress.{Progress}
use Rattle.progress.specs.UnderWay.{recorded}
use Rattle.course.specs.Course.{written}
use Rattle.store.specs.Slots as Slots
use Rattle.store.specs.Slots.{tag_at}
use Rattle.store.specs.Beside.{saved_beside, progress_in, LoadedBeside}
use Rattle.turns.specs.Turn.{Job, warming, window_by, warmed_by, place}
use Rattle.schedule.specs.Schedule.{Memory, names_in, rotated, shortened, sound_at}
use Rattle.schedule.specs.Promises.{settings_at}
use Rattle.schedule.specs.declared.Settings.{Settings}

-- the run that is set so and stands at c
abbrev pub job_of : Settings → RunState → Job
job_of s c =
    record {
      system = s.system;
      rates = s.config.top_k;
      step_size = s.config.step_size;
      steps = s.config.steps_per_window;
      windows = s.config.windows;
      warm_up = s.config.transient_windows;
      warm_up_steps = s.config.steps_per_transient_window;
      warmed = s.warmed;
      now = c;
    }

-- its directions stand in slot j
abbrev pub in_slot : ℕ → Settings → List Float → List Float → List Float → Progress → Held
in_slot j s F x ns p = held x (part (321 * j + 16) (s.config.top_k * dim s.system) F) ns p

abbrev pub job_in : ℕ → Settings → List Float → List Float → List Float → Progress → Job
job_in j s F x ns p = job_of s (run_state (dim s.system) s.config.top_k (in_slot j s F x ns p))

-- ---- one window

-- how many steps it has, by whether it is one of the warm-up
abbrev pub steps_by : Bool → BenettinConfig → ℕ
steps_by true c = c.steps_per_transient_window
steps_by false c = c.steps_per_window

abbrev pub next_steps : Settings → ℕ
next_steps s = steps_by (ltb s.warmed s.config.transient_windows) s.config

pub record MakesWindow (j : ℕ) (s : Settings) (m x rows : List Float) (p : Progress) : Type 0 where
  pub slot : j < 8
  pub passed : Passed s.system m x s.config.top_k s.config.step_size
  pub steps : s.config.steps_per_window ≤ limit
  pub warm_up_steps : s.config.steps_per_transient_window ≤ limit
  pub bounded : Bounded s.config.top_k (limit + limit) limit p
  pub left : p.windows < s.config.windows
  pub windows : s.config.windows ≤ limit
  pub rows_room : s.config.windows * (1 + 2 * s.config.top_k) ≤ length rows

pub record WindowMade (j : ℕ) (s : Settings) (m F x ns rows : List Float) (p : Progress) (F' x' ns' rows' : List Float) (r : Result Progress RefusedRun) : Type 0 where
  -- nothing but the directions moved in the slots
  pub floats : F' ≡ sets F (321 * j + 16) (part (321 * j + 16) (s.config.top_k * dim s.system) F')
  pub made : (let J = job_in j s F x ns p in recorded rows' (status (dim s.system) s.config.top_k x' (part (321 * j + 16) (s.config.top_k * dim s.system) F') ns' r) ≡ written rows (place J) (window_by (warming J) J m))
  pub bounded : IfOk r (λ p'. Bounded s.config.top_k (limit + limit + 1) (limit + 1) p')

-- ---- the run goes on

pub record PutsBack (j : ℕ) (s : Settings) (q : List ℕ) (x : List Float) (p : Progress) : Type 0 where
  pub names : 0 < length (names_in q)
  pub slot : j < 8
  pub entries : dim s.system ≤ 16
  pub few : s.config.top_k ≤ 16
  pub state : length x ≡ dim s.system
  pub bounded : Bounded s.config.top_k (limit + limit + 1) (limit + 1) p
  pub warmed : s.warmed ≤ s.config.transient_windows
  pub warm_up : s.config.transient_windows ≤ limit

-- it is laid down in its slot beside its directions, and its name is the last of the queue
pub record PutBack (j : ℕ) (s : Settings) (F : List Float) (C q : List ℕ) (x ns : List Float) (p : Progress) (F' : List Float) (C' q' : List ℕ) : Type 0 where
  pub runs : Slots.memory F' C' ≡ saved_beside j j x s.config.top_k ns p (Slots.memory F C)
  pub queue_is : q' ≡ set (rotated q) (8 * j + 7) (warmed_by (ltb s.warmed s.config.transient_windows) s.warmed)

-- ---- the run is over

-- the name in front leaves, and n floats of the directions in slot j are cleared
pub record Leaves (j n : ℕ) (q : List ℕ) : Type 0 where
  pub names : 0 < length (names_in q)
  pub slot : j < 8
  pub few : n ≤ 256

pub record Left (j n : ℕ) (F : List Float) (q : List ℕ) (F' : List Float) (q' : List ℕ) : Type 0 where
  pub floats : F' ≡ sets F (321 * j + 16) (replicate n zero⁺)
  pub queue_is : q' ≡ shortened q

-- ---- a turn of the run in slot j, which is in front, once its tests are passed

pub record TurnsIn (j : ℕ) (s : Settings) (m x ns : List Float) (g : List ℕ) (rows es fs : List Float) (M : Memory) : Type 0 where
  -- its state, its norms and its faint counts are taken up, and what it has come to is not yet
  pub taken_up : (p : Progress) → p ≡ progress_in j g M.runs → LoadedBeside j (length x) s.config.top_k M.runs x ns p
  pub slot : j < 8
  pub names : 0 < length (names_in M.queue)
  pub used : tag_at j M.runs ≢ 0
  pub settings_are : s ≡ settings_at j M.settings M.queue
  pub passed : Passed s.system m x s.config.top_k s.config.step_size
  pub steps : s.config.steps_per_window ≤ limit
  pub warm_up_steps : s.config.steps_per_transient_window ≤ limit
  pub left : Slots.windows_at j M.runs < s.config.windows
  pub windows : s.config.windows ≤ limit
  pub warmed : s.warmed ≤ s.config.transient_windows
  pub warm_up : s.config.transient_windows ≤ limit
  pub rows_room : s.config.windows * (1 + 2 * s.config.top_k) ≤ length rows
  pub exponents : s.config.top_k ≤ length es
  pub state : dim s.system ≤ length fs

-- ---- a turn of the run in slot j, which is in front

pub record InFront (j : ℕ) (M : Memory) : Type 0 where
  pub slot : j < 8
  pub names : 0 < length (names_in M.queue)
  pub sound : sound_at j M ≡ true
