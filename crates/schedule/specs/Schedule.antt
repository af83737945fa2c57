-- A dispatcher in memory that a caller lends: the slots of its runs, their settings, and the queue of names, for any content of the memory. Definitions only.
use Rattle.std.specs.Prelude.{ℕ, ◌+◌, ◌-◌, ◌*◌, Bool, true, false, cond, ◌&&◌, not, List, [], ◌∷◌, ◌++◌, leb, ltb, eqb, length, take, drop, get_or, set, replicate, Float}
use Rattle.std.proofs.Math.Option.{Option, none, some}
use Rattle.std.proofs.lemmas.List.Edits.{sets}
use Rattle.std.specs.Float.{nan}
use Rattle.error.specs.Tests.{Test, first_failing}
use Rattle.error.specs.declared.Refusal.{Refusal}
use Rattle.floats.specs.Arithmetic.{zero⁺}
use Rattle.floats.specs.Vector.{part}
use Rattle.system.specs.System.{dim}
use Rattle.system.specs.declared.System.{System}
use Rattle.system_validation.specs.Tests.{dimension_tests}
use Rattle.system_numbers.specs.Numbers.{system, numbers}
use Rattle.benettin.specs.Run.{count_tests}
use Rattle.benettin.specs.Estimate.{setting_tests}
use Rattle.store.specs.Slots as Slots
use Rattle.store.specs.Slots.{tag_at, stood_at, saved}
use Rattle.turns.specs.Turn.{Job}

-- `runs` are the eight slots of a store, and the run named j stands in slot j. Of it there are 4 floats in `settings` from 4 * j on: the step size and the three parameters; and 8 counts in `queue` from 8 * j on: the kind, the dimension, the rates, the steps, the windows, the warm-up windows, the steps of one of these and how many of them are made. In `queue` the length of the queue stands at 64, and its names, from the front on, from 65 on.
pub record Memory : Type 0 where
  pub runs : Slots.Memory
  pub settings : List Float
  pub queue : List ℕ

abbrev pub memory : Slots.Memory → List Float → List ℕ → Memory
memory runs settings queue = record { runs = runs; settings = settings; queue = queue }

-- ---- the queue

-- the names from the front on, at most eight
abbrev pub names_in : List ℕ → List ℕ
names_in q = take (get_or q 64 0) (part 65 8 q)

-- the first of them, if it is a name
abbrev pub first_name : List ℕ → Option ℕ
first_name [] = none
first_name (n ∷ ns) = cond (ltb n 8) (some n) none

-- whose turn is next
abbrev pub next_in : List ℕ → Option ℕ
next_in q = first_name (names_in q)

-- the one in front goes to the back
abbrev pub rotated : List ℕ → List ℕ
rotated q = let ns = names_in q in sets q 65 (drop 1 ns ++ take 1 ns)

-- the one in front is gone
abbrev pub shortened : List ℕ → List ℕ
shortened q = set (rotated q) 64 (length (names_in q) - 1)

-- one more at the back
abbrev pub lengthened : ℕ → List ℕ → List ℕ
lengthened n q = let k = length (names_in q) in set (set q (65 + k) n) 64 (k + 1)

-- ---- what is set of a run

abbrev pub system_at : ℕ → Memory → System
system_at j m =
    system (get_or m.queue (8 * j) 0) (get_or m.settings (4 * j + 1) nan) (get_or m.settings (4 * j + 2) nan) (get_or m.settings (4 * j + 3) nan) (get_or m.queue (8 * j + 1) 0)

-- the run named j, as memory has it
abbrev pub job_at : ℕ → Memory → Job
job_at j m =
    let S = system_at j m in
    let K = get_or m.queue (8 * j + 2) 0 in
    record {
      system = S;
      rates = K;
      step_size = get_or m.settings (4 * j) nan;
      steps = get_or m.queue (8 * j + 3) 0;
      windows = get_or m.queue (8 * j + 4) 0;
      warm_up = get_or m.queue (8 * j + 5) 0;
      warm_up_steps = get_or m.queue (8 * j + 6) 0;
      warmed = get_or m.queue (8 * j + 7) 0;
      now = stood_at j (dim S) K m.runs;
    }

-- an unfinished run passes the tests 1 to 5 with 29, 7, 8, 25 and 12, has a measured window left, and no more warm-up windows made than there are
abbrev pub job_tests : Job → List Test
job_tests j = setting_tests j.rates j.step_size j.steps j.windows j.windows j.warm_up j.warm_up_steps ++ dimension_tests j.system ++ count_tests j.rates (dim j.system)

abbrev pub is_passed : Option Refusal → Bool
is_passed none = true
is_passed (some r) = false

abbrev pub unfinished : Job → Bool
unfinished j = is_passed (first_failing (job_tests j)) && ltb j.now.totals.finished j.windows && leb j.warmed j.warm_up

-- whether slot j holds an unfinished run
unfoldable pub sound_at : ℕ → Memory → Bool
unfolding tag_at first_failing
sound_at j m = not (eqb (tag_at j m.runs) 0) && unfinished (job_at j m)

-- the run that is next, where it is one
abbrev pub ready_at : Option ℕ → Memory → Option ℕ
ready_at none m = none
ready_at (some j) m = cond (sound_at j m) (some j) none

abbrev pub front : Memory → Option ℕ
front m = ready_at (next_in m.queue) m

-- ---- what is done to memory; all else stays as it was

abbrev pub laid_settings : ℕ → Job → List Float → List Float
laid_settings j r f = let n = numbers r.system in sets f (4 * j) (r.step_size ∷ n.p0 ∷ n.p1 ∷ n.p2 ∷ [])

abbrev pub laid_counts : ℕ → Job → List ℕ → List ℕ
laid_counts j r q = let n = numbers r.system in sets q (8 * j) (n.kind ∷ n.dimension ∷ r.rates ∷ r.steps ∷ r.windows ∷ r.warm_up ∷ r.warm_up_steps ∷ r.warmed ∷ [])

-- a new run, named j, at the back of the queue
unfoldable pub taken_in : ℕ → Job → Memory → Memory
unfolding saved
taken_in j r m = memory (saved j j r.now m.runs) (laid_settings j r m.settings) (lengthened j (laid_counts j r m.queue))

-- after a turn of the run in front, which is named j and goes on as r
unfoldable pub put_back : ℕ → Job → Memory → Memory
unfolding saved
put_back j r m = memory (saved j j r.now m.runs) m.settings (set (rotated m.queue) (8 * j + 7) r.warmed)

-- or is over: its directions are cleared
unfoldable pub taken_out : ℕ → Job → Memory → Memory
taken_out j r m =
    memory (Slots.memory (sets m.runs.floats (321 * j + 16) (replicate (r.rates * dim r.system) zero⁺)) m.runs.counts) m.settings (shortened m.queue)

-- an empty queue
abbrev pub emptied : Memory → Memory
emptied m = memory m.runs m.settings (replicate 73 0)
