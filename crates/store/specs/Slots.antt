-- Eight slots in memory that a caller lends, each with a run under way: what they hold, for any content of the memory. Definitions only.
use Rattle.std.specs.Prelude.{ℕ, zero, suc, ◌+◌, ◌*◌, Bool, true, cond, ◌&&◌, List, [], ◌∷◌, ◌++◌, leb, eqb, get_or, set, replicate, Float}
use Rattle.std.proofs.Math.Option.{Option, none, some, map}
use Rattle.std.proofs.lemmas.List.Edits.{sets}
use Rattle.std.specs.Float.{nan}
use Rattle.std.specs.Float.Ieee.Scale.{finite}
use Rattle.floats.specs.Vector.{part, chunks, concat}
use Rattle.benettin.specs.Run.{RunState}
use Rattle.benettin.specs.Estimate.{limit}
use Rattle.benettin.specs.Outputs.{sixteen}

-- Slot j has 321 floats from 321 * j on: the state from place 0, the directions from 16, the sums from 272, the logarithms with the squared lengths behind them from 288, the time at 320. It has 19 counts from 19 * j on: the tag, the measured windows, the steps, and sixteen faint counts.
pub record Memory : Type 0 where
  pub floats : List Float
  pub counts : List ℕ

abbrev pub memory : List Float → List ℕ → Memory
memory floats counts = record { floats = floats; counts = counts }

-- ---- which slots are in use

-- no entry is above n
unfoldable pub at_most : ℕ → List ℕ → Bool
at_most n [] = true
at_most n (x ∷ xs) = leb x n && at_most n xs

-- what a run that ended can have left: its windows are within the limit, so are those of the warm-up, and the steps of each, and its time is finite
abbrev pub sound : ℕ → ℕ → List ℕ → Float → Bool
sound windows steps faint time = leb windows limit && leb steps (2 * limit * limit) && at_most (2 * limit) faint && finite time

abbrev pub sound_tag : ℕ → ℕ → ℕ → List ℕ → Float → ℕ
sound_tag tag windows steps faint time = cond (leb tag 256 && sound windows steps faint time) tag 0

-- the tag of slot j is a number and one more, or 0 where the slot is free. One that holds what no run can have left is free.
unfoldable pub tag_at : ℕ → Memory → ℕ
unfolding at_most
tag_at j m = sound_tag (get_or m.counts (19 * j) 0) (get_or m.counts (19 * j + 1) 0) (get_or m.counts (19 * j + 2) 0) (part (19 * j + 3) 16 m.counts) (get_or m.floats (321 * j + 320) nan)

-- the tags of n slots from slot j on
unfoldable pub tags_from : ℕ → ℕ → Memory → List ℕ
unfolding tag_at
tags_from j zero m = []
tags_from j (suc n) m = tag_at j m ∷ tags_from (suc j) n m

abbrev pub tags : Memory → List ℕ
tags = tags_from 0 8

-- where t stands first in a list
unfoldable pub first_index : ℕ → List ℕ → Option ℕ
first_index t [] = none
first_index t (x ∷ xs) = cond (eqb x t) (some 0) (map suc (first_index t xs))

-- the slot of a number
abbrev pub slot_of : ℕ → Memory → Option ℕ
slot_of number m = first_index (number + 1) (tags m)

-- the slot to keep under a number: its own, else the first that is free
abbrev pub or_else : Option ℕ → Option ℕ → Option ℕ
or_else (some j) o = some j
or_else none o = o

abbrev pub slot_for : ℕ → Memory → Option ℕ
slot_for number m = or_else (slot_of number m) (first_index 0 (tags m))

-- ---- what a slot holds

-- the windows that the run in slot j has measured
abbrev pub windows_at : ℕ → Memory → ℕ
windows_at j m = get_or m.counts (19 * j + 1) 0

-- the run in slot j, read as one of d entries and K directions
abbrev pub stood_at : ℕ → ℕ → ℕ → Memory → RunState
stood_at j d K m =
    record {
      motion = record { state = part (321 * j) d m.floats; directions = chunks d K (part (321 * j + 16) (K * d) m.floats); time = get_or m.floats (321 * j + 320) nan; steps = get_or m.counts (19 * j + 2) 0 };
      norms = record { logs = part (321 * j + 288) K m.floats; reports = part (321 * j + 288 + K) K m.floats };
      totals = record { finished = windows_at j m; sums = part (321 * j + 272) K m.floats; faint = part (19 * j + 3) K m.counts };
    }

-- ---- what is done to a slot; all other memory stays as it was

unfoldable pub laid_floats : ℕ → List Float → List Float → List Float → List Float → Float → List Float → List Float
laid_floats j state directions sums norms time floats =
    set (sets (sets (sets (sets floats (321 * j) state) (321 * j + 16) directions) (321 * j + 272) sums) (321 * j + 288) norms) (321 * j + 320) time

-- a run, kept under a number in slot j
unfoldable pub saved : ℕ → ℕ → RunState → Memory → Memory
unfolding laid_floats concat
saved j number c m =
    memory (laid_floats j c.motion.state (concat c.motion.directions) c.totals.sums (c.norms.logs ++ c.norms.reports) c.motion.time m.floats)
    (sets m.counts (19 * j) ((number + 1) ∷ c.totals.finished ∷ c.motion.steps ∷ sixteen c.totals.faint))

-- slot j free
abbrev pub freed : ℕ → Memory → Memory
freed j m = memory m.floats (set m.counts (19 * j) 0)

-- all slots free
abbrev pub emptied : Memory → Memory
emptied m = memory m.floats (replicate 152 0)
