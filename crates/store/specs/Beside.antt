-- A run that is laid down and taken up beside its directions, which stand in memory already. Definitions only.
use Rattle.std.specs.Prelude.{ℕ, ◌+◌, ◌*◌, ◌≤◌, ◌<◌, ◌≡◌, List, ◌∷◌, length, take, get_or, set, Float}
use Rattle.std.proofs.lemmas.List.Edits.{sets}
use Rattle.std.specs.Float.{nan}
use Rattle.floats.specs.Vector.{part}
use Rattle.totals.specs.Progress.{held}
use Rattle.totals.specs.Ending.{Bounded}
use Rattle.totals.specs.declared.Progress.{Progress}
use Rattle.store.specs.Slots.{Memory, memory, windows_at}
use Rattle.store.specs.Promises.{Loaded}

-- a run of d entries and k directions has room in a slot
pub record Fits (j d k : ℕ) : Type 0 where
  pub slot : j < 8
  pub entries : d ≤ 16
  pub few : k ≤ 16

-- ---- a run is laid down in slot j

pub record SavesBeside (j d k : ℕ) (x : List Float) (p : Progress) : Type 0 where
  pub fits : Fits j d k
  pub state : length x ≡ d
  -- whatever the bounds are
  pub made : ℕ
  pub measured : ℕ
  pub bounded : Bounded k made measured p

-- all floats of a slot but the directions
unfoldable pub laid_beside : ℕ → List Float → List Float → List Float → Float → List Float → List Float
laid_beside j state sums norms time floats = set (sets (sets (sets floats (321 * j) state) (321 * j + 272) sums) (321 * j + 288) norms) (321 * j + 320) time

-- what is left, whatever the directions are
abbrev pub saved_beside : ℕ → ℕ → List Float → ℕ → List Float → Progress → Memory → Memory
saved_beside j number x k ns p m =
    memory (laid_beside j x (take k p.sums) (take (k + k) ns) p.time m.floats) (sets m.counts (19 * j) ((number + 1) ∷ p.windows ∷ p.steps ∷ p.faint))

-- ---- the run in slot j is taken up

-- what it has come to, with these faint counts
abbrev pub progress_in : ℕ → List ℕ → Memory → Progress
progress_in j faint m =
    record { windows = windows_at j m; steps = get_or m.counts (19 * j + 2) 0; time = get_or m.floats (321 * j + 320) nan; faint = faint; sums = part (321 * j + 272) 16 m.floats }

-- with the directions that stand in memory
abbrev pub LoadedBeside : ℕ → ℕ → ℕ → Memory → List Float → List Float → Progress → Type 0
LoadedBeside j d k m x ns p = Loaded j d k m (held x (part (321 * j + 16) (k * d) m.floats) ns p)
