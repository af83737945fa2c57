-- What the contracts of the functions over slots say, by name. A reader may skip it. Definitions only.
use Rattle.std.specs.Prelude.{ℕ, ◌+◌, ◌*◌, ◌≤◌, ◌<◌, ◌≡◌, ◌≢◌, List, length, Float}
use Rattle.benettin.specs.Estimate.{limit}
use Rattle.totals.specs.Progress.{Held, run_state}
use Rattle.totals.specs.Ending.{Bounded}
use Rattle.store.specs.Slots.{Memory, tag_at, stood_at}

-- eight slots
abbrev pub Sized : Memory → Type 0
Sized m = (length m.floats ≡ 2568) × (length m.counts ≡ 152)

-- what is held of d entries and k directions fits into a slot
pub record Held_in (d k : ℕ) (H : Held) : Type 0 where
  pub entries : d ≤ 16
  pub few : k ≤ 16
  pub state : length H.state ≡ d
  pub tangents : length H.tangents ≡ k * d

-- a run is laid down in slot j
pub record Saves (j d k : ℕ) (H : Held) : Type 0 where
  pub slot : j < 8
  pub held : Held_in d k H
  pub bounded : Bounded k (limit + limit) limit H.progress

-- the run in slot j, which is in use, is taken up
pub record Loads (j d k : ℕ) (m : Memory) (x t : List Float) : Type 0 where
  pub slot : j < 8
  pub used : tag_at j m ≢ 0
  pub entries : d ≤ 16
  pub few : k ≤ 16
  pub state : length x ≡ d
  pub tangents : length t ≡ k * d

pub record Loaded (j d k : ℕ) (m : Memory) (H : Held) : Type 0 where
  pub run : run_state d k H ≡ stood_at j d k m
  pub bounded : Bounded k (limit + limit) limit H.progress
