-- The answers of the calls as the code gives them, and what a turn returns and leaves. Definitions only.
use Rattle.std.specs.Prelude.{ℕ, ◌<◌, ◌≡◌, get_or, Result, Ok, Err}
use Rattle.std.proofs.Math.Option.{none}
use Rattle.error.specs.Refusal.{refusal}
use Rattle.error.specs.Tests.{first_failing}
use Rattle.error.specs.declared.LyapunovError.{LyapunovError}
use Rattle.benettin.specs.Estimate.{Input}
use Rattle.benettin.specs.Outputs.{observed}
use Rattle.turns.specs.Turn.{hand_in_tests, HandedIn, taken_at, drawn, Slices}
use Rattle.turns.specs.Dispatcher.{Reply, named, rejected, nobody, unfit, advanced, finished}
use Rattle.schedule.specs.Schedule.{Memory}
use Rattle.dispatching.specs.Served.{Served, served}
use Rattle.dispatch.specs.declared.TurnTaken.{TurnTaken}
use Rattle.dispatch.specs.declared.TurnTaken.TheVariants.{Nobody, Unfit, UnderWay, Over}

-- ---- handing in

abbrev pub admission : Result ℕ LyapunovError → Reply
admission (Ok n) = named n
admission (Err e) = rejected (refusal e)

-- past the tests
abbrev pub drawn_in : Input → ℕ → HandedIn
drawn_in i K = taken_at i K (drawn i K)

pub record TakesIn (i : Input) (K : ℕ) (m : Memory) : Type 0 where
  pub room : get_or m.queue 64 0 < 8
  pub passed : none ≡ first_failing (hand_in_tests i K)

-- ---- a turn

-- what a turn answers, where the slices hold z afterwards
abbrev pub reply : TurnTaken → Slices → Reply
reply Nobody z = nobody
reply (Unfit n w e) z = unfit n w (refusal e)
reply (UnderWay n w) z = advanced n w z
reply (Over n w r) z = finished n w (observed r z.rows z.exponents z.final_state)

-- a turn that is not spent
abbrev pub Unspent : TurnTaken → Type 0
Unspent Nobody = Unit {0}
Unspent (Unfit n w e) = Unit {0}
Unspent (UnderWay n w) = ⊥
Unspent (Over n w r) = ⊥

-- what a turn returns and leaves in the slices and in memory, by what it is served
pub record TurnReturns (r : TurnTaken) (z z' : Slices) (m : Memory) (s : Served) : Type 0 where
  pub served_is : s ≡ served m (reply r z')
  pub untouched : Unspent r → z' ≡ z
