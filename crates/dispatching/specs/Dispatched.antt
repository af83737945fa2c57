-- Over every list of calls from an emptied dispatcher, in memory that may hold anything before, the exchanges are those of crate turns, and what is stated there holds of them. proofs/ proves it.
use Rattle.std.specs.Prelude.{◌≡◌, List, []}
use Rattle.turns.specs.Dispatcher.{Call, Exchange, exchanges}
use Rattle.turns.specs.Alone.{Alone, LeadingDispatched}
use Rattle.turns.specs.Queue.{LeastFree, Fair, TurnsAreWindows}
use Rattle.schedule.specs.Schedule.{Memory, emptied}
use Rattle.schedule.specs.Promises.{Sized}
use Rattle.dispatching.specs.Served.{exchanges_in}

abbrev pub Agreement : Type 0
Agreement = (m : Memory) (cs : List Call) → Sized m → exchanges_in (emptied m) cs ≡ exchanges [] cs

-- of the exchanges of one dispatcher
pub record Dispatched (es : List Exchange) : Type 0 where
  pub alone : Alone es
  pub least_free : LeastFree es
  pub fair : Fair es
  pub turns_are_windows : TurnsAreWindows es

abbrev pub EachDispatched : Type 0
EachDispatched = (m : Memory) (cs : List Call) → Sized m → Dispatched (exchanges_in (emptied m) cs)

-- demand 3, of the exchanges of two
abbrev pub EachLeading : Type 0
EachLeading = (m n : Memory) (cs ds : List Call) → Sized m → Sized n → LeadingDispatched (exchanges_in (emptied m) cs) (exchanges_in (emptied n) ds)
