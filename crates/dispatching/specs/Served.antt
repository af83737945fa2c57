-- What each call of a dispatcher answers and leaves in lent memory, for any content: the contracts cite it. Definitions only.
use Rattle.std.specs.Prelude.{ℕ, suc, Bool, true, false, List, [], ◌∷◌, leb, get_or, Float}
use Rattle.std.proofs.Math.Option.{Option, none, some}
use Rattle.error.specs.Refusal.{refuse}
use Rattle.error.specs.Tests.{first_failing}
use Rattle.error.specs.declared.Refusal.{Refusal}
use Rattle.benettin.specs.Estimate.{Input}
use Rattle.turns.specs.Turn.{Job, begun, HandedIn, taken, turned_down, handed_in, Slices, turn_tests, Turned, under_way, over, turn}
use Rattle.turns.specs.Dispatcher.{Call, hand_in, take_turn, Reply, named, rejected, nobody, unfit, advanced, finished, least_free, Exchange, exchange}
use Rattle.schedule.specs.Schedule.{Memory, names_in, next_in, job_at, front, sound_at, taken_in, put_back, taken_out}

pub record Served : Type 0 where
  pub memory : Memory
  pub reply : Reply

abbrev pub served : Memory → Reply → Served
served m r = record { memory = m; reply = r }

-- ---- handing in: 28 where the queue has eight names, before all other tests

abbrev pub admitted_in : HandedIn → Memory → Served
admitted_in (taken j) m = let n = least_free (names_in m.queue) in served (taken_in n j m) (named n)
admitted_in (turned_down r) m = served m (rejected r)

abbrev pub received_in : Bool → Input → ℕ → Memory → Served
received_in true i K m = served m (rejected (refuse 28 0))
received_in false i K m = admitted_in (handed_in i K) m

-- ---- a turn of the run in front, where there is one

abbrev pub moved_in : ℕ → Job → Turned → Memory → Served
moved_in n j (under_way k z) m = served (put_back n k m) (advanced n (suc (begun j)) z)
moved_in n j (over x) m = served (taken_out n j m) (finished n (suc (begun j)) x)

abbrev pub given_in : Option Refusal → ℕ → List Float → Slices → Memory → Served
given_in (some r) n a z m = served m (unfit n (begun (job_at n m)) r)
given_in none n a z m = moved_in n (job_at n m) (turn (job_at n m) a z) m

abbrev pub turned_in : Option ℕ → List Float → Slices → Memory → Served
turned_in none a z m = served m nobody
turned_in (some n) a z m = given_in (first_failing (turn_tests (job_at n m) a z)) n a z m

unfoldable pub serve_in : Memory → Call → Served
unfolding handed_in turn least_free first_failing sound_at taken_in put_back taken_out
serve_in m (hand_in i K) = received_in (leb 8 (get_or m.queue 64 0)) i K m
serve_in m (take_turn a z) = turned_in (front m) a z m

-- ---- a list of calls

unfoldable pub exchanges_in : Memory → List Call → List Exchange
unfolding serve_in
exchanges_in m [] = []
exchanges_in m (c ∷ cs) = exchange c (next_in m.queue) (serve_in m c).reply ∷ exchanges_in (serve_in m c).memory cs
