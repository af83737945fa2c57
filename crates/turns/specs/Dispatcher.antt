-- Document 02, f): the dispatcher is the queue of its unfinished runs, and the one in front has the next turn. Definitions only.
use Rattle.std.specs.Prelude.{ℕ, zero, suc, Bool, true, false, cond, List, [], ◌∷◌, ◌++◌, map, leb, eqb, length, Float}
use Rattle.std.proofs.Math.Option.{Option, none, some}
use Rattle.error.specs.Refusal.{refuse}
use Rattle.error.specs.Tests.{first_failing}
use Rattle.error.specs.declared.Refusal.{Refusal}
use Rattle.benettin.specs.Estimate.{Input}
use Rattle.benettin.specs.Outputs.{Estimated}
use Rattle.turns.specs.Turn.{Job, begun, HandedIn, taken, turned_down, handed_in, Slices, turn_tests, Turned, under_way, over, turn}

-- ---- the calls

-- a run is handed in for so many rates, or the next one has its turn, lent a matrix and outputs
pub data Call : Type 0 where
  hand_in : Input → ℕ → Call
  take_turn : List Float → Slices → Call

-- What is answered: the name of a run that is taken, or why it is not; that nobody is next; that a turn is not spent, and why; and of a spent one how many windows of the run are begun, with what the slices hold and, at its end, its answer. Where no slices are named they stay as they are.
pub data Reply : Type 0 where
  named : ℕ → Reply
  rejected : Refusal → Reply
  nobody : Reply
  unfit : ℕ → ℕ → Refusal → Reply
  advanced : ℕ → ℕ → Slices → Reply
  finished : ℕ → ℕ → Estimated → Reply

-- ---- names

unfoldable pub member : ℕ → List ℕ → Bool
member n [] = false
member n (m ∷ ms) = cond (eqb n m) true (member n ms)

-- the least number from n on that is not among ns, within f more
unfoldable pub free_from : ℕ → ℕ → List ℕ → ℕ
unfolding member
free_from zero n ns = n
free_from (suc f) n ns = cond (member n ns) (free_from f (suc n) ns) n

-- the least number that is not among ns
unfoldable pub least_free : List ℕ → ℕ
unfolding free_from
least_free ns = free_from (length ns) 0 ns

-- ---- the queue

pub record Entry : Type 0 where
  pub name : ℕ
  pub run : Job

abbrev pub entry : ℕ → Job → Entry
entry n j = record { name = n; run = j }

abbrev pub names : List Entry → List ℕ
names q = map (λ e. e.name) q

-- whose turn is next
abbrev pub next : List Entry → Option ℕ
next [] = none
next (e ∷ q) = some e.name

pub record Served : Type 0 where
  pub queue : List Entry
  pub reply : Reply

abbrev pub served : List Entry → Reply → Served
served q r = record { queue = q; reply = r }

-- ---- handing in: 28 where eight are unfinished, before all other tests. A new run goes to the back

abbrev pub admitted : List Entry → HandedIn → Served
admitted q (taken j) = served (q ++ (entry (least_free (names q)) j ∷ [])) (named (least_free (names q)))
admitted q (turned_down r) = served q (rejected r)

abbrev pub received : Bool → List Entry → Input → ℕ → Served
received true q i K = served q (rejected (refuse 28 0))
received false q i K = admitted q (handed_in i K)

-- ---- a turn: 9 or 13 refuse it, and it is not spent. An unfinished run goes to the back

abbrev pub moved : Entry → List Entry → Turned → Served
moved e q (under_way j z) = served (q ++ (entry e.name j ∷ [])) (advanced e.name (suc (begun e.run)) z)
moved e q (over x) = served q (finished e.name (suc (begun e.run)) x)

abbrev pub given : Option Refusal → Entry → List Entry → List Float → Slices → Served
given (some r) e q m z = served (e ∷ q) (unfit e.name (begun e.run) r)
given none e q m z = moved e q (turn e.run m z)

abbrev pub turned : List Entry → List Float → Slices → Served
turned [] m z = served [] nobody
turned (e ∷ q) m z = given (first_failing (turn_tests e.run m z)) e q m z

unfoldable pub serve : List Entry → Call → Served
unfolding handed_in turn least_free first_failing
serve q (hand_in i K) = received (leb 8 (length q)) q i K
serve q (take_turn m z) = turned q m z

-- ---- a list of calls, from any queue

-- a call, whose turn was next before it, and the reply
pub record Exchange : Type 0 where
  pub call : Call
  pub next : Option ℕ
  pub reply : Reply

abbrev pub exchange : Call → Option ℕ → Reply → Exchange
exchange c n r = record { call = c; next = n; reply = r }

unfoldable pub exchanges : List Entry → List Call → List Exchange
unfolding serve
exchanges q [] = []
exchanges q (c ∷ cs) = exchange c (next q) (serve q c).reply ∷ exchanges (serve q c).queue cs

unfoldable pub queue_after : List Entry → List Call → List Entry
unfolding serve
queue_after q [] = q
queue_after q (c ∷ cs) = queue_after (serve q c).queue cs
