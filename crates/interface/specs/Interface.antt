-- Numbers and slices as C hands them over: a value that is written only where there is one, and what the orthonormaliser, a run, a store and a dispatcher return. Definitions only.
use Rattle.std.specs.Prelude.{ℕ, ◌≡◌, List, [], ◌∷◌, Float, Result, Ok, Err}
use Rattle.std.proofs.Math.Option.{Option, none, some}
use Rattle.error.specs.Refusal.{Answer, value, refused, refusal_in, reported, number_of, place_of}
use Rattle.error.specs.Tests.{first_failing}
use Rattle.error.specs.declared.LyapunovError.{LyapunovError}
use Rattle.error.specs.declared.Refusal.{Refusal}
use Rattle.gram_schmidt.specs.GramSchmidt.{Orthonormalised}
use Rattle.rk4.specs.Step.{Stepped}
use Rattle.benettin.specs.Run.{input_tests}
use Rattle.benettin.specs.Estimate.{Input, problem}
use Rattle.benettin.specs.Outputs.{Estimated, estimated}
use Rattle.store.specs.Slots.{Memory}
use Rattle.calls.specs.Calls.{ran, told}
use Rattle.calls.specs.Served.{Served, served}
use Rattle.turns.specs.Turn.{Slices, slices}
use Rattle.turns.specs.Dispatcher.{Reply, named, rejected, nobody, unfit, advanced, finished}
use Rattle.schedule.specs.Schedule as Schedule
use Rattle.dispatching.specs.Served as Dispatching
use Rattle.dispatch.specs.Replies.{admission}

-- what stands where `old` was
abbrev pub value_or : Float → Answer Float → Float
value_or old (value y) = y
value_or old (refused r) = old

-- the number that is returned and the place that is written, of what is refused or not
pub record Refuses (number place : ℕ) (o : Option Refusal) : Type 0 where
  pub number_is : number ≡ number_of o
  pub place_is : place ≡ place_of o

-- what a call of the orthonormaliser returns and leaves
pub record OrthonormaliserReturns (number place : ℕ) (tangents norms : List Float) (x : Orthonormalised) : Type 0 where
  pub refusal_is : Refuses number place x.refusal
  pub tangents_are : tangents ≡ x.tangents
  pub norms_are : norms ≡ x.norms

-- what a call of a step returns and leaves
pub record StepReturns (number place : ℕ) (state tangents : List Float) (x : Stepped) : Type 0 where
  pub refusal_is : Refuses number place x.refusal
  pub state_is : state ≡ x.state
  pub tangents_are : tangents ≡ x.tangents

-- what a call for a dimension or an entropy returns and leaves where `old` was
pub record DiagnosticReturns (number place : ℕ) (old out : Float) (a : Answer Float) : Type 0 where
  pub refusal_is : Refuses number place (refusal_in a)
  pub value_is : out ≡ value_or old a

-- what the first failing test of 1 to 12, 25 and 29 refuses of a run for K rates
abbrev pub input_refusal : Input → ℕ → Option Refusal
input_refusal i K = first_failing (input_tests (problem i) K)

-- the nineteen counts: place, finished measured windows, steps, and the sixteen faint counts
abbrev pub counts : Estimated → List ℕ
counts x = place_of x.refusal ∷ x.windows ∷ x.steps ∷ x.faint

-- the two times: final and measured
abbrev pub times : Estimated → List Float
times x = x.final_time ∷ x.measured_time ∷ []

-- what a call of a run returns and leaves
pub record Returns (number : ℕ) (c : List ℕ) (t rows exponents final : List Float) (x : Estimated) : Type 0 where
  pub number_is : number ≡ number_of x.refusal
  pub counts_are : c ≡ counts x
  pub times_are : t ≡ times x
  pub rows_are : rows ≡ x.rows
  pub exponents_are : exponents ≡ x.exponents
  pub final_state_is : final ≡ x.final_state

-- ---- a store

-- what a call that keeps or goes on returns and leaves, by what it is served: `answer` is the answer of a run
pub record KeeperReturns (number : ℕ) (c : List ℕ) (t rows exponents final : List Float) (m : Memory) (s : Served) : Type 0 where
  pub answer : Estimated
  pub returns : Returns number c t rows exponents final answer
  pub served_is : s ≡ served (ran answer) m

-- what forgetting returns and leaves
pub record ForgetReturns (number : ℕ) (m : Memory) (s : Served) : Type 0 where
  pub refusal : Option Refusal
  pub number_is : number ≡ number_of refusal
  pub served_is : s ≡ served (told refusal) m

-- ---- a dispatcher

-- where nobody is next, or a run is not taken, the name is 8
abbrev pub next_name : Option ℕ → ℕ
next_name (some n) = n
next_name none = 8

abbrev pub taken_name : Result ℕ LyapunovError → ℕ
taken_name (Ok n) = n
taken_name (Err e) = 8

-- what handing in returns and leaves, by what it is served: `answer` is a name, or what is refused
pub record HandInReturns (number name place : ℕ) (m : Schedule.Memory) (s : Dispatching.Served) : Type 0 where
  pub answer : Result ℕ LyapunovError
  pub refusal_is : Refuses number place (reported answer)
  pub name_is : name ≡ taken_name answer
  pub served_is : s ≡ Dispatching.served m (admission answer)

-- what a turn returns and leaves: a number, the four numbers of its event, and counts, times and slices
pub record TurnAnswer : Type 0 where
  pub number : ℕ
  pub event : List ℕ
  pub counts : List ℕ
  pub times : List Float
  pub slices : Slices

abbrev pub turn_answer : ℕ → List ℕ → List ℕ → List Float → Slices → TurnAnswer
turn_answer number event counts times z = record { number = number; event = event; counts = counts; times = times; slices = z }

-- an event: the stage, the name, how many windows of the run are begun, and the place of what is refused
abbrev pub event : ℕ → ℕ → ℕ → ℕ → List ℕ
event stage name begun place = stage ∷ name ∷ begun ∷ place ∷ []

-- By the reply, where c, t and z were before: counts and times are written where the run is over. The last two are replies of a hand-in.
abbrev pub turn_answered : List ℕ → List Float → Slices → Reply → TurnAnswer
turn_answered c t z nobody = turn_answer 0 (event 0 8 0 0) c t z
turn_answered c t z (unfit n w r) = turn_answer r.number (event 1 n w r.place) c t z
turn_answered c t z (advanced n w y) = turn_answer 0 (event 2 n w 0) c t y
turn_answered c t z (finished n w x) = turn_answer (number_of x.refusal) (event 3 n w 0) (counts x) (times x) (slices x.rows x.exponents x.final_state)
turn_answered c t z (named n) = turn_answer 0 [] c t z
turn_answered c t z (rejected r) = turn_answer 0 [] c t z

pub record TurnReturns (c : List ℕ) (t : List Float) (z : Slices) (x : TurnAnswer) (m : Schedule.Memory) (s : Dispatching.Served) : Type 0 where
  pub answer_is : x ≡ turn_answered c t z s.reply
  pub memory_is : m ≡ s.memory

-- ---- a run

-- a call of a run: the outputs as they are handed over, the number that it returns, and what counts, times and outputs hold afterwards
pub record Call : Type 0 where
  pub rows : List Float
  pub exponents : List Float
  pub final_state : List Float
  pub number : ℕ
  pub counts : List ℕ
  pub times : List Float
  pub rows_after : List Float
  pub exponents_after : List Float
  pub final_state_after : List Float

abbrev pub call : List Float → List Float → List Float → ℕ → List ℕ → List Float → List Float → List Float → List Float → Call
call rows exponents final number counts times rows' exponents' final' =
    record {
      rows = rows;
      exponents = exponents;
      final_state = final;
      number = number;
      counts = counts;
      times = times;
      rows_after = rows';
      exponents_after = exponents';
      final_state_after = final';
    }

-- what the contract says of a call for K rates
abbrev pub Meets : Input → ℕ → Call → Type 0
Meets i K c = Returns c.number c.counts c.times c.rows_after c.exponents_after c.final_state_after (estimated i K c.rows c.exponents c.final_state)
