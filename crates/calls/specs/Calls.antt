-- Document 02, c): the calls over a store, and what each has to answer, told by the calls before it. Definitions only.
use Rattle.std.specs.Prelude.{ℕ, zero, suc, ◌≡◌, Bool, true, false, cond, ◌&&◌, not, List, [], ◌∷◌, leb, eqb, Float}
use Rattle.std.proofs.Math.Option.{Option, none, some}
use Rattle.error.specs.Refusal.{refuse}
use Rattle.error.specs.declared.Refusal.{Refusal}
use Rattle.system.specs.declared.System.{System}
use Rattle.system.specs.declared.System.TheVariants.{Lorenz, Rossler, VanDerPol, Linear, Lorenz96}
use Rattle.benettin.specs.Run.{stopped, no_faint}
use Rattle.benettin.specs.Estimate.{Input}
use Rattle.benettin.specs.Outputs.{Estimated, estimated, outputs_from, outputs}
use Rattle.continuation.specs.Continuation.{with_windows, went_on}

-- ---- the calls

-- what a call brings: a run for so many rates, and its outputs. Going on, the windows of the run are those that are wanted more.
pub record Brought : Type 0 where
  pub input : Input
  pub rates : ℕ
  pub rows : List Float
  pub exponents : List Float
  pub final_state : List Float

abbrev pub brought : Input → ℕ → List Float → List Float → List Float → Brought
brought i K rows exponents final = record { input = i; rates = K; rows = rows; exponents = exponents; final_state = final }

pub data Call : Type 0 where
  keep : ℕ → Brought → Call
  go_on : ℕ → Brought → Call
  forget : ℕ → Call

-- keeping and going on answer and leave what a run does; forgetting answers what is refused
pub data Reply : Type 0 where
  ran : Estimated → Reply
  told : Option Refusal → Reply

-- ---- what is kept

-- a call that was made, and its reply
pub record Event : Type 0 where
  pub call : Call
  pub reply : Reply

abbrev pub event : Call → Reply → Event
event c r = record { call = c; reply = r }

-- a run that was kept
pub record Kept : Type 0 where
  pub input : Input
  pub rates : ℕ

abbrev pub run_of : Brought → Kept
run_of b = record { input = b.input; rates = b.rates }

-- kept from now on, unless the run was refused
abbrev pub newest : Option Refusal → Kept → Option Kept → Option Kept
newest none k old = some k
newest (some r) k old = old

abbrev pub after : ℕ → Call → Reply → Option Kept → Option Kept
after n (keep m b) (ran x) old = cond (eqb m n) (newest x.refusal (run_of b) old) old
after n (keep m b) (told r) old = old
after n (go_on m b) r old = old
after n (forget m) r old = cond (eqb m n) none old

-- what is kept under n, by the calls made so far, the last one first: the last keep under n that was not refused, unless it was forgotten since
unfoldable pub kept : ℕ → List Event → Option Kept
kept n [] = none
kept n (e ∷ h) = after n e.call e.reply (kept n h)

-- how many numbers below n have the property p
unfoldable pub count_below : ℕ → (ℕ → Bool) → ℕ
count_below zero p = 0
count_below (suc n) p = cond (p n) (suc (count_below n p)) (count_below n p)

abbrev pub is_kept : Option Kept → Bool
is_kept none = false
is_kept (some k) = true

-- how many other numbers than n are kept
unfoldable pub others : ℕ → List Event → ℕ
unfolding kept count_below
others n h = count_below 256 (λ m. not (eqb m n) && is_kept (kept m h))

-- ---- what is due

-- refused by a number of document 02 before any other test; the outputs stay as they are
abbrev pub turned_away : ℕ → Brought → Estimated
turned_away number b =
    outputs 0 b.rows b.exponents b.final_state (stopped [] (record { number = number; place = 0; finished = 0; steps = 0 }) (no_faint b.rates))

-- what the run alone answers and leaves
abbrev pub alone : Brought → Estimated
alone b = estimated b.input b.rates b.rows b.exponents b.final_state

-- 27: eight other numbers are kept
abbrev pub keeping : Bool → Brought → Estimated
keeping true b = turned_away 27 b
keeping false b = alone b

-- 26: no such number. Else the one run of the windows that are kept and those that are wanted more
abbrev pub going_on : Option Kept → Brought → Estimated
going_on none b = turned_away 26 b
going_on (some k) b = went_on k.input.windows b.input b.rates b.rows b.exponents b.final_state

abbrev pub forgetting : Option Kept → Option Refusal
forgetting none = some (refuse 26 0)
forgetting (some k) = none

unfoldable pub due : List Event → Call → Reply
unfolding others kept estimated went_on outputs_from
due h (keep n b) = ran (keeping (leb 8 (others n h)) b)
due h (go_on n b) = ran (going_on (kept n h) b)
due h (forget n) = told (forgetting (kept n h))

-- ---- the caller's condition: the system, the settings apart from the windows, and the start are those that are kept

-- only a linear system has a matrix
abbrev pub own_matrix : System → List Float → List Float
own_matrix (Lorenz σ ρ β) m = []
own_matrix (Rossler a b c) m = []
own_matrix (VanDerPol μ) m = []
own_matrix (Linear d) m = m
own_matrix (Lorenz96 n F) m = []

abbrev pub own : Input → Input
own i = record i { matrix = own_matrix i.system i.matrix }

abbrev pub Same : Option Kept → Brought → Type 0
Same none b = Unit {0}
Same (some k) b = (own k.input ≡ own (with_windows k.input.windows b.input)) × (k.rates ≡ b.rates)

abbrev pub Met : List Event → Call → Type 0
Met h (keep n b) = Unit {0}
Met h (go_on n b) = Same (kept n h) b
Met h (forget n) = Unit {0}

abbrev pub number : Call → ℕ
number (keep n b) = n
number (go_on n b) = n
number (forget n) = n
