-- A run by turns has the answer and the slices that it has alone, whatever its neighbours do, and demand 3 holds of such runs. proofs/Alone.antt proves both.
use Rattle.std.specs.Prelude.{ℕ, ◌≤◌, ◌≡◌, Bool, true, false, ◌↔◌, ◌≢◌, List, [], ◌∷◌, ◌++◌, eqb, drop, Float}
use Rattle.std.proofs.Math.Option.{Option, none, some}
use Rattle.error.specs.Tests.{first_failing}
use Rattle.error.specs.declared.Refusal.{Refusal}
use Rattle.system.specs.System.{dim}
use Rattle.system_validation.specs.Tests.{matrix_tests}
use Rattle.benettin.specs.Run.{output_tests, stopped, no_faint}
use Rattle.benettin.specs.Estimate.{Input}
use Rattle.benettin.specs.Outputs as Outputs
use Rattle.benettin.specs.Outputs.{Estimated, outputs, lengths_of, Meets}
use Rattle.benettin.specs.LeadingSpectrum.{leading, RefusedFrom}
use Rattle.benettin.specs.LeadingOutputs.{read}
use Rattle.turns.specs.Turn.{Slices}
use Rattle.turns.specs.Dispatcher.{Call, hand_in, take_turn, Reply, named, rejected, nobody, unfit, advanced, finished, Exchange}

-- the same run with this matrix
abbrev pub with_matrix : List Float → Input → Input
with_matrix m i = record i { matrix = m }

-- slices that fit the run: neither 9 nor 13 refuses them
abbrev pub Fits : Input → ℕ → List Float → Slices → Type 0
Fits i K m z = none ≡ first_failing (matrix_tests i.system m ++ output_tests K (dim i.system) i.windows (lengths_of z.rows z.exponents z.final_state))

-- ---- what a run comes to among the exchanges of a dispatcher

-- where the next turn is n's, these are lent with it
abbrev pub Lends : ℕ → List Float → Slices → Option ℕ → Call → Type 0
Lends n m z (some k) (take_turn m' z') = n ≡ k → (m' ≡ m) × (z' ≡ z)
Lends n m z (some k) (hand_in i K) = Unit {0}
Lends n m z none c = Unit {0}

abbrev pub Either : Bool → Type 0 → Type 0 → Type 0
Either true A B = A
Either false A B = B

-- n is over with x by this reply, or it goes on with what its slices hold now
abbrev pub Shows : ℕ → Slices → Estimated → Reply → (Slices → Type 0) → Type 0
Shows n z x (finished k b y) on = Either (eqb n k) (x ≡ y) (on z)
Shows n z x (advanced k b y) on = Either (eqb n k) (on y) (on z)
Shows n z x (named k) on = on z
Shows n z x (rejected r) on = on z
Shows n z x nobody on = on z
Shows n z x (unfit k b r) on = on z

-- The run named n, lent the matrix m and the slices z at each of its turns, as its last turn left them, is over with x.
unfoldable pub Ends : ℕ → List Float → Slices → Estimated → List Exchange → Type 0
Ends n m z x [] = ⊥
Ends n m z x (e ∷ es) = Lends n m z e.next e.call × Shows n z x e.reply (λ y. Ends n m y x es)

-- refused before it is drawn or at the draw, with the slices as they are
abbrev pub refused_at_once : Refusal → ℕ → Slices → Estimated
refused_at_once r K z = outputs 0 z.rows z.exponents z.final_state (stopped [] (record { number = r.number; place = r.place; finished = 0; steps = 0 }) (no_faint K))

-- it is taken and ends so, or it is not taken, 28 apart
abbrev pub Answered : Reply → ℕ → List Float → Slices → Estimated → List Exchange → Type 0
Answered (named n) K m z x es = Ends n m z x es
Answered (rejected r) K m z x es = (r.number ≢ 28) × (x ≡ refused_at_once r K z)
Answered nobody K m z x es = ⊥
Answered (unfit k b r) K m z x es = ⊥
Answered (advanced k b y) K m z x es = ⊥
Answered (finished k b y) K m z x es = ⊥

-- the first of these exchanges hands the run i in for K rates, and it comes to x
unfoldable pub ComesTo : Input → ℕ → List Float → Slices → Estimated → List Exchange → Type 0
unfolding Ends
ComesTo i K m z x [] = ⊥
ComesTo i K m z x (e ∷ es) = (e.call ≡ hand_in i K) × Answered e.reply K m z x es

-- ---- the statements, of the exchanges es of a dispatcher

-- handed in at any of them and lent slices that fit, it is a call of the run alone
abbrev pub Alone : List Exchange → Type 0
Alone es = (a : ℕ) (i : Input) (K : ℕ) (m : List Float) (z : Slices) (x : Estimated) → Fits i K m z → ComesTo i K m z x (drop a es)
    → Meets (with_matrix m i) K (Outputs.call z.rows z.exponents z.final_state x)

-- demand 3, of one run for k and one for K rates, each in a dispatcher of its own or both in one
abbrev pub LeadingDispatched : List Exchange → List Exchange → Type 0
LeadingDispatched es fs = (a b : ℕ) (i : Input) (k K : ℕ) (m : List Float) (z w : Slices) (x y : Estimated) → 1 ≤ k → k ≤ K → K ≤ dim i.system
    → Fits i k m z → ComesTo i k m z x (drop a es) → Fits i K m w → ComesTo i K m w y (drop b fs)
    → (let d = dim i.system in (leading k (read d K y) ≡ read d k x) ↔ ¬ RefusedFrom d k (read d K y))
