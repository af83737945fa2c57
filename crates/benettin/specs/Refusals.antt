-- Demand 1, of a call that meets the contract of `estimate_spectrum_at`: what a refused run has written. proofs/Refusals.antt proves both.
use Rattle.std.specs.Prelude.{ℕ, ◌+◌, ◌*◌, ◌≡◌, List, [], ◌∷◌, length, take, drop, replicate}
use Rattle.std.proofs.Math.Option.{some}
use Rattle.error.specs.Refusal.{refuse}
use Rattle.error.specs.Tests.{first_failing}
use Rattle.error.specs.declared.Refusal.{Refusal}
use Rattle.benettin.specs.Run.{Row, RunRefusal, stopped, run_tests}
use Rattle.benettin.specs.Estimate.{Input, problem, estimate}
use Rattle.benettin.specs.Outputs.{Call, Meets, lent, flat_rows}

-- A run refused before its basis is drawn, by a test of 1 to 13 or by 25 or 29, changes no slice.
abbrev pub EarlyRefusal : Type 0
EarlyRefusal =
    (i : Input) (K : ℕ) (c : Call) (r : Refusal) → Meets i K c → first_failing (run_tests (problem i) K (lent c)) ≡ some r
    → (c.after.refusal ≡ some r) × (c.after.rows ≡ c.rows) × (c.after.exponents ≡ c.exponents) × (c.after.final_state ≡ c.final_state)

-- each row has K locals and K runnings
abbrev pub Wide : ℕ → List Row → Type 0
Wide K [] = Unit {0}
Wide K (r ∷ rs) = (length r.locals ≡ K) × (length r.runnings ≡ K) × Wide K rs

-- One refused later has written the rows of its finished measured windows and nothing else: finished * (1 + 2 * K) floats from the start of the rows slice.
pub record Written (K : ℕ) (rs : List Row) (q : RunRefusal) (c : Call) : Type 0 where
  pub refusal : c.after.refusal ≡ some (refuse q.number q.place)
  pub finished : c.after.windows ≡ q.finished
  pub steps : c.after.steps ≡ q.steps
  pub faint : c.after.faint ≡ replicate 16 0
  pub many : length rs ≡ q.finished
  pub wide : Wide K rs
  pub rows : take (q.finished * (1 + 2 * K)) c.after.rows ≡ flat_rows rs
  pub rows_behind : drop (q.finished * (1 + 2 * K)) c.after.rows ≡ drop (q.finished * (1 + 2 * K)) c.rows
  pub exponents : c.after.exponents ≡ c.exponents
  pub final_state : c.after.final_state ≡ c.final_state

abbrev pub LateRefusal : Type 0
LateRefusal = (i : Input) (K : ℕ) (c : Call) (rs : List Row) (q : RunRefusal) (f : List ℕ) → Meets i K c → estimate i K (lent c) ≡ stopped rs q f → Written K rs q c
