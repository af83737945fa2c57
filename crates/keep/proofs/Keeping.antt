-- What a search for a slot comes to, and a call that is refused at once.
use Prim.Native.Nat.{ℕ}
use mathlib.Core.Path.{◌≡◌, sym, ap, ◌∙◌}
use mathlib.Core.Option.{Option, none, some}
use native.Mathlib.Omega.{arith}
use Rattle.std.specs.Prelude as code
use Rattle.std.specs.Prelude.{Some, None, Result, Ok, Err}
use Rattle.std.specs.Option.{ok_or}
use Rattle.error.specs.Refusal.{refuse, refusal}
use Rattle.error.specs.declared.LyapunovError.{LyapunovError}
use Rattle.floats.specs.Finite.{index}
use Rattle.benettin.specs.Outputs.{Estimated, outputs_from, observed, unstarted, flat_rows}
use Rattle.benettin.proofs.Reading.{none_faint}
use Rattle.store.specs.Slots.{Memory}
use Rattle.calls.specs.Calls.{Brought, ran, turned_away}
use Rattle.calls.specs.Served.{served}

-- ---- a search for a slot, whose failure is an error

module _ (o : code.Option ℕ) {s : Option ℕ} (ε : LyapunovError) {r : Result ℕ LyapunovError} (e : index o ≡ s) (f : r ≡ ok_or o ε) where
  pub found : {j : ℕ} → r ≡ Ok j → s ≡ some j
  found {j} g = let h : o ≡ Some j = grind arith in sym e ∙ ap index h

  pub missing : {δ : LyapunovError} → r ≡ Err δ → (s ≡ none) × (δ ≡ ε)
  missing {δ} g = let h : o ≡ None = grind arith in (sym e ∙ ap index h, grind arith)

-- ---- refused before any other test

turned_away_is : (number : ℕ) (b : Brought) (ε : LyapunovError) → refusal ε ≡ refuse number 0 → observed (Err (unstarted ε)) b.rows b.exponents b.final_state ≡ turned_away number b
unfolding outputs_from flat_rows
turned_away_is number b ε e = rw (e, none_faint b.rates)

-- and told so, where the memory is m
pub told_away : (number : ℕ) (b : Brought) (ε : LyapunovError) → refusal ε ≡ refuse number 0 → (m : Memory) → served (ran (observed (Err (unstarted ε)) b.rows b.exponents b.final_state)) m ≡ served (ran (turned_away number b)) m
told_away number b ε e m = ap (λ (x : Estimated). served (ran x) m) (turned_away_is number b ε e)
