-- What a run answers and leaves in its three outputs, flat, entry by entry, and what a call of it meets. Definitions only.
use Rattle.std.specs.Prelude.{ℕ, ◌-◌, ◌≡◌, List, [], ◌∷◌, ◌++◌, length, replicate, Float, Result, Ok, Err}
use Rattle.std.proofs.Math.Option.{Option, none, some}
use Rattle.std.proofs.lemmas.List.Edits.{sets}
use Rattle.error.specs.Refusal.{refuse, refusal}
use Rattle.error.specs.declared.LyapunovError.{LyapunovError}
use Rattle.error.specs.declared.Refusal.{Refusal}
use Rattle.floats.specs.Arithmetic.{zero⁺}
use Rattle.benettin.specs.Run.{lengths, RunAnswer, ended, stopped, Row}
use Rattle.benettin.specs.declared.OutputLengths.{OutputLengths}
use Rattle.benettin.specs.Estimate.{Input, estimate}
use Rattle.benettin.specs.declared.SpectrumEstimate.{SpectrumEstimate}
use Rattle.benettin.specs.declared.RefusedRun.{RefusedRun}

-- the answer, and what the outputs hold
pub record Estimated : Type 0 where
  pub refusal : Option Refusal
  -- measured windows finished, and steps that passed every test
  pub windows : ℕ
  pub steps : ℕ
  pub final_time : Float
  pub measured_time : Float
  -- sixteen counts
  pub faint : List ℕ
  pub rows : List Float
  pub exponents : List Float
  pub final_state : List Float

-- one row of 1 + 2 * K floats: end time, K locals, K runnings
abbrev pub flat_row : Row → List Float
flat_row r = r.end_time ∷ r.locals ++ r.runnings

-- each row stands behind the one before it, so that of window w at place w * (1 + 2 * K)
unfoldable pub flat_rows : List Row → List Float
flat_rows [] = []
flat_rows (r ∷ rs) = flat_row r ++ flat_rows rs

-- sixteen faint counts: those of the directions, then zeros
abbrev pub sixteen : List ℕ → List ℕ
sixteen f = f ++ replicate (16 - length f) 0

-- Rows are written from place a on, as many as measured windows were finished; exponents and the final state only by a run that ends. All else stays as it was. The times of a refused run are +0.0.
unfoldable pub outputs_from : ℕ → ℕ → List Float → List Float → List Float → RunAnswer → Estimated
unfolding flat_rows
outputs_from a windows rows exponents final (ended rs x) =
    record {
      refusal = none;
      windows = windows;
      steps = x.steps;
      final_time = x.final_time;
      measured_time = x.measured_time;
      faint = sixteen x.faint;
      rows = sets rows a (flat_rows rs);
      exponents = sets exponents 0 x.exponents;
      final_state = sets final 0 x.state;
    }
outputs_from a windows rows exponents final (stopped rs r f) =
    record {
      refusal = some (refuse r.number r.place);
      windows = r.finished;
      steps = r.steps;
      final_time = zero⁺;
      measured_time = zero⁺;
      faint = sixteen f;
      rows = sets rows a (flat_rows rs);
      exponents = exponents;
      final_state = final;
    }

-- of a run, from the start of the rows slice
abbrev pub outputs : ℕ → List Float → List Float → List Float → RunAnswer → Estimated
outputs = outputs_from 0

abbrev pub lengths_of : List Float → List Float → List Float → OutputLengths
lengths_of rows exponents final = lengths (length rows) (length exponents) (length final)

-- of an input, K and the three outputs as they are handed over
unfoldable pub estimated : Input → ℕ → List Float → List Float → List Float → Estimated
unfolding estimate outputs_from
estimated i K rows exponents final = outputs i.windows rows exponents final (estimate i K (lengths_of rows exponents final))

-- what the code's answer and the outputs stand for
abbrev pub observed : Result SpectrumEstimate RefusedRun → List Float → List Float → List Float → Estimated
observed (Ok r) rows exponents final =
    record {
      refusal = none;
      windows = r.windows;
      steps = r.steps;
      final_time = r.final_time;
      measured_time = r.measured_time;
      faint = r.faint;
      rows = rows;
      exponents = exponents;
      final_state = final;
    }
observed (Err r) rows exponents final =
    record {
      refusal = some (refusal r.error);
      windows = r.windows;
      steps = r.steps;
      final_time = zero⁺;
      measured_time = zero⁺;
      faint = replicate 16 0;
      rows = rows;
      exponents = exponents;
      final_state = final;
    }

-- a run that is refused before its first step
abbrev pub unstarted : LyapunovError → RefusedRun
unstarted e = record { error = e; windows = 0; steps = 0 }

-- ---- a call

-- the outputs as they are handed over, and what is answered and left
pub record Call : Type 0 where
  pub rows : List Float
  pub exponents : List Float
  pub final_state : List Float
  pub after : Estimated

abbrev pub call : List Float → List Float → List Float → Estimated → Call
call rows exponents final after = record { rows = rows; exponents = exponents; final_state = final; after = after }

abbrev pub lent : Call → OutputLengths
lent c = lengths_of c.rows c.exponents c.final_state

-- what the contract says of a call for K rates: it answers and leaves what the run does
abbrev pub Meets : Input → ℕ → Call → Type 0
Meets i K c = c.after ≡ estimated i K c.rows c.exponents c.final_state
