-- A call from C as a call of the library's own function, so that what is stated of those holds of it; and demand 3 of two calls from C. proofs/LeadingOutputs.antt proves both.
use Rattle.std.specs.Prelude.{ℕ, zero, suc, ◌≤◌, ◌≡◌, ◌↔◌, ◌≢◌, drop, get_or}
use Rattle.std.proofs.Math.Option.{Option, none, some}
use Rattle.std.specs.Float.{nan}
use Rattle.error.specs.Refusal.{refuse}
use Rattle.error.specs.declared.Refusal.{Refusal}
use Rattle.system.specs.System.{dim}
use Rattle.benettin.specs.Run.{RunAnswer}
use Rattle.benettin.specs.Estimate.{Input}
use Rattle.benettin.specs.LeadingSpectrum.{leading, RefusedFrom, number}
use Rattle.benettin.specs.LeadingOutputs.{read}
use Rattle.benettin.specs.Outputs as Outputs
use Rattle.interface.specs.Interface.{Call, Meets}

-- 0 is no refusal
abbrev pub refusal_of : ℕ → ℕ → Option Refusal
refusal_of zero place = none
refusal_of (suc n) place = some (refuse (suc n) place)

-- what a caller receives: the place at counts[0], the finished windows at counts[1], the steps at counts[2], the faint counts behind them, and the two times
abbrev pub received : Call → Outputs.Estimated
received c =
    record {
      refusal = refusal_of c.number (get_or c.counts 0 0);
      windows = get_or c.counts 1 0;
      steps = get_or c.counts 2 0;
      final_time = get_or c.times 0 nan;
      measured_time = get_or c.times 1 nan;
      faint = drop 3 c.counts;
      rows = c.rows_after;
      exponents = c.exponents_after;
      final_state = c.final_state_after;
    }

abbrev pub as_call : Call → Outputs.Call
as_call c = Outputs.call c.rows c.exponents c.final_state (received c)

-- a call that meets the contract of the C function meets that of `estimate_spectrum_at`
abbrev pub Faithful : Type 0
Faithful = (i : Input) (K : ℕ) (c : Call) → Meets i K c → Outputs.Meets i K (as_call c)

-- ---- two calls for k and K rates, all else equal, with outputs long enough for both, read by window and direction

abbrev pub reading : Input → ℕ → Call → RunAnswer
reading i K c = read (dim i.system) K (received c)

abbrev pub LeadingOutputs : Type 0
LeadingOutputs =
    (i : Input) (k K : ℕ) (c e : Call) → 1 ≤ k → k ≤ K → K ≤ dim i.system → Meets i k c → Meets i K e
    → number (reading i k c) ≢ 13 → number (reading i K e) ≢ 13
    → (leading k (reading i K e) ≡ reading i k c) ↔ ¬ RefusedFrom (dim i.system) k (reading i K e)
