-- Demand 3 of what two calls answer and leave, read by window and direction. proofs/LeadingOutputs.antt proves it of calls that meet the contract of `estimate_spectrum_at`.
use Rattle.std.specs.Prelude.{ℕ, zero, suc, ◌+◌, ◌*◌, ◌≤◌, ◌≡◌, ◌↔◌, ◌≢◌, List, [], ◌∷◌, take, drop, get_or, Float}
use Rattle.std.proofs.Math.Option.{Option, none, some}
use Rattle.std.specs.Float.{nan}
use Rattle.error.specs.declared.Refusal.{Refusal}
use Rattle.system.specs.System.{dim}
use Rattle.benettin.specs.Run.{Row, RunAnswer, ended, stopped}
use Rattle.benettin.specs.Estimate.{Input}
use Rattle.benettin.specs.LeadingSpectrum.{leading, RefusedFrom, number}
use Rattle.benettin.specs.Outputs.{Estimated, Call, Meets}

-- ---- what a caller for K rates of a circuit of d entries reads

-- the row at place a: the end time, the K locals behind it, the K runnings behind those
abbrev pub row_at : ℕ → List Float → ℕ → Row
row_at K rows a = record { end_time = get_or rows a nan; locals = take K (drop (a + 1) rows); runnings = take K (drop (a + 1 + K) rows) }

-- the rows of n windows from window w on, that of each at place w * (1 + 2 * K)
unfoldable pub rows_from : ℕ → List Float → ℕ → ℕ → List Row
rows_from K rows w zero = []
rows_from K rows w (suc n) = row_at K rows (w * (1 + 2 * K)) ∷ rows_from K rows (suc w) n

abbrev pub read_by : Option Refusal → ℕ → ℕ → Estimated → RunAnswer
read_by none d K x =
    ended (rows_from K x.rows 0 x.windows)
    (record { exponents = take K x.exponents; faint = take K x.faint; state = take d x.final_state; final_time = x.final_time; measured_time = x.measured_time; steps = x.steps })
read_by (some r) d K x =
    stopped (rows_from K x.rows 0 x.windows) (record { number = r.number; place = r.place; finished = x.windows; steps = x.steps }) (take K x.faint)

abbrev pub read : ℕ → ℕ → Estimated → RunAnswer
read d K x = read_by x.refusal d K x

-- ---- the statement: two calls for k and K rates, all else equal, with outputs long enough for both

abbrev pub LeadingOutputs : Type 0
LeadingOutputs =
    (i : Input) (k K : ℕ) (c e : Call) → 1 ≤ k → k ≤ K → K ≤ dim i.system → Meets i k c → Meets i K e
    → (let d = dim i.system in
    number (read d k c.after) ≢ 13 → number (read d K e.after) ≢ 13
    → (leading k (read d K e.after) ≡ read d k c.after) ↔ ¬ RefusedFrom d k (read d K e.after))
