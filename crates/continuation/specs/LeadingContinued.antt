-- A run kept after a windows and gone on with counts as the one run of all windows, the rows of the first call before those of the second: that it is this run, and demand 3, both read off the calls. proofs/LeadingContinued.antt proves them.
use Rattle.std.specs.Prelude.{ℕ, ◌+◌, ◌-◌, ◌≤◌, ◌≡◌, ◌↔◌, ◌≢◌, List, ◌++◌, take}
use Rattle.std.proofs.Math.Option.{none}
use Rattle.system.specs.System.{dim}
use Rattle.benettin.specs.Run.{Row, RunAnswer, ended, stopped}
use Rattle.benettin.specs.declared.OutputLengths.{OutputLengths}
use Rattle.benettin.specs.Estimate.{Input, estimate}
use Rattle.benettin.specs.LeadingSpectrum.{leading, RefusedFrom, number}
use Rattle.benettin.specs.LeadingOutputs.{rows_from, read}
use Rattle.benettin.specs.Outputs.{Estimated, Call, Meets}
use Rattle.continuation.specs.Continuation.{with_windows, Continues}

-- ---- what a caller for K rates of a circuit of d entries reads off two calls: a run of a windows, and one that goes on after it

-- the windows that an answer counts beyond a
abbrev pub beyond : ℕ → Estimated → Estimated
beyond a x =
    record { refusal = x.refusal; windows = x.windows - a; steps = x.steps; final_time = x.final_time; measured_time = x.measured_time; faint = x.faint; rows = x.rows; exponents = x.exponents; final_state = x.final_state }

-- earlier rows before those of an answer that counts n finished windows: of a refused one as many as were finished, so that one refused by a test has none
abbrev pub behind : ℕ → List Row → RunAnswer → RunAnswer
behind n earlier (ended rows x) = ended (earlier ++ rows) x
behind n earlier (stopped rows r f) = stopped (take n (earlier ++ rows)) (record { number = r.number; place = r.place; finished = n; steps = r.steps }) f

-- the rows of the first call before those of the second, which stand from place 0 on
abbrev pub read_both : ℕ → ℕ → ℕ → Call → Call → RunAnswer
read_both a d K c g = behind g.after.windows (rows_from K c.after.rows 0 a) (read d K (beyond a g.after))

-- ---- the statements: a run of a windows was not refused, and goes on

abbrev pub Ended : ℕ → Input → ℕ → Call → Type 0
Ended a i K c = Meets (with_windows a i) K c × (c.after.refusal ≡ none)

-- Both calls together are the one run of a and the windows of i, with outputs of any lengths that are enough for it.
abbrev pub OneRun : Type 0
OneRun =
    (a : ℕ) (i : Input) (K : ℕ) (c g : Call) (o : OutputLengths) → 1 ≤ i.windows → Ended a i K c → Continues a i K g
    → (let whole = read_both a (dim i.system) K c g in
    number whole ≢ 13 → number (estimate (with_windows (a + i.windows) i) K o) ≢ 13
    → whole ≡ estimate (with_windows (a + i.windows) i) K o)

-- Demand 3, for k and K rates, all else equal.
abbrev pub LeadingContinued : Type 0
LeadingContinued =
    (a : ℕ) (i : Input) (k K : ℕ) (c g e h : Call) → 1 ≤ k → k ≤ K → K ≤ dim i.system
    → Ended a i k c → Continues a i k g → Ended a i K e → Continues a i K h
    → (let d = dim i.system in
    number (read_both a d k c g) ≢ 13 → number (read_both a d K e h) ≢ 13
    → (leading k (read_both a d K e h) ≡ read_both a d k c g) ↔ ¬ RefusedFrom d k (read_both a d K e h))
