-- Demand 3: a spectrum does not move when more of it is wanted. proofs/LeadingSpectrum.antt proves it.
use Rattle.std.specs.Prelude.{ℕ, ◌/◌, ◌≤◌, ◌≡◌, ◌⊎◌, ◌↔◌, ◌≢◌, map, take}
use Rattle.system.specs.System.{dim}
use Rattle.benettin.specs.Run.{Row, Spectrum, RunRefusal, RunAnswer, ended, stopped}
use Rattle.benettin.specs.declared.OutputLengths.{OutputLengths}
use Rattle.benettin.specs.Estimate.{Input, estimate}

-- ---- `struck out` is document 01's term: without the exponents, faint counts, locals and runnings of directions k and above; all else stays

abbrev pub leading_row : ℕ → Row → Row
leading_row k r = record { end_time = r.end_time; locals = take k r.locals; runnings = take k r.runnings }

abbrev pub leading_spectrum : ℕ → Spectrum → Spectrum
leading_spectrum k x =
    record { exponents = take k x.exponents; faint = take k x.faint; state = x.state; final_time = x.final_time; measured_time = x.measured_time; steps = x.steps }

abbrev pub leading : ℕ → RunAnswer → RunAnswer
leading k (ended rows x) = ended (map (leading_row k) rows) (leading_spectrum k x)
leading k (stopped rows r faint) = stopped (map (leading_row k) rows) r (take k faint)

-- ---- refused at a direction numbered k or above: by 14 with its place, or by 17 with its place div d

abbrev pub AtOrAbove : ℕ → ℕ → RunRefusal → Type 0
AtOrAbove d k r = ((r.number ≡ 14) × (k ≤ r.place)) ⊎ ((r.number ≡ 17) × (k ≤ r.place / d))

abbrev pub RefusedFrom : ℕ → ℕ → RunAnswer → Type 0
RefusedFrom d k (ended rows x) = ⊥
RefusedFrom d k (stopped rows r faint) = AtOrAbove d k r

-- 0 where nothing is refused
abbrev pub number : RunAnswer → ℕ
number (ended rows x) = 0
number (stopped rows r faint) = r.number

-- ---- the statement: for every system, matrix, start, time, seed and setting, two runs for k and K rates, with outputs long enough for both

abbrev pub LeadingSpectrum : Type 0
LeadingSpectrum =
    (i : Input) (k K : ℕ) (o O : OutputLengths) → 1 ≤ k → k ≤ K → K ≤ dim i.system
    → number (estimate i k o) ≢ 13 → number (estimate i K O) ≢ 13
    → (leading k (estimate i K O) ≡ estimate i k o) ↔ ¬ RefusedFrom (dim i.system) k (estimate i K O)
