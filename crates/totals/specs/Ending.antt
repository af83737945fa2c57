-- What bounds a run under way, and what its end asks and tells. A reader may skip it. Definitions only.
use Rattle.std.specs.Prelude.{ℕ, ◌*◌, ◌≤◌, ◌≡◌, true, List, length, drop, get_or, replicate, Float, Ok}
use Rattle.std.proofs.lemmas.List.Edits.{sets}
use Rattle.std.specs.Float.Ieee.Scale.{finite}
use Rattle.benettin.specs.Run.{Dynamics, Row, ok, answer}
use Rattle.benettin.specs.Estimate.{limit}
use Rattle.benettin.specs.Outputs.{flat_rows, observed, outputs_from}
use Rattle.benettin.specs.declared.SpectrumEstimate.{SpectrumEstimate}
use Rattle.totals.specs.Progress.{held, run_state}
use Rattle.totals.specs.declared.Progress.{Progress}

-- After at most so many windows, and so many measured ones of them: arrays of 16, counts of 0 behind direction k, a finite time, and bounds.
pub record Bounded (k made measured : ℕ) (p : Progress) : Type 0 where
  pub counts : length p.faint ≡ 16
  pub behind : drop k p.faint ≡ drop k (replicate 16 0)
  pub sums : length p.sums ≡ 16
  pub clock : finite p.time ≡ true
  pub steps : p.steps ≤ made * limit
  pub windows : p.windows ≤ measured
  pub faint : (i : ℕ) → get_or p.faint i 0 ≤ made

-- No run under way has made more windows than this: a warm-up and two sets of measured windows, each within the limit, are fewer.
abbrev pub most : ℕ
most = 4 * limit

-- ---- the end

-- what a run ends with: w windows of n steps, and room for k exponents and the state
pub record Ends (k n w : ℕ) (x es fs : List Float) (p : Progress) : Type 0 where
  pub few : k ≤ 16
  pub steps : n ≤ limit
  pub windows : w ≤ limit
  pub exponents : k ≤ length es
  pub state : length x ≤ length fs
  pub bounded : Bounded k most most p

-- of w windows of the duration D, whatever the directions and the rows are, and wherever those are written
abbrev pub Ended : ℕ → Float → ℕ → List Float → Progress → List Float → List Float → SpectrumEstimate → List Float → List Float → Type 0
Ended k D w x p exponents final r exponents' final' =
    (M : Dynamics) (d : ℕ) (t norms rows : List Float) (a : ℕ) (rs : List Row) → M.duration ≡ D
    → observed (Ok r) (sets rows a (flat_rows rs)) exponents' final' ≡ outputs_from a w rows exponents final (answer M w k rs (ok (run_state d k (held x t norms p))))
