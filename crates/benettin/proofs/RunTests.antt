-- The tests of a run by their blocks, and what is known once all are passed.
use Prim.Native.Nat.{ℕ, ◌+◌, ◌*◌, ◌≤◌, ◌<◌}
use native.Mathlib.Omega.{arith}
use mathlib.Core.Path.{◌≡◌, refl}
use mathlib.Core.Bool.{true}
use mathlib.Core.List.{List, ◌∷◌, ◌++◌}
use mathlib.Core.Option.{Option, none, some, get_or}
use borrow.Author.Tests.{ltb-true, leb-true}
use lib.ListN.{length}
use lib.Ieee.{Float}
use lib.Ieee.Scale.{finite}
use Rattle.error.specs.Tests.{Test, test, first_failing}
use Rattle.error.proofs.Tests.{passed, both_passed}
use Rattle.floats.specs.Finite.{positive, first_not_finite}
use Rattle.system.specs.System.{dim, cells_fit}
use Rattle.system.specs.declared.System.{System}
use Rattle.system_validation.specs.Tests.{matrix_tests, time_tests}
use Rattle.system_validation.proofs.Tests.{dimension_passed, matrix_passed, length_passed, time_passed}
use Rattle.benettin.specs.Run.{count_tests, output_tests, input_tests, run_tests}
use Rattle.benettin.specs.declared.BenettinConfig.{BenettinConfig}
use Rattle.benettin.specs.declared.OutputLengths.{OutputLengths}
use Rattle.benettin.specs.Estimate.{Input, limit, setting_tests, config_tests, is_none, state_tests, set_up_tests, start_tests, problem_within, dynamics}
use Rattle.benettin.specs.Validation.{Ready}

-- ---- what passing a block gives

module _ (K : ℕ) (h : Float) (steps later total warm_up warm_up_steps : ℕ) where
  pub settings_passed : none ≡ first_failing (setting_tests K h steps later total warm_up warm_up_steps)
      → (0 < K) × (positive h ≡ true) × (0 < steps) × (0 < later) × (steps ≤ limit) × (total ≤ limit) × (warm_up ≤ limit) × (warm_up_steps ≤ limit)
  settings_passed e₁ =
      let p₁ = passed _ _ e₁ in
      let p₂ = passed _ _ p₁.1 in
      let p₃ = passed _ _ p₂.1 in
      let p₄ = passed _ _ p₃.1 in
      let p₅ = passed _ _ p₄.1 in
      let q₀ = passed _ _ p₅.1 in
      let q₁ = passed _ _ q₀.1 in
      let q₂ = passed _ _ q₁.1 in
      let q₃ = passed _ _ q₂.1 in (
        ltb-true 0 K p₁.0,
        p₂.0,
        ltb-true 0 steps p₃.0,
        ltb-true 0 later p₄.0,
        leb-true steps limit q₀.0,
        leb-true total limit q₁.0,
        leb-true warm_up limit q₂.0,
        leb-true warm_up_steps limit q₃.0,
      )

-- of settings as the code holds them
pub config_passed : (total : ℕ) (c : BenettinConfig) → none ≡ first_failing (config_tests total c)
    → (0 < c.top_k) × (positive c.step_size ≡ true) × (0 < c.steps_per_window) × (0 < c.windows) × (c.steps_per_window ≤ limit) × (total ≤ limit) × (c.transient_windows ≤ limit) × (c.steps_per_transient_window ≤ limit)
config_passed total c = settings_passed c.top_k c.step_size c.steps_per_window c.windows total c.transient_windows c.steps_per_transient_window

finite_passed : (o : Option ℕ) (ts : List Test) → none ≡ first_failing (test (is_none o) 11 (get_or o 0) ∷ ts) → o ≡ none
finite_passed none ts e = refl
finite_passed (some i) ts e = let p = passed _ _ e in let z : ◌≡◌ {A = ℕ} 0 1 = cc in absurd (omega arith)

pub state_passed : (S : System) (x : List Float) → none ≡ first_failing (state_tests S x) → (length x ≡ dim S) × (first_not_finite x ≡ none)
state_passed S x e = let p = both_passed _ _ e in (length_passed S x p.0, finite_passed _ _ p.1)

pub count_passed : (K d : ℕ) → none ≡ first_failing (count_tests K d) → K ≤ d
count_passed K d e = leb-true K d (passed _ _ e).0

-- 10 to 12
pub start_passed : (S : System) (x : List Float) (K : ℕ) → none ≡ first_failing (start_tests S x K) → (length x ≡ dim S) × (K ≤ dim S)
start_passed S x K e = let f = both_passed (state_tests S x) _ e in ((state_passed S x f.0).0, count_passed K (dim S) f.1)

module _ (K d windows : ℕ) (o : OutputLengths) where
  pub outputs_passed : none ≡ first_failing (output_tests K d windows o) → (windows * (1 + 2 * K) ≤ o.rows) × (K ≤ o.exponents) × (d ≤ o.state)
  outputs_passed e =
      let q₀ = passed _ _ e in
      let q₁ = passed _ _ q₀.1 in
      (leb-true (windows * (1 + 2 * K)) o.rows q₀.0, leb-true K o.exponents q₁.0, leb-true d o.state (passed _ _ q₁.1).0)

-- ---- all of them

-- what 1 to 8, with 25 and 29, give
pub record SetUp (total : ℕ) (i : Input) (K : ℕ) : Type 0 where
  pub dimension_above : 0 < dim i.system
  pub dimension_within : dim i.system ≤ 16
  pub cells : cells_fit i.system ≡ true
  pub step_size : positive i.step_size ≡ true
  pub clock : finite i.time ≡ true
  pub windows : 0 < i.windows
  pub steps_limit : i.steps ≤ limit
  pub windows_limit : total ≤ limit
  pub warm_up_limit : i.warm_up ≤ limit
  pub warm_up_steps_limit : i.warm_up_steps ≤ limit

module _ (total : ℕ) (i : Input) (K : ℕ) where
  abbrev input_blocks : List Test
  input_blocks = set_up_tests total i K ++ matrix_tests i.system i.matrix ++ start_tests i.system i.state K

  pub input_by_blocks : input_tests (problem_within total i) K ≡ input_blocks
  unfolding input_tests problem_within dynamics
  input_by_blocks = refl

  pub set_up : none ≡ first_failing (set_up_tests total i K) → SetUp total i K
  set_up e =
      let a = both_passed (setting_tests K i.step_size i.steps i.windows total i.warm_up i.warm_up_steps) _ e in
      let b = both_passed (time_tests i.time) _ a.1 in
      let settings = settings_passed K i.step_size i.steps i.windows total i.warm_up i.warm_up_steps a.0 in
      let dimension = dimension_passed i.system b.1 in
      record {
        dimension_above = dimension.0;
        dimension_within = dimension.1;
        cells = dimension.2;
        step_size = settings.1;
        clock = time_passed i.time b.0;
        windows = settings.3;
        steps_limit = settings.4;
        windows_limit = settings.5;
        warm_up_limit = settings.6;
        warm_up_steps_limit = settings.7;
      }

  pub ready : (o : OutputLengths) → none ≡ first_failing (run_tests (problem_within total i) K o) → Ready total i K o
  unfolding run_tests input_tests problem_within dynamics
  ready o e =
      let q = both_passed input_blocks (output_tests K (dim i.system) i.windows o) e in
      let a = both_passed (set_up_tests total i K) _ q.0 in
      let d = both_passed (matrix_tests i.system i.matrix) _ a.1 in
      let s = set_up a.0 in
      let start = start_passed i.system i.state K d.1 in
      let outputs = outputs_passed K (dim i.system) i.windows o q.1 in
      record {
        step =
            record {
              dimension_above = s.dimension_above;
              dimension_within = s.dimension_within;
              cells = s.cells;
              matrix = matrix_passed i.system i.matrix d.0;
              state = start.0;
              count = omega (arith, start.1, s.dimension_within);
              step_size = s.step_size;
            };
        clock = s.clock;
        directions = start.1;
        steps_limit = s.steps_limit;
        windows_limit = s.windows_limit;
        warm_up_limit = s.warm_up_limit;
        warm_up_steps_limit = s.warm_up_steps_limit;
        rows = outputs.0;
        exponents = outputs.1;
        state = outputs.2;
      }
