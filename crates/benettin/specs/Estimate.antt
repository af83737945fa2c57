-- Document 01's run: the settings, the tests 1 to 13, and the values of the parameters of a run. Definitions only.
use Rattle.std.specs.Prelude.{ℕ, Bool, true, false, List, [], ◌∷◌, ◌++◌, leb, ltb, Float}
use Rattle.std.proofs.Math.Option.{Option, none, some, get_or}
use Rattle.error.specs.Tests.{Test, test, first_failing}
use Rattle.error.specs.Refusal.{Answer, value, refused}
use Rattle.error.specs.declared.Refusal.{Refusal}
use Rattle.floats.specs.Arithmetic.{◌⊗◌}
use Rattle.floats.specs.Finite.{first_not_finite}
use Rattle.splitmix64.specs.Mix.{next_state, mix, unit}
use Rattle.system.specs.System.{dim}
use Rattle.system.specs.declared.System.{System}
use Rattle.system_validation.specs.Tests.{dimension_tests, matrix_tests, length_tests, time_tests, step_size_tests}
use Rattle.rk4.specs.Step.{advance}
use Rattle.gram_schmidt.specs.GramSchmidt.{euclidean}
use Rattle.benettin.specs.Run.{Dynamics, Generator, Problem, RunAnswer, as_float, top_k_tests, count_tests, run}
use Rattle.benettin.specs.declared.OutputLengths.{OutputLengths}
use Rattle.benettin.specs.declared.BenettinConfig.{BenettinConfig}

-- what a run is handed, apart from K and the outputs
pub record Input : Type 0 where
  pub system : System
  pub matrix : List Float
  pub step_size : Float
  pub steps : ℕ
  pub windows : ℕ
  pub warm_up : ℕ
  -- the steps of a warm-up window
  pub warm_up_steps : ℕ
  pub seed : ℕ
  pub time : Float
  pub state : List Float

-- ---- the tests

-- the limit of the four counts
abbrev pub limit : ℕ
limit = 16777216

-- 3, 4 and, by document 02, g), 29: a window has steps, there are measured windows, and a warm-up window has steps, also where there is none
abbrev pub nonzero_tests : ℕ → ℕ → ℕ → List Test
nonzero_tests steps windows warm_up_steps = test (ltb 0 steps) 3 0 ∷ test (ltb 0 windows) 4 0 ∷ test (ltb 0 warm_up_steps) 29 0 ∷ []

-- 5, as document 02, b) and g) have it: the first count over the limit, in the order steps, windows, warm-up, steps of a warm-up window. Its place is that of the count in this order
abbrev pub limit_tests : ℕ → ℕ → ℕ → ℕ → List Test
limit_tests steps windows warm_up warm_up_steps =
    test (leb steps limit) 5 0 ∷ test (leb windows limit) 5 1 ∷ test (leb warm_up limit) 5 2 ∷ test (leb warm_up_steps limit) 5 3 ∷ []

-- 1 to 5, with 29 behind 4. A run that goes on makes `later` windows of `total`; any other run has the same count twice
abbrev pub setting_tests : ℕ → Float → ℕ → ℕ → ℕ → ℕ → ℕ → List Test
setting_tests K h steps later total warm_up warm_up_steps =
    top_k_tests K ++ step_size_tests h ++ nonzero_tests steps later warm_up_steps ++ limit_tests steps total warm_up warm_up_steps

abbrev pub is_none : Option ℕ → Bool
is_none none = true
is_none (some p) = false

-- 11: the first entry that is not finite
abbrev pub finite_tests : List Float → List Test
finite_tests x = test (is_none (first_not_finite x)) 11 (get_or (first_not_finite x) 0) ∷ []

-- 10 and 11
abbrev pub state_tests : System → List Float → List Test
state_tests S x = length_tests S x ++ finite_tests x

-- 2 to 11, with 29 behind 4 and 25 behind 8, where the windows of the run are the last of `total`
abbrev pub early_tests : ℕ → Input → List Test
early_tests total i =
    step_size_tests i.step_size
    ++ nonzero_tests i.steps i.windows i.warm_up_steps
    ++ limit_tests i.steps total i.warm_up i.warm_up_steps
    ++ time_tests i.time
    ++ dimension_tests i.system
    ++ matrix_tests i.system i.matrix
    ++ state_tests i.system i.state

-- the same with K, but for 9: 1 to 8, with 29 behind 4 and 25 behind 8, and 10 to 12
abbrev pub set_up_tests : ℕ → Input → ℕ → List Test
set_up_tests total i K = setting_tests K i.step_size i.steps i.windows total i.warm_up i.warm_up_steps ++ time_tests i.time ++ dimension_tests i.system

abbrev pub start_tests : System → List Float → ℕ → List Test
start_tests S x K = state_tests S x ++ count_tests K (dim S)

-- ---- the parameters

unfoldable pub splitmix64 : Generator
splitmix64 = record { next = next_state; draw = λ s. unit (mix s) }

-- measured windows of n steps: D = h * n
unfoldable pub dynamics : System → List Float → Float → ℕ → Dynamics
unfolding advance as_float
dynamics S m h n = record { dim = dim S; advance = λ _ x. advance S m h x; lengths = euclidean; step_size = h; duration = h ⊗ as_float n }

-- the windows of the run are the last of `total`, which nothing but test 5 reads
unfoldable pub problem_within : ℕ → Input → Problem
unfolding dynamics first_not_finite splitmix64
problem_within total i =
    record {
      dynamics = dynamics i.system i.matrix i.step_size i.steps;
      warm_up_steps = i.warm_up_steps;
      steps = i.steps;
      warm_up_windows = i.warm_up;
      windows = i.windows;
      start = i.state;
      time = i.time;
      generator = splitmix64;
      seed = i.seed;
      tests = early_tests total i;
    }

unfoldable pub problem : Input → Problem
unfolding problem_within
problem i = problem_within i.windows i

-- the run for K rates, with outputs of these lengths
unfoldable pub estimate : Input → ℕ → OutputLengths → RunAnswer
unfolding problem run
estimate i K o = run (problem i) K o

-- ---- the settings as the code holds them

abbrev pub default_seed : ℕ
default_seed = 0x4c59_4150_554e_4f56

abbrev pub settings : ℕ → Float → ℕ → ℕ → ℕ → ℕ → ℕ → BenettinConfig
settings K h steps windows warm_up warm_up_steps seed =
    record { top_k = K; step_size = h; steps_per_window = steps; windows = windows; transient_windows = warm_up; steps_per_transient_window = warm_up_steps; seed = seed }

-- their tests 1 to 5, with 29 behind 4; their windows are the last of `total`
abbrev pub config_tests : ℕ → BenettinConfig → List Test
config_tests total c = setting_tests c.top_k c.step_size c.steps_per_window c.windows total c.transient_windows c.steps_per_transient_window

abbrev pub with_warm_up : ℕ → BenettinConfig → BenettinConfig
with_warm_up n c = record c { transient_windows = n }

abbrev pub with_warm_up_steps : ℕ → BenettinConfig → BenettinConfig
with_warm_up_steps n c = record c { steps_per_transient_window = n }

abbrev pub with_seed : ℕ → BenettinConfig → BenettinConfig
with_seed s c = record c { seed = s }

-- building tests 1 to 5, with no warm-up windows, as many steps in one as in a measured window, and the default seed
abbrev pub built : Option Refusal → BenettinConfig → Answer BenettinConfig
built (some r) c = refused r
built none c = value c

unfoldable pub configured : ℕ → Float → ℕ → ℕ → Answer BenettinConfig
unfolding first_failing
configured K h steps windows = let c = settings K h steps windows 0 steps default_seed in built (first_failing (config_tests windows c)) c

abbrev pub input : System → List Float → Float → List Float → BenettinConfig → Input
input S m time x c =
    record {
      system = S;
      matrix = m;
      step_size = c.step_size;
      steps = c.steps_per_window;
      windows = c.windows;
      warm_up = c.transient_windows;
      warm_up_steps = c.steps_per_transient_window;
      seed = c.seed;
      time = time;
      state = x;
    }
