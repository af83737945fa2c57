-- A run whose warm-up windows have as many steps as its measured ones is the run of one count of steps.
use Prim.Native.Nat.{ℕ}
use mathlib.Core.Path.{◌≡◌, refl, ap, ◌∙◌}
use mathlib.Core.Bool.{Bool, true, false, cond}
use mathlib.Core.List.{List, ◌∷◌, ◌++◌}
use mathlib.Core.Option.{Option, none, some}
use lib.Dec.{leb, ltb}
use Rattle.error.specs.Refusal.{refuse}
use Rattle.error.specs.Tests.{Test, test, first_failing}
use Rattle.error.specs.declared.Refusal.{Refusal}
use Rattle.floats.specs.Finite.{positive}
use Rattle.system.specs.System.{dim}
use Rattle.system_validation.specs.Tests.{dimension_tests, matrix_tests, time_tests}
use Rattle.benettin.specs.Run.{Problem, count_tests, output_tests, run_tests, input_tests, run_past, run}
use Rattle.benettin.specs.declared.OutputLengths.{OutputLengths}
use Rattle.benettin.specs.Estimate.{Input, limit, state_tests, dynamics, problem_within}
use Rattle.benettin.specs.EqualSteps.{problem_before, EqualSteps}

-- a test of a count that was tested before refuses nothing
tested_twice : (steps windows within total warm_up : Bool) (ts : List Test)
    → first_failing (test steps 3 0 ∷ test windows 4 0 ∷ test steps 29 0 ∷ test within 5 0 ∷ test total 5 1 ∷ test warm_up 5 2 ∷ test within 5 3 ∷ ts)
    ≡ first_failing (test steps 3 0 ∷ test windows 4 0 ∷ test within 5 0 ∷ test total 5 1 ∷ test warm_up 5 2 ∷ ts)
unfolding first_failing
tested_twice false windows within total warm_up ts = refl
tested_twice true false within total warm_up ts = refl
tested_twice true true false total warm_up ts = refl
tested_twice true true true false warm_up ts = refl
tested_twice true true true true false ts = refl
tested_twice true true true true true ts = refl

module _ (total : ℕ) (i : Input) (K : ℕ) (o : OutputLengths) where
  abbrev P : Problem
  P = problem_before total i

  -- the tests behind those of the counts
  abbrev rest : List Test
  rest =
      ((time_tests i.time ++ dimension_tests i.system ++ matrix_tests i.system i.matrix ++ state_tests i.system i.state) ++ count_tests K (dim i.system))
      ++ output_tests K (dim i.system) i.windows o

  -- the same problem with u steps in a warm-up window
  abbrev with_steps : ℕ → Problem
  with_steps u = problem_within total (record i { warm_up_steps = u })

  tests_same : (u : ℕ) → u ≡ i.steps → first_failing (run_tests (with_steps u) K o) ≡ first_failing (run_tests P K o)
  unfolding run_tests input_tests problem_within problem_before dynamics first_failing
  tests_same u h =
      rw h
      (ap (λ (r : Option Refusal). cond (ltb 0 K) (cond (positive i.step_size) r (some (refuse 2 0))) (some (refuse 1 0)))
      (tested_twice (ltb 0 i.steps) (ltb 0 i.windows) (leb i.steps limit) (leb total limit) (leb i.warm_up limit) rest))

  past_same : (u : ℕ) → u ≡ i.steps → (r : Option Refusal) → run_past r (with_steps u) K ≡ run_past r P K
  unfolding run_past problem_within problem_before
  past_same u h (some r) = refl
  past_same u h none = rw h

  run_same : (u : ℕ) → u ≡ i.steps → run (with_steps u) K o ≡ run P K o
  unfolding run
  run_same u h = ap (λ (r : Option Refusal). run_past r (with_steps u) K) (tests_same u h) ∙ past_same u h (first_failing (run_tests P K o))

pub equal_steps : EqualSteps
equal_steps total i K o h = run_same total i K o i.warm_up_steps h
