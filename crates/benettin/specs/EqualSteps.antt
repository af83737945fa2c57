-- Document 02, g): a run whose warm-up windows have as many steps as its measured ones is the run as it was defined before, with one count of steps for both. proofs/EqualSteps.antt proves it.
use Rattle.std.specs.Prelude.{ℕ, ◌≡◌, List, [], ◌∷◌, ◌++◌, leb, ltb}
use Rattle.error.specs.Tests.{Test, test}
use Rattle.system_validation.specs.Tests.{dimension_tests, matrix_tests, time_tests, step_size_tests}
use Rattle.benettin.specs.Run.{Problem, run}
use Rattle.benettin.specs.declared.OutputLengths.{OutputLengths}
use Rattle.benettin.specs.Estimate.{Input, limit, state_tests, problem_within}

-- 2 to 11, with 25 behind 8: no test of the steps of a warm-up window
abbrev pub tests_before : ℕ → Input → List Test
tests_before total i =
    step_size_tests i.step_size
    ++ (test (ltb 0 i.steps) 3 0 ∷ test (ltb 0 i.windows) 4 0 ∷ [])
    ++ (test (leb i.steps limit) 5 0 ∷ test (leb total limit) 5 1 ∷ test (leb i.warm_up limit) 5 2 ∷ [])
    ++ time_tests i.time
    ++ dimension_tests i.system
    ++ matrix_tests i.system i.matrix
    ++ state_tests i.system i.state

-- every window has the steps of a measured one
unfoldable pub problem_before : ℕ → Input → Problem
unfolding problem_within
problem_before total i = let P = problem_within total i in record P { warm_up_steps = P.steps; tests = tests_before total i }

abbrev pub EqualSteps : Type 0
EqualSteps = (total : ℕ) (i : Input) (K : ℕ) (o : OutputLengths) → i.warm_up_steps ≡ i.steps → run (problem_within total i) K o ≡ run (problem_before total i) K o
