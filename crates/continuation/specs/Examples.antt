-- Goings on by computation: what their tests count, and what two of them leave, held against the bits that the Rust gives for all windows.
use Rattle.std.specs.Prelude.{ℕ, ◌≡◌, refl, false, List, [], ◌∷◌, map, pos, replicate, Float}
use Rattle.std.proofs.Math.Option.{Option, none, some}
use Rattle.std.specs.Float.{fin, binary64}
use Rattle.std.specs.Float.Ieee.{of_bits, to_bits, add, sub, mul, div, neg, round, of_int, le, lt, eq}
use Rattle.error.specs.Refusal.{refuse, number_of, place_of}
use Rattle.error.specs.Tests.{first_failing}
use Rattle.error.specs.declared.Refusal.{Refusal}
use Rattle.floats.specs.Arithmetic.{whole}
use Rattle.floats.specs.Vector.{dot_from}
use Rattle.sqrt.specs.SquareRoot.{root}
use Rattle.ln.specs.Logarithm.{log}
use Rattle.splitmix64.specs.Mix.{mix, unit}
use Rattle.system.specs.declared.System.TheVariants.{Linear}
use Rattle.benettin.specs.Run.{lengths, run_tests}
use Rattle.benettin.specs.Estimate.{Input, default_seed, problem_within}
use Rattle.benettin.specs.Outputs.{Estimated}
use Rattle.benettin.specs.Examples.{van_der_pol}
use Rattle.continuation.specs.Continuation.{later_tests, went_on}

-- ---- what refuses b windows of van der Pol after a, for one rate, with so many floats for rows

abbrev refused_after : ℕ → ℕ → ℕ → Option Refusal
refused_after a b rows = first_failing (later_tests a (van_der_pol b 1) 1 (lengths rows 4 5))

-- 4 tests the later windows, and 5 all of them
pub tests_4_and_5 : (refused_after 3 0 7 ≡ some (refuse 4 0)) × (refused_after 16777215 1 7 ≡ none) × (refused_after 16777215 2 7 ≡ some (refuse 5 1))
unfolding first_failing run_tests problem_within van_der_pol lt of_int
tests_4_and_5 = (refl, refl, refl)

-- 13 counts the later rows, of three floats each
pub test_13 : (refused_after 7 2 6 ≡ none) × (refused_after 7 2 5 ≡ some (refuse 13 0))
unfolding first_failing run_tests problem_within van_der_pol lt of_int
test_13 = (refl, refl)

-- ---- what is left in outputs that held 9 everywhere

abbrev nines : ℕ → List Float
nines n = replicate n (whole 9)

abbrev floats : List Float → List ℕ
floats = map (to_bits binary64)

-- number and place of what is refused, windows and steps; final and measured time; the outputs
abbrev left_bits : Estimated → List (List ℕ)
left_bits x =
    (number_of x.refusal ∷ place_of x.refusal ∷ x.windows ∷ x.steps ∷ [])
    ∷ floats (x.final_time ∷ x.measured_time ∷ [])
    ∷ floats x.rows
    ∷ floats x.exponents
    ∷ floats x.final_state
    ∷ []

-- van der Pol, a third window after two
pub third_window : left_bits (went_on 2 (van_der_pol 1 1) 1 (nines 4) (nines 1) (nines 2)) ≡
    (0 ∷ 0 ∷ 3 ∷ 8 ∷ [])
    ∷ (0x4018000000000000 ∷ 0x3fe8000000000000 ∷ [])
    ∷ (0x4018000000000000 ∷ 0x3fb4c9b0828a579f ∷ 0xbfd98c0c42cd52a9 ∷ 0x4022000000000000 ∷ [])
    ∷ (0xbfd98c0c42cd52a9 ∷ [])
    ∷ (0x40071b4207d749b0 ∷ 0xbfc902fb0fac8214 ∷ [])
    ∷ []
unfolding went_on van_der_pol root log mix unit dot_from add sub mul div neg round of_int le lt eq to_bits of_bits
third_window = refl

-- x' = 2 ^ 60 * x, which is not finite after five steps of size 1, the first of them a warm-up window
unfoldable pub growing : ℕ → Input
unfolding of_int
growing windows =
    record {
      system = Linear 1;
      matrix = fin false 1 (pos 60) ∷ [];
      step_size = whole 1;
      steps = 1;
      windows = windows;
      warm_up = 1;
      warm_up_steps = 1;
      seed = default_seed;
      time = whole 7;
      state = whole 1 ∷ [];
    }

-- five windows after two: the second of them is refused
pub fourth_refused : left_bits (went_on 2 (growing 5) 1 (nines 15) (nines 1) (nines 1)) ≡
    (16 ∷ 0 ∷ 3 ∷ 4 ∷ [])
    ∷ (0 ∷ 0 ∷ [])
    ∷ (0x4026000000000000 ∷ 0x406465ac31184d9c ∷ 0x406465ac31184d9c ∷ replicate 12 0x4022000000000000)
    ∷ (0x4022000000000000 ∷ [])
    ∷ (0x4022000000000000 ∷ [])
    ∷ []
unfolding went_on growing root log mix unit dot_from add sub mul div neg round of_int le lt eq to_bits of_bits
fourth_refused = refl
