-- Small runs and settings by computation, held against the bits that the Rust gives. Crate estimator has the pairs of runs that take longer.
use Rattle.std.specs.Prelude.{ℕ, ◌+◌, ◌≡◌, refl, false, List, [], ◌∷◌, ◌++◌, map, pos, negsuc}
use Rattle.std.proofs.Math.Option.{Option, none, some}
use Rattle.std.specs.Float.{fin, binary64}
use Rattle.std.specs.Float.Ieee.{of_bits, to_bits, add, sub, mul, div, neg, round, of_int, le, lt, eq}
use Rattle.error.specs.Refusal.{value, refused, refuse, refusal_in}
use Rattle.error.specs.Tests.{first_failing}
use Rattle.error.specs.declared.Refusal.{Refusal}
use Rattle.floats.specs.Arithmetic.{bits, half, whole}
use Rattle.floats.specs.Vector.{dot_from, zip}
use Rattle.sqrt.specs.SquareRoot.{root}
use Rattle.ln.specs.Logarithm.{log}
use Rattle.splitmix64.specs.Mix.{mix, unit}
use Rattle.system.specs.declared.System.TheVariants.{VanDerPol, Linear, Lorenz96}
use Rattle.benettin.specs.Run.{RunAnswer, ended, stopped, Row, lengths, faint_or_not}
use Rattle.gram_schmidt.specs.GramSchmidt.{euclidean}
use Rattle.benettin.specs.Estimate.{Input, limit, limit_tests, setting_tests, estimate, default_seed, configured, with_warm_up, with_warm_up_steps, with_seed}
use Rattle.benettin.specs.declared.BenettinConfig.{BenettinConfig}

abbrev row_bits : Row → List ℕ
row_bits r = to_bits binary64 r.end_time ∷ map (to_bits binary64) r.locals ++ map (to_bits binary64) r.runnings

-- rows, exponents, final state, final and measured time, faint counts and steps; or the rows, then number, place, finished windows and steps, and faint counts
abbrev pub answer_bits : RunAnswer → List (List ℕ)
answer_bits (ended rows x) =
    map row_bits rows
    ++ (map (to_bits binary64) x.exponents
    ∷ map (to_bits binary64) x.state
    ∷ (to_bits binary64 x.final_time ∷ to_bits binary64 x.measured_time ∷ [])
    ∷ x.faint
    ∷ (x.steps ∷ [])
    ∷ [])
answer_bits (stopped rows r f) = map row_bits rows ++ ((r.number ∷ r.place ∷ r.finished ∷ r.steps ∷ []) ∷ f ∷ [])

-- ---- van der Pol, one warm-up window and two measured ones of two steps

unfoldable pub van_der_pol : ℕ → ℕ → Input
unfolding of_int
van_der_pol windows warm_up =
    record {
      system = VanDerPol (whole 2);
      matrix = [];
      step_size = fin false 1 (negsuc 2);
      steps = 2;
      windows = windows;
      warm_up = warm_up;
      warm_up_steps = 2;
      seed = default_seed;
      time = whole 5;
      state = whole 3 ∷ whole 1 ∷ [];
    }

pub van_der_pol_1 : answer_bits (estimate (van_der_pol 2 1) 1 (lengths 6 1 2)) ≡
    (0x4016000000000000 ∷ 0xbff4a962d1ebe792 ∷ 0xbff4a962d1ebe792 ∷ [])
    ∷ (0x4017000000000000 ∷ 0x3f89df4bd4a20c74 ∷ 0xbfe475a43a42a379 ∷ [])
    ∷ (0xbfe475a43a42a379 ∷ [])
    ∷ (0x40077e21542276ed ∷ 0xbfc8495b6dc33179 ∷ [])
    ∷ (0x4017000000000000 ∷ 0x3fe0000000000000 ∷ [])
    ∷ (0 ∷ []) ∷ (6 ∷ []) ∷ []
unfolding estimate van_der_pol root log mix unit dot_from add sub mul div neg round of_int le lt eq to_bits of_bits
van_der_pol_1 = refl

-- the same with five steps in the warm-up window, held against the bits that host/model gives: the Rust has no such run
pub van_der_pol_settled : answer_bits (estimate (record (van_der_pol 2 1) { warm_up_steps = 5 }) 1 (lengths 6 1 2)) ≡
    (0x4017800000000000 ∷ 0x3fb1e307cb39d317 ∷ 0x3fb1e307cb39d317 ∷ [])
    ∷ (0x4018800000000000 ∷ 0x3fb5bdc3ed90abc9 ∷ 0x3fb3d065dc653f70 ∷ [])
    ∷ (0x3fb3d065dc653f70 ∷ [])
    ∷ (0x4006e8f16576e55e ∷ 0xbfc94b78c4cdd1bf ∷ [])
    ∷ (0x4018800000000000 ∷ 0x3fe0000000000000 ∷ [])
    ∷ (0 ∷ []) ∷ (9 ∷ []) ∷ []
unfolding estimate van_der_pol root log mix unit dot_from add sub mul div neg round of_int le lt eq to_bits of_bits
van_der_pol_settled = refl

-- rows one float short
pub van_der_pol_short : answer_bits (estimate (van_der_pol 2 1) 1 (lengths 5 1 2)) ≡ (13 ∷ 0 ∷ 0 ∷ 0 ∷ []) ∷ (0 ∷ []) ∷ []
unfolding estimate van_der_pol root log mix unit dot_from add sub mul div neg round of_int le lt eq to_bits of_bits
van_der_pol_short = refl

-- ---- rings: no cells are refused by 7, 17 by 8 and 3 by 25, before the state, which has another length

unfoldable pub ring_of : ℕ → Input
unfolding of_int of_bits
ring_of n =
    record {
      system = Lorenz96 n (whole 8);
      matrix = [];
      step_size = bits 0x3f847ae147ae147b;
      steps = 1;
      windows = 1;
      warm_up = 0;
      warm_up_steps = 1;
      seed = default_seed;
      time = whole 5;
      state = whole 1 ∷ whole 2 ∷ whole 4 ∷ whole 3 ∷ [];
    }

abbrev refused_by : ℕ → List (List ℕ)
refused_by number = (number ∷ 0 ∷ 0 ∷ 0 ∷ []) ∷ (0 ∷ 0 ∷ []) ∷ []

pub ring_refused : (answer_bits (estimate (ring_of 0) 2 (lengths 5 2 4)) ≡ refused_by 7)
    × (answer_bits (estimate (ring_of 17) 2 (lengths 5 2 4)) ≡ refused_by 8)
    × (answer_bits (estimate (ring_of 3) 2 (lengths 5 2 4)) ≡ refused_by 25)
    × (answer_bits (estimate (ring_of 5) 2 (lengths 5 2 4)) ≡ refused_by 10)
unfolding estimate ring_of lt of_bits of_int
ring_refused = (refl, refl, refl, refl)

-- ---- a shear whose second direction collapses in the first window: demand 3, where the runs differ

unfoldable pub shear : Input
unfolding of_int
shear =
    record {
      system = Linear 2;
      matrix = whole 0 ∷ fin false 1 (pos 400) ∷ whole 0 ∷ whole 0 ∷ [];
      step_size = whole 6;
      steps = 1;
      windows = 1;
      warm_up = 0;
      warm_up_steps = 1;
      seed = 2;
      time = whole 0;
      state = whole 0 ∷ whole 0 ∷ [];
    }

pub shear_2 : answer_bits (estimate shear 2 (lengths 5 2 2)) ≡ (14 ∷ 1 ∷ 0 ∷ 1 ∷ []) ∷ (0 ∷ 0 ∷ []) ∷ []
unfolding estimate shear root log mix unit dot_from add sub mul div neg round of_int le lt eq to_bits of_bits
shear_2 = refl

pub shear_1 : answer_bits (estimate shear 1 (lengths 3 1 2)) ≡
    (0x4018000000000000 ∷ 0x40473fbd3b2d77cd ∷ 0x40473fbd3b2d77cd ∷ []) ∷ (0x40473fbd3b2d77cd ∷ []) ∷ (0 ∷ 0 ∷ []) ∷ (0x4018000000000000 ∷ 0x4018000000000000 ∷ []) ∷ (0 ∷ []) ∷ (1 ∷ []) ∷ []
unfolding estimate shear root log mix unit dot_from add sub mul div neg round of_int le lt eq to_bits of_bits
shear_1 = refl

-- ---- faint counts: 2 ^ -961 is below the mark, 2 ^ -960 is not

pub faint_at : zip (faint_or_not euclidean) (3 ∷ 5 ∷ []) (fin false 1 (negsuc 960) ∷ fin false 1 (negsuc 959) ∷ []) ≡ 4 ∷ 5 ∷ []
unfolding zip lt
faint_at = refl

-- ---- settings

abbrev built_settings : BenettinConfig
built_settings = record { top_k = 3; step_size = half; steps_per_window = 10; windows = 200; transient_windows = 0; steps_per_transient_window = 10; seed = 0x4c59_4150_554e_4f56 }

-- K 3, h 0.5, 10 steps, 200 windows; then a count at its limit and one above it
pub settings_built : (configured 3 half 10 200 ≡ value built_settings)
    × (refusal_in (configured 3 half 16777216 200) ≡ none) × (configured 3 half 10 16777217 ≡ refused (refuse 5 1)) × (configured 0 half 0 0 ≡ refused (refuse 1 0))
unfolding configured first_failing lt
settings_built = (refl, refl, refl, refl)

-- each combination of counts at the limit and one above it
abbrev over : ℕ → ℕ → ℕ → ℕ → Option Refusal
over steps windows warm_up warm_up_steps = first_failing (limit_tests (limit + steps) (limit + windows) (limit + warm_up) (limit + warm_up_steps))

abbrev over_at : ℕ → Option Refusal
over_at place = some (refuse 5 place)

pub first_over : (over 0 0 0 0 ≡ none) × (over 0 0 0 1 ≡ over_at 3) × (over 0 0 1 0 ≡ over_at 2) × (over 0 0 1 1 ≡ over_at 2)
    × (over 0 1 0 0 ≡ over_at 1) × (over 0 1 0 1 ≡ over_at 1) × (over 0 1 1 0 ≡ over_at 1) × (over 0 1 1 1 ≡ over_at 1)
    × (over 1 0 0 0 ≡ over_at 0) × (over 1 0 0 1 ≡ over_at 0) × (over 1 0 1 0 ≡ over_at 0) × (over 1 0 1 1 ≡ over_at 0)
    × (over 1 1 0 0 ≡ over_at 0) × (over 1 1 0 1 ≡ over_at 0) × (over 1 1 1 0 ≡ over_at 0) × (over 1 1 1 1 ≡ over_at 0)
unfolding first_failing
first_over = (refl, refl, refl, refl, refl, refl, refl, refl, refl, refl, refl, refl, refl, refl, refl, refl)

-- 29 behind 3 and 4, and before 5, also without warm-up windows
abbrev settled : ℕ → ℕ → ℕ → ℕ → Option Refusal
settled steps windows warm_up warm_up_steps = first_failing (setting_tests 1 half steps windows windows warm_up warm_up_steps)

pub no_warm_up_steps : (settled 7 3 2 0 ≡ some (refuse 29 0)) × (settled 7 3 0 0 ≡ some (refuse 29 0)) × (settled 0 3 2 0 ≡ some (refuse 3 0)) × (settled 7 0 2 0 ≡ some (refuse 4 0))
    × (settled 16777217 3 2 0 ≡ some (refuse 29 0)) × (settled 7 3 16777217 0 ≡ some (refuse 29 0)) × (settled 7 3 2 16777217 ≡ some (refuse 5 3)) × (settled 7 3 0 16777216 ≡ none)
unfolding first_failing lt
no_warm_up_steps = (refl, refl, refl, refl, refl, refl, refl, refl)

-- a run with windows and warm-up windows over, and building with steps and windows over
pub run_over : answer_bits (estimate (van_der_pol (limit + 1) (limit + 1)) 1 (lengths 6 1 2)) ≡ (5 ∷ 1 ∷ 0 ∷ 0 ∷ []) ∷ (0 ∷ []) ∷ []
unfolding estimate van_der_pol lt of_int
run_over = refl

pub build_over : configured 3 half (limit + 1) (limit + 1) ≡ refused (refuse 5 0)
unfolding configured first_failing lt
build_over = refl

pub settings_changed :
    (with_warm_up 7 built_settings ≡ record { top_k = 3; step_size = half; steps_per_window = 10; windows = 200; transient_windows = 7; steps_per_transient_window = 10; seed = 0x4c59_4150_554e_4f56 })
    × (with_warm_up_steps 11 built_settings ≡ record { top_k = 3; step_size = half; steps_per_window = 10; windows = 200; transient_windows = 0; steps_per_transient_window = 11; seed = 0x4c59_4150_554e_4f56 })
    × (with_seed 9 built_settings ≡ record { top_k = 3; step_size = half; steps_per_window = 10; windows = 200; transient_windows = 0; steps_per_transient_window = 10; seed = 9 })
settings_changed = (refl, refl, refl)
