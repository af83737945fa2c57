-- Pairs of runs by computation, held against the bits that the Rust gives: demand 3, where the runs agree. They stand here and not in crate benettin, whose edits are checked without them.
use Rattle.std.specs.Prelude.{ℕ, ◌≡◌, refl, List, [], ◌∷◌}
use Rattle.std.specs.Float.Ieee.{of_bits, to_bits, add, sub, mul, div, neg, round, of_int, le, lt, eq}
use Rattle.floats.specs.Arithmetic.{bits, whole}
use Rattle.floats.specs.Vector.{dot_from}
use Rattle.sqrt.specs.SquareRoot.{root}
use Rattle.ln.specs.Logarithm.{log}
use Rattle.splitmix64.specs.Mix.{mix, unit}
use Rattle.system.specs.declared.System.TheVariants.{Lorenz}
use Rattle.benettin.specs.Run.{RunAnswer, lengths}
use Rattle.benettin.specs.Estimate.{Input, estimate, default_seed}
use Rattle.benettin.specs.LeadingSpectrum.{leading}
use Rattle.benettin.specs.Examples.{answer_bits, ring_of}

-- ---- Lorenz, one warm-up window and two measured ones of three steps

unfoldable pub lorenz : Input
unfolding of_int of_bits
lorenz =
    record {
      system = Lorenz (whole 10) (whole 28) (bits 0x4005555555555555);
      matrix = [];
      step_size = bits 0x3f847ae147ae147b;
      steps = 3;
      windows = 2;
      warm_up = 1;
      warm_up_steps = 3;
      seed = default_seed;
      time = whole 5;
      state = whole 1 ∷ whole 2 ∷ whole 4 ∷ [];
    }

-- the run for three rates, and the same with the third direction struck out
abbrev shown : RunAnswer → List (List (List ℕ))
shown a = answer_bits a ∷ answer_bits (leading 2 a) ∷ []

abbrev three_rates : List (List ℕ)
three_rates =
    (0x40143d70a3d70a3c ∷ 0x40232787ab202897 ∷ 0xc011ac018143a4f7 ∷ 0xc032d34eddab0473 ∷ 0x40232787ab202897 ∷ 0xc011ac018143a4f7 ∷ 0xc032d34eddab0473 ∷ [])
    ∷ (0x40145c28f5c28f5a ∷ 0x4024de29398383ab ∷ 0xc00b258e8b845b22 ∷ 0xc034b4edce16c470 ∷ 0x402402d87251d621 ∷ 0xc00f3ec8c705d289 ∷ 0xc033c41e55e0e472 ∷ [])
    ∷ (0x402402d87251d621 ∷ 0xc00f3ec8c705d289 ∷ 0xc033c41e55e0e472 ∷ [])
    ∷ (0x4004886c2bea2dcd ∷ 0x40153f3ee778e4eb ∷ 0x400d2e7d6d94e851 ∷ [])
    ∷ (0x40145c28f5c28f5a ∷ 0x3faeb851eb851eb8 ∷ [])
    ∷ (0 ∷ 0 ∷ 0 ∷ []) ∷ (9 ∷ []) ∷ []

abbrev two_rates : List (List ℕ)
two_rates =
    (0x40143d70a3d70a3c ∷ 0x40232787ab202897 ∷ 0xc011ac018143a4f7 ∷ 0x40232787ab202897 ∷ 0xc011ac018143a4f7 ∷ [])
    ∷ (0x40145c28f5c28f5a ∷ 0x4024de29398383ab ∷ 0xc00b258e8b845b22 ∷ 0x402402d87251d621 ∷ 0xc00f3ec8c705d289 ∷ [])
    ∷ (0x402402d87251d621 ∷ 0xc00f3ec8c705d289 ∷ [])
    ∷ (0x4004886c2bea2dcd ∷ 0x40153f3ee778e4eb ∷ 0x400d2e7d6d94e851 ∷ [])
    ∷ (0x40145c28f5c28f5a ∷ 0x3faeb851eb851eb8 ∷ [])
    ∷ (0 ∷ 0 ∷ []) ∷ (9 ∷ []) ∷ []

pub lorenz_3 : shown (estimate lorenz 3 (lengths 14 3 3)) ≡ three_rates ∷ two_rates ∷ []
unfolding estimate lorenz root log mix unit dot_from add sub mul div neg round of_int le lt eq to_bits of_bits
lorenz_3 = refl

-- the run for two rates: demand 3, where the runs agree
pub lorenz_2 : answer_bits (estimate lorenz 2 (lengths 10 2 3)) ≡ two_rates
unfolding estimate lorenz root log mix unit dot_from add sub mul div neg round of_int le lt eq to_bits of_bits
lorenz_2 = refl

-- ---- a ring of four cells, one window of one step: demand 3 for K below the number of cells and K at it

abbrev ring_two_rates : List (List ℕ)
ring_two_rates =
    (0x40140a3d70a3d70a ∷ 0xc0001b58c231e801 ∷ 0xbfd3134af080b584 ∷ 0xc0001b58c231e801 ∷ 0xbfd3134af080b584 ∷ [])
    ∷ (0xc0001b58c231e801 ∷ 0xbfd3134af080b584 ∷ [])
    ∷ (0x3ff027c50964fbf6 ∷ 0x40008f7a670b5a38 ∷ 0x401052378c9e3c3a ∷ 0x400811114fde895b ∷ [])
    ∷ (0x40140a3d70a3d70a ∷ 0x3f847ae147ae147b ∷ [])
    ∷ (0 ∷ 0 ∷ []) ∷ (1 ∷ []) ∷ []

-- the run for all four rates, with the last two struck out
pub ring_4 : answer_bits (leading 2 (estimate (ring_of 4) 4 (lengths 9 4 4))) ≡ ring_two_rates
unfolding estimate ring_of root log mix unit dot_from add sub mul div neg round of_int le lt eq to_bits of_bits
ring_4 = refl

-- the run for two rates
pub ring_2 : answer_bits (estimate (ring_of 4) 2 (lengths 5 2 4)) ≡ ring_two_rates
unfolding estimate ring_of root log mix unit dot_from add sub mul div neg round of_int le lt eq to_bits of_bits
ring_2 = refl
