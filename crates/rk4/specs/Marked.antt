-- Document 01's marked step, a Lorenz step with two directions, and two refusals, by computation.
use Rattle.std.specs.Prelude.{◌≡◌, refl, false, [], ◌∷◌}
use Rattle.std.proofs.Math.Option.{none, some}
use Rattle.std.specs.Float.{inf}
use Rattle.std.specs.Float.Ieee.{of_bits, of_int, add, sub, mul, div, neg, lt}
use Rattle.error.specs.Refusal.{refuse}
use Rattle.error.specs.Tests.{first_failing}
use Rattle.floats.specs.Arithmetic.{bits, whole, minus, zero⁺, one, six}
use Rattle.floats.specs.Finite.{first_not_finite}
use Rattle.floats.specs.Vector.{dot_from, chunks, concat}
use Rattle.matrix.specs.Matrix.{times}
use Rattle.stepper.specs.Stepper.{entrywise, derivatives, stage_points, moved, advance_by, rk4}
use Rattle.system.specs.System.{field, tangent}
use Rattle.system.specs.declared.System.TheVariants.{Lorenz, Linear}
use Rattle.rk4.specs.Step.{advance, advanced, stepped}

-- Linear(1), matrix 1, h 6, state 1 steps to 115
abbrev pub Marked : Type 0
Marked =
    stepped (Linear 1) (one ∷ []) zero⁺ (one ∷ []) [] 0 six ≡ record { refusal = none; state = bits 0x405c_c000_0000_0000 ∷ []; tangents = [] }

pub marked : Marked
unfolding stepped advanced advance first_failing first_not_finite field times chunks concat dot_from advance_by moved stage_points derivatives rk4 entrywise add mul div lt of_bits
marked = refl

-- σ 10, ρ 28, β 8/3, h 0.01, state 1, 3, 6 and the directions 2, 7, 11 and 5, -4, 13
pub lorenz : stepped (Lorenz (whole 10) (whole 28) (bits 0x4005_5555_5555_5555)) [] zero⁺ (whole 1 ∷ whole 3 ∷ whole 6 ∷ []) (whole 2 ∷ whole 7 ∷ whole 11 ∷ whole 5 ∷ minus 4 ∷ whole 13 ∷ []) 2 (bits 0x3f84_7ae1_47ae_147b)
    ≡ record {
      refusal = none;
      state = bits 0x3ff3_341a_40e7_2c7a ∷ bits 0x4009_b18d_e89d_ad1a ∷ bits 0x4017_80dc_c83c_c0ff ∷ [];
      tangents = bits 0x4003_eb29_fc75_2f19 ∷ bits 0x401d_3763_943e_242c ∷ bits 0x4025_b6d3_ee6f_5017 ∷ bits 0x4010_c172_beb8_77f7 ∷ bits 0xc008_c46e_8322_164e ∷ bits 0x4029_8501_8798_84fe ∷ [];
    }
unfolding stepped advanced advance first_failing first_not_finite field tangent chunks concat advance_by moved stage_points derivatives rk4 entrywise add sub mul div lt neg of_int of_bits
lorenz = refl

-- 10 and 2 fail at the same time, and nothing changes; the second direction overflows, and both slices hold the new values
pub refusals : (stepped (Linear 2) (whole 2 ∷ whole 3 ∷ whole 5 ∷ whole 7 ∷ []) zero⁺ (whole 11 ∷ []) (whole 13 ∷ whole 17 ∷ []) 1 (minus 19) ≡ record { refusal = some (refuse 10 0); state = whole 11 ∷ []; tangents = whole 13 ∷ whole 17 ∷ [] })
    × (stepped (Linear 1) (bits 0x7fe1_ccf3_85eb_c8a0 ∷ []) one (zero⁺ ∷ []) (zero⁺ ∷ whole 3 ∷ []) 2 six ≡ record { refusal = some (refuse 17 1); state = zero⁺ ∷ []; tangents = zero⁺ ∷ inf false ∷ [] })
unfolding stepped advanced advance first_failing first_not_finite field tangent times chunks concat dot_from advance_by moved stage_points derivatives rk4 entrywise add mul div lt neg of_int of_bits
refusals = (refl, refl)
