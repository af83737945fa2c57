-- Document 01's marked examples of the logarithm, and the split and the logarithm of two more values.
use Rattle.std.specs.Prelude.{◌≡◌, refl, false, pos, negsuc}
use Rattle.std.specs.Float.{fin, binary64}
use Rattle.std.specs.Float.Ieee.{to_bits, of_int, add, sub, mul, div, le, lt, of_bits}
use Rattle.error.specs.Refusal.{value, refused, refuse}
use Rattle.floats.specs.Arithmetic.{bits, whole, zero⁺, one, two}
use Rattle.ln.specs.Logarithm.{significand, power, log, logarithm}

abbrev pub Marked : Type 0
Marked =
    (log one ≡ zero⁺) × (to_bits binary64 (log two) ≡ 0x3fe62e42fefa39ef)

pub marked : Marked
unfolding log of_bits to_bits of_int add sub mul div
marked = (refl, refl)

-- 5 is 1.25 * 2 ^ 2, and 6 is 0.75 * 2 ^ 3
pub split : (significand (whole 5) ≡ fin false 5 (negsuc 1)) × (power (whole 5) ≡ pos 2) × (significand (whole 6) ≡ fin false 3 (negsuc 1)) × (power (whole 6) ≡ pos 3)
unfolding significand power to_bits of_bits of_int
split = (refl, refl, refl, refl)

-- 24 at 0 and at half the least normal value
pub six : (logarithm (whole 6) ≡ value (bits 0x3ffc_ab0b_fa2a_2002)) × (logarithm zero⁺ ≡ refused (refuse 24 0)) × (logarithm (fin false 1 (negsuc 1022)) ≡ refused (refuse 24 0))
unfolding log of_bits to_bits of_int add sub mul div le lt
six = (refl, refl, refl)
