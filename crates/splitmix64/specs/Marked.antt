-- Document 01's marked examples of the draw, for n = 0, 2 ^ 52 and 2 ^ 53 - 1, a published output, and a draw.
use Rattle.std.specs.Prelude.{◌≡◌, ◌-◌, ◌*◌, ◌^◌, true, false, pos, negsuc, refl}
use Rattle.std.specs.Float.{fin}
use Rattle.std.specs.Float.Ieee.{round}
use Rattle.splitmix64.specs.Mix.{mix, next_state, unit, generator, symmetric_unit}

abbrev pub Marked : Type 0
Marked =
    (unit 0 ≡ fin true 1 (pos 0)) × (unit (2 ^ 52 * 2 ^ 11) ≡ fin false 0 (pos 0)) × (unit ((2 ^ 53 - 1) * 2 ^ 11) ≡ fin false (2 ^ 52 - 1) (negsuc 51))

pub marked : Marked
unfolding unit round
marked = (refl, refl, refl)

-- the first published output for the state 1234567
pub published : mix (next_state 1234567) ≡ 6457827717110365317
unfolding mix
published = refl

-- the state wraps, and the draw of that output is -1350363437375201 / 2 ^ 52
pub drawn : (next_state (2 ^ 64 - 1) ≡ 0x9e37_79b9_7f4a_7c14)
    × (symmetric_unit (generator 1234567) ≡ (generator 0x9e37_79b9_7f5d_529c, fin true 1350363437375201 (negsuc 51)))
unfolding mix unit round
drawn = (refl, refl)
