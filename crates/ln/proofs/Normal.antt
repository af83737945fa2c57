-- A normal value's pattern, and the exponent k as a signed number.
use mathlib.Core.Path.{◌≡◌}
use mathlib.Core.Bool.{true, false}
use Prim.Native.Nat.{ℕ, zero, suc, ◌<◌}
use native.Mathlib.Omega.{arith}
use lib.IntN.{pos, ◌-ℤ◌}
use Rattle.std.proofs.lemmas.Int.{ints}
use lib.Dec.{T}
use lib.Ieee.{Float, nan, inf, fin, le, lt}
use lib.Ieee.Fits.{and_l, and_r}
use lib.Ieee.Positive.{above, above_of_le}
use mir.Syntax.{w32}
use mir.Val.{to_z, of_z}
use mir.ValLaws.{to_z-of_z}
use Rattle.floats.proofs.Ordinary.{Ordinary, ordinary}
use Rattle.floats.specs.Arithmetic.{least_normal}
use Rattle.ln.specs.Logarithm.{normal}

under_inf : (z : Float) → T (above z) → T (lt z (inf false)) → Ordinary z
unfolding lt
under_inf nan a h = absurd a
under_inf (inf true) a h = absurd a
under_inf (inf false) a h = absurd h
under_inf (fin true m e) a h = absurd a
under_inf (fin false zero e) a h = absurd a
under_inf (fin false (suc m) e) a h = ordinary m e

pub normal_ordinary : (z : Float) → T (normal z) → Ordinary z
normal_ordinary z h = under_inf z (above_of_le least_normal z tt (and_l (le least_normal z) (lt z (inf false)) h)) (and_r (le least_normal z) (lt z (inf false)) h)

-- ---- n - 1023 for an n below 2048
pub exponent_back : (n : ℕ) → n < 2048 → to_z w32 (of_z w32 (to_z w32 n -ℤ pos 1023)) ≡ pos n -ℤ pos 1023
exponent_back n h = grind (arith, ints, to_z-of_z)
