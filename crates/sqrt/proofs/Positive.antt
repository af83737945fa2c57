-- The root of a finite value above zero is finite and above 2 ^ -1022, the least normal value.
use mathlib.Core.Path.{refl}
use mathlib.Core.Bool.{true, false}
use Prim.Native.Nat.{zero, suc, ◌*◌, ◌^◌}
use native.Mathlib.Nat.{lt_of_lt_of_le}
use native.Mathlib.Omega.{arith}
use lib.Dec.{T, ltb→lt, lit<}
use lib.Ieee.{Float, nan, inf, fin, binary64, up, down, fits, lt}
use lib.Ieee.Scale.{finite}
use Rattle.floats.specs.Finite.{positive}
use Rattle.sqrt.specs.SquareRoot.{root}
use Rattle.sqrt.specs.OneRoot.{RootOfPositive}
use Rattle.floats.proofs.Units.{units→lt, value_finite}
use Rattle.sqrt.proofs.Meets.{root_value}
use Rattle.floats.specs.Arithmetic.{least_normal}
use Rattle.floats.proofs.Ordinary.{Ordinary, ordinary}

pub root_large : {x : Float} → T (fits binary64 x) → Ordinary x → T (lt least_normal (root x)) × T (finite (root x))
root_large f (ordinary m e) =
    let v = root_value m e f in
    let r = root (fin false (suc m) e) in
    (units→lt least_normal r (2 ^ 52) v.0 (refl, refl) v.2 (lt_of_lt_of_le (lit< {m = 2 ^ 52} {n = 2 ^ 537} tt) v.1), value_finite v.0 r v.2)

positive_ordinary : (x : Float) → T (positive x) → Ordinary x
unfolding lt
positive_ordinary nan h = absurd h
positive_ordinary (inf s) h = absurd h
positive_ordinary (fin true m e) h = absurd h
positive_ordinary (fin false zero e) h = let l = ltb→lt (0 * 1 * down e) (0 * up e * 1) h in absurd (omega arith)
positive_ordinary (fin false (suc m) e) h = ordinary m e

pub root_of_positive : RootOfPositive
root_of_positive x f h = root_large f (positive_ordinary x h)
