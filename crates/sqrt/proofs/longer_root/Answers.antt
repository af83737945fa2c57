-- sqrt::longer_root
use mathlib.Core.Path.{◌≡◌}
use Prim.Native.Nat.{◌+◌, ◌-◌, ◌*◌, ◌/◌, ◌%◌, ◌^◌}
use native.Mathlib.Omega.{arith}
use Rattle.sqrt.proofs.Longer.{long, pred_square, long_lt}
use Rattle.sqrt.proofs.longer_root.Goals as goal

pub returns-else-square-u : goal.returns-else-square-u
returns-else-square-u c =
    let k = long c.args.g c.args.d c.requires.0 c.requires.1 c.requires.2 in
    let g = c.args.g in
    let d = c.args.d in
    let q = d * 2 ^ 27 / (2 * g) in
    let s = g * 2 ^ 27 + q in
    let u = d * 2 ^ 27 % (2 * g) * 2 ^ 27 in
    let p = pred_square s (omega arith) in
    let e : (s - 1) * (s - 1) + (u + (s - 1) + s - q * q) ≡ (g * g + d) * 2 ^ 54 = omega (arith, k.sum, p, k.qq_le, k.qq_lin) in
    (e, omega (arith, k.v_small, k.qq_le, k.qq_lin), long_lt g d (s - 1) (u + (s - 1) + s - q * q) c.requires.2 c.requires.0 e)
