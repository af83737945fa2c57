-- report::push_line
use native.Mathlib.Omega.{arith}
use lib.ListN.{length, length-append}
use Prim.Native.Nat.{ℕ}
use mathlib.Core.Path.{ap}
use Rattle.report.proofs.Lines.{digit_encoded, digits_length}
use Rattle.report.proofs.push_line.Goals as goal

pub push-requires : goal.push-requires
push-requires c =
    let one = ap length (digit_encoded _ _ (omega arith) c.digit.ensures) in
    (omega arith, omega (arith, one, length-append {A = ℕ}, digits_length, ap length c.loop-i.invariant))
