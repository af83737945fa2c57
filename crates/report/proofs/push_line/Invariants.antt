-- report::push_line
use mathlib.Core.Path.{◌≡◌}
use mathlib.Core.List.{◌++◌}
use Prim.Native.Nat.{◌-◌, ◌*◌, ◌/◌, ◌^◌}
use Rattle.report.specs.Digits.{digits}
use Rattle.report.proofs.push_line.Given as goal

abbrev pub invariant-loop-i : goal.invariant-loop-i
invariant-loop-i l = l.text.bytes ≡ l.initial.text.bytes ++ digits 16 l.i (l.pattern / 2 ^ (64 - 4 * l.i))
