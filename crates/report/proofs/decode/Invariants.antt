-- report::decode
use mathlib.Core.Path.{◌≡◌}
use mathlib.Core.List.{map}
use lib.ListN.{take}
use Rattle.report.proofs.Decoding.{float_of}
use Rattle.report.proofs.decode.Given as goal

abbrev pub invariant-loop-pattern : goal.invariant-loop-pattern
invariant-loop-pattern l = l.exponents.items ≡ map float_of (take l.pattern-index l.patterns)
