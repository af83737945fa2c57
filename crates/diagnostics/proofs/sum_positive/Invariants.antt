-- diagnostics::sum_positive
use mathlib.Core.Path.{◌≡◌}
use lib.ListN.{drop}
use Rattle.diagnostics.specs.Entropy.{entropy_start, sum_positive}
use Rattle.diagnostics.proofs.sum_positive.Given as goal

abbrev pub invariant-loop-x : goal.invariant-loop-x
invariant-loop-x l = sum_positive entropy_start l.xs ≡ sum_positive l.sum (drop l.x-index l.xs)
