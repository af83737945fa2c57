-- gram_schmidt::divide
use mathlib.Core.Path.{◌≡◌}
use mathlib.Core.List.{◌++◌, map}
use lib.ListN.{take, drop}
use Rattle.floats.specs.Arithmetic.{◌⊘◌}
use Rattle.gram_schmidt.proofs.divide.Given as goal

abbrev pub invariant-loop-x : goal.invariant-loop-x
invariant-loop-x l = l.x-items ≡ map (λ x. x ⊘ l.by) (take l.x-index l.initial.x-items) ++ drop l.x-index l.initial.x-items
