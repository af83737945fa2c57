-- gram_schmidt::dot_disjoint
use mathlib.Core.Path.{◌≡◌}
use lib.ListN.{drop}
use Rattle.gram_schmidt.specs.GramSchmidt.{euclidean}
use Rattle.floats.specs.Vector.{dot_from}
use Rattle.gram_schmidt.proofs.dot_disjoint.Given as goal

abbrev pub invariant-loop-i : goal.invariant-loop-i
invariant-loop-i l = dot_from euclidean.start l.a l.b ≡ dot_from l.s (drop l.i l.a) (drop l.i l.b)
