-- gram_schmidt::orthogonalise_once
use Prim.Native.Nat.{◌-◌, ◌*◌}
use mathlib.Core.Path.{◌≡◌}
use Rattle.gram_schmidt.specs.GramSchmidt.{euclidean}
use Rattle.floats.specs.Vector.{dot_from, part}
use Rattle.gram_schmidt.proofs.Loops.{orthogonalising}
use Rattle.gram_schmidt.proofs.orthogonalise_once.Given as goal

abbrev pub invariant-loop-p : goal.invariant-loop-p
invariant-loop-p l =
    (orthogonalising euclidean.start l.d l.v l.initial.values 0 ≡ orthogonalising euclidean.start l.d l.v l.values (l.p - 1)) × (l.c ≡ dot_from euclidean.start (part ((l.p - 1) * l.d) l.d l.values) (part (l.v * l.d) l.d l.values))
