-- gram_schmidt::subtract_projection
use mathlib.Core.Path.{◌≡◌}
use Rattle.floats.specs.Vector.{dot_from, part}
use Rattle.gram_schmidt.specs.GramSchmidt.{euclidean}
use Rattle.gram_schmidt.proofs.Loops.{subtracting, summing}
use Rattle.gram_schmidt.proofs.subtract_projection.Given as goal

abbrev pub invariant-loop-i : goal.invariant-loop-i
invariant-loop-i l =
    (subtracting l.p l.basis l.target l.d l.initial.values 0 ≡ subtracting l.p l.basis l.target l.d l.values l.i)
    × (dot_from euclidean.start (part l.next l.d (subtracting l.p l.basis l.target l.d l.initial.values 0)) (part l.target l.d (subtracting l.p l.basis l.target l.d l.initial.values 0)) ≡ summing l.next l.target l.d (subtracting l.p l.basis l.target l.d l.initial.values 0) l.product l.i)
