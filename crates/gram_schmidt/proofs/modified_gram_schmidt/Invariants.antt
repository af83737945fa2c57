-- gram_schmidt::modified_gram_schmidt
use mathlib.Core.Path.{◌≡◌}
use Rattle.gram_schmidt.specs.GramSchmidt.{euclidean, orthonormalised}
use Rattle.gram_schmidt.proofs.Directions.{pending}
use Rattle.gram_schmidt.proofs.modified_gram_schmidt.Given as goal

abbrev pub invariant-loop-v : goal.invariant-loop-v
invariant-loop-v l = pending euclidean l.dimension l.count l.tangents l.norms l.v ≡ orthonormalised euclidean l.initial.tangents l.dimension l.initial.norms
