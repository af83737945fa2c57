-- gram_schmidt::orthogonalise
use native.Mathlib.Omega.{arith}
use Rattle.gram_schmidt.specs.GramSchmidt.{euclidean}
use Rattle.gram_schmidt.proofs.Directions.{cleared_first, cleared_again}
use Rattle.gram_schmidt.proofs.orthogonalise.Goals as goal

pub returns-then-v-eq0 : goal.returns-then-v-eq0
returns-then-v-eq0 c =
    let a = c.args in
    cleared_first euclidean a.d a.v a.values.now (omega arith) _ c.if-v-eq0.true c.dot_disjoint-first.ensures

pub returns : goal.returns
returns c =
    let a = c.args in
    cleared_again euclidean a.d a.v a.values.now (omega arith) c.orthogonalise_once-again.new.values c.orthogonalise_once.new.values _ c.orthogonalise_once-again.ensures.0 c.orthogonalise_once.ensures.0 c.orthogonalise_once.ensures.1
