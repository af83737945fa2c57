-- gram_schmidt::modified_gram_schmidt
use native.Mathlib.Omega.{arith}
use native.Mathlib.Nat.{div-mul-le_self}
use Prim.Native.Nat.{◌/◌}
use mathlib.Core.Path.{sym, ◌∙◌}
use lib.ListN.{length}
use Rattle.gram_schmidt.specs.GramSchmidt.{euclidean}
use Rattle.gram_schmidt.proofs.Directions.{pending_end, iteration_by, iteration_stop, refused_7, refused_13, begun}
use Rattle.gram_schmidt.proofs.modified_gram_schmidt.Goals as goal

pub returns-then-dimension-eq0 : goal.returns-then-dimension-eq0
returns-then-dimension-eq0 c = let a = c.args in refused_7 euclidean a.tangents.now a.dimension a.norms.now c.if-dimension-eq0.true

pub returns-then-norms-count : goal.returns-then-norms-count
returns-then-norms-count c = let a = c.args in refused_13 euclidean a.tangents.now a.dimension a.norms.now c.if-dimension-eq0.false c.if-norms-count.true

pub loop-v-init : goal.loop-v-init
loop-v-init c = let a = c.args in begun euclidean a.tangents.now a.dimension a.norms.now c.if-dimension-eq0.false c.if-norms-count.false

pub returns-in_default : goal.returns-in_default
returns-in_default c =
    let a = c.args in
    let l = c.loop-v in
    let o = c.orthonormalise_at in
    sym
    (iteration_stop euclidean a.dimension (length a.tangents.now / a.dimension) l.tangents l.norms l.v c.loop-v-test.true (omega (arith, div-mul-le_self (length a.tangents.now) a.dimension))
    o.new.tangents (sym o.ensures.0 ∙ c.in_default.is) o.ensures.1)
    ∙ l.invariant

pub loop-v-preserved : goal.loop-v-preserved
loop-v-preserved c =
    let a = c.args in
    let l = c.loop-v in
    let o = c.orthonormalise_at in
    sym
    (iteration_by euclidean a.dimension (length a.tangents.now / a.dimension) l.tangents l.norms l.v c.loop-v-test.true (omega (arith, div-mul-le_self (length a.tangents.now) a.dimension))
    c.in-Some.log c.in-Some.squared o.new.tangents (sym o.ensures.0 ∙ c.in-Some.is) o.ensures.1)
    ∙ l.invariant

pub returns : goal.returns
returns c =
    let a = c.args in
    let l = c.loop-v in
    sym (pending_end euclidean a.dimension (length a.tangents.now / a.dimension) l.tangents l.norms l.v c.loop-v-test.false) ∙ l.invariant
