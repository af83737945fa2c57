-- gram_schmidt::normalise
use mathlib.Core.Path.{ap, ◌∙◌}
use lib.Ieee.{nan_bits, of_bits}
use Rattle.sqrt.specs.SquareRoot.{root}
use Rattle.gram_schmidt.specs.GramSchmidt.{euclidean}
use Rattle.gram_schmidt.proofs.Collapse.{low, high, held, normal_held, norm_collapsed, norm_divided, log_value, log_never}
use Rattle.gram_schmidt.proofs.normalise.Goals as goal

pub float_from_bits-t-5 : goal.float_from_bits-t-5
unfolding nan_bits
float_from_bits-t-5 c = tt

pub returns-then-norm : goal.returns-then-norm
unfolding of_bits
returns-then-norm c =
    norm_collapsed euclidean _ _ (c.sqrt-norm.ensures ∙ ap root c.requires) (low _ c.if-norm.true)

pub float_from_bits-t-5-2 : goal.float_from_bits-t-5-2
unfolding nan_bits
float_from_bits-t-5-2 c = tt

pub returns-in_default : goal.returns-in_default
unfolding of_bits
returns-in_default c =
    absurd (log_never _ _ _ (normal_held _ c.if-norm.false c.if-norm-2.true) c.ln.ensures c.in_default.is)

pub returns-then-norm-2 : goal.returns-then-norm-2
unfolding of_bits
returns-then-norm-2 c =
    norm_divided euclidean _ _ (c.sqrt-norm.ensures ∙ ap root c.requires) _ _ _ (held _ c.if-norm.false c.if-norm-2.true) c.requires
    (log_value _ _ _ (normal_held _ c.if-norm.false c.if-norm-2.true) c.ln.ensures c.in-Ok.is) c.divide.ensures

pub returns : goal.returns
unfolding of_bits
returns c =
    norm_collapsed euclidean _ _ (c.sqrt-norm.ensures ∙ ap root c.requires) (high _ c.if-norm-2.false)
