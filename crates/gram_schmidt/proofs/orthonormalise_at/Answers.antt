-- gram_schmidt::orthonormalise_at
use native.Mathlib.Nat.{add-sub_cancel_left}
use mathlib.Core.Path.{sym, ap, ◌∙◌}
use Rattle.gram_schmidt.specs.GramSchmidt.{squared_length, euclidean}
use Rattle.gram_schmidt.proofs.Directions.{cleared_part, direction}
use Rattle.gram_schmidt.proofs.orthonormalise_at.Goals as goal

pub normalise-requires : goal.normalise-requires
normalise-requires c =
    let o = c.orthogonalise-squared in
    let a = c.args in
    o.ensures.1 ∙ ap (squared_length euclidean.start) (sym (rw add-sub_cancel_left (cleared_part euclidean a.d a.v a.tangents.now c.requires o.new.values o.ensures.0)))

pub returns : goal.returns
returns c =
    direction euclidean c.args.d c.args.v c.args.tangents.now c.requires c.orthogonalise-squared.new.values c.normalise.new.s _ c.orthogonalise-squared.ensures.0 c.normalise.ensures
