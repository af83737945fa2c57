-- floats::first_not_finite
use mathlib.Core.Path.{ap, ◌∙◌}
use mathlib.Core.Bool.{not}
use lib.Ieee.Scale.{finite}
use borrow.Author.Rules.{rules}
use borrow.Author.Tests.{tests}
use Rattle.std.proofs.lemmas.Iterator.{YieldsList-from_slice}
use Rattle.std.proofs.lemmas.Iterator.Search.{position_from_yields_List}
use Rattle.std.proofs.lemmas.Iterator.Adapters.{position_from-zero}
use Rattle.floats.specs.Finite.{index}
use Rattle.floats.proofs.Finite.{position_is}
use Rattle.floats.proofs.first_not_finite.Goals as goal

pub returns : goal.returns
returns c =
    let xs = c.args.xs.now in
    let p = position_from_yields_List (λ x. not (finite x)) _ _ c.position.result c.position.ensures.ran (YieldsList-from_slice xs cc) (λ x b q k. search (rules, tests)) in
    ap index (p ∙ position_from-zero (λ x. not (finite x)) xs) ∙ position_is xs
