-- store::at_most
use Rattle.std.proofs.Common.{◌∙◌}
use Rattle.std.proofs.lemmas.Iterator.{YieldsList-from_slice}
use Rattle.std.proofs.lemmas.Iterator.Search.{all_from_yields_List}
use borrow.Author.Rules.{rules}
use borrow.Author.Tests.{tests}
use lib.Dec.{leb}
use Rattle.store.proofs.Bounds.{all_at_most}
use Rattle.store.proofs.at_most.Goals as goal

pub returns : goal.returns
returns c =
    all_from_yields_List (λ x. leb x c.args.most) _ _ _ c.all.ensures.ran (YieldsList-from_slice c.args.counts.now cc) (λ x b q k. search (rules, tests)) ∙ all_at_most c.args.most c.args.counts.now
