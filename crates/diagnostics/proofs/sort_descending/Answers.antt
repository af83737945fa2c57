-- diagnostics::sort_descending
use borrow.Author.Rules.{rules}
use Rattle.std.proofs.lemmas.List.Sorted.{answers_always}
use Rattle.floats.specs.TotalOrder.{rank}
use Rattle.diagnostics.proofs.Order.{sorted_is}
use Rattle.diagnostics.proofs.sort_descending.Goals as goal

pub returns : goal.returns
returns c =
    let e = c.copy_from_slice.ensures.after in
    sorted_is _ _ c.type_inv.xs c.type_inv.sorted (rw e at c.sort_unstable_by_key.ensures.permutation)
    (c.sort_unstable_by_key.ensures.sorted (λ x. record { 0 = rank x }) (answers_always _ _ _ (λ f a r g k. search rules)))
