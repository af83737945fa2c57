-- store::first_slot
use Rattle.std.proofs.Common.{rules}
use Rattle.store.proofs.Tags.{first_none, first_some}
use Rattle.store.proofs.first_slot.Goals as goal

pub returns-then-tag_at-tag : goal.returns-then-tag_at-tag
returns-then-tag_at-tag c = search (rules, first_some)

pub returns : goal.returns
returns c = search (rules, first_none)
