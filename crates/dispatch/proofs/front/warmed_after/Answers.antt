-- dispatch::front::warmed_after
use native.Mathlib.Numerals.{add-one}
use borrow.Author.Tests.{lt-ltb, le-ltb}
use Rattle.dispatch.proofs.front.warmed_after.Goals as goal

pub returns-then-warmed-warm_up : goal.returns-then-warmed-warm_up
returns-then-warmed-warm_up c = rw (lt-ltb _ _ c.if-warmed-warm_up.true, add-one)

pub returns-else-warmed-warm_up : goal.returns-else-warmed-warm_up
returns-else-warmed-warm_up c = rw (le-ltb _ _ c.if-warmed-warm_up.false)
