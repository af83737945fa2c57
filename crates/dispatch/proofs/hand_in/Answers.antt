-- dispatch::hand_in
use borrow.Author.Tests.{lt-leb, le-leb}
use Rattle.dispatching.specs.Served.{serve_in}
use Rattle.dispatch.proofs.hand_in.Goals as goal

pub returns-then-queue-lt8 : goal.returns-then-queue-lt8
unfolding serve_in
returns-then-queue-lt8 c = rw (lt-leb 8 _ c.if-queue-lt8.true) c.admit.ensures

pub returns-else-queue-lt8 : goal.returns-else-queue-lt8
unfolding serve_in
returns-else-queue-lt8 c = rw (le-leb 8 _ c.if-queue-lt8.false)
