-- schedule::next
use Rattle.std.proofs.Common.{arith, lt-ltb, le-ltb}
use Rattle.schedule.proofs.Queue.{next_is}
use Rattle.schedule.proofs.next.Goals as goal

pub returns-then-queue-lt8 : goal.returns-then-queue-lt8
returns-then-queue-lt8 c = rw (next_is c.args.queue.now (omega arith) c.if-queue-eq0.false, lt-ltb _ _ c.if-queue-lt8.true)

pub returns-else-queue-lt8 : goal.returns-else-queue-lt8
returns-else-queue-lt8 c = rw (next_is c.args.queue.now (omega arith) c.if-queue-eq0.false, le-ltb _ _ c.if-queue-lt8.false)
