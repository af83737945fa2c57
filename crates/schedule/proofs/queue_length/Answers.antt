-- schedule::queue_length
use Rattle.std.proofs.Common.{arith}
use Rattle.schedule.proofs.Queue.{names_many}
use Rattle.schedule.proofs.queue_length.Goals as goal

pub returns-then-queue-lt8 : goal.returns-then-queue-lt8
returns-then-queue-lt8 c = omega (arith, names_many c.args.queue.now (omega arith))

pub returns-else-queue-lt8 : goal.returns-else-queue-lt8
returns-else-queue-lt8 c = omega (arith, names_many c.args.queue.now (omega arith))
