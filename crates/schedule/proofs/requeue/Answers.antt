-- schedule::requeue
use Rattle.std.proofs.Common.{◌≡◌, ◌+◌, length, take, drop, arith, ◌∙◌, length-take, length-drop}
use Rattle.floats.proofs.Fill.{copied_front}
use Rattle.schedule.proofs.Queue.{names_many, names_turned, rotated_is}
use Rattle.schedule.proofs.requeue.Goals as goal

pub overflow_add-e : goal.overflow_add-e
overflow_add-e c = omega (arith, c.queue_length-n.ensures, names_many c.args.queue.now (omega arith))

pub copy_pairs-requires : goal.copy_pairs-requires
copy_pairs-requires c =
    let q = c.args.queue.now in
    let h = names_many q (omega arith) in
    let e : length (take 7 (drop 66 q)) ≡ 7 = simp (length-take, length-drop) (omega arith) in
    (omega (arith, c.queue_length-n.ensures, h), omega (arith, c.queue_length-n.ensures, h, e))

pub returns : goal.returns
returns c =
    let q = c.args.queue.now in
    let n = c.queue_length-n.result in
    rotated_is q (omega arith) (65 + n) (omega (arith, c.queue_length-n.ensures)) c.copy_pairs-2.new.out (omega arith)
    (copied_front _ _ n c.copy_pairs-2.ensures (omega (arith, c.copy_pairs-2.auto.out))
    ∙ rw c.copy_pairs.ensures (names_turned q (omega arith) n (omega (arith, c.queue_length-n.ensures, c.requires)) (omega (arith, c.queue_length-n.ensures, names_many q (omega arith)))))
