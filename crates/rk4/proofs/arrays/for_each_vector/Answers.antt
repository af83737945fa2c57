-- rk4::arrays::for_each_vector
use Rattle.std.proofs.Common.{◌+◌, ◌*◌, ◌-◌, ◌≤◌, length, arith}
use Rattle.floats.proofs.Vector.{vector_fits}
use Rattle.floats.proofs.Parts.{lent_length}
use Rattle.rk4.proofs.Directions.{replaced_none, replaced_next}
use Rattle.rk4.proofs.arrays.for_each_vector.Goals as goal

pub loop-j-init : goal.loop-j-init
loop-j-init g c G computes = replaced_none G c.args.d c.args.vectors.now

pub loop-j-preserved : goal.loop-j-preserved
loop-j-preserved g c G computes =
    let l = c.loop-j in
    let d = c.args.d in
    let lent = l.j * d + d - l.j * d in
    let fits : l.j * d + d ≤ length c.args.vectors.now = omega (arith, vector_fits l.j c.args.count d (omega arith)) in
    replaced_next G d l.j c.args.vectors.now l.vectors (l.invariant G computes) lent c.advance.new.arg2 (omega arith) (omega arith) fits
    (computes _ _ (lent_length (l.j * d) d lent l.vectors (omega arith) (omega arith)) c.advance.ensures)
