-- lorenz96::vector_field
use native.Mathlib.Omega.{arith}
use mathlib.Core.Path.{◌∙◌}
use lib.ListN.{length-set}
use Rattle.lorenz96.proofs.Ring.{at_second, last_after, written_two, written_all, written_last, front_field}
use Rattle.lorenz96.proofs.vector_field.Goals as goal

pub loop-pair-preserved : goal.loop-pair-preserved
loop-pair-preserved c =
    let v = c.loop-pair.invariant in
    let e = v.state.next (omega arith) in
    let f = c.next_pair-next.ensures in
    let b = c.shifted-middle.ensures _ _ _ (omega arith) v.state.around e in
    record {
      long = length-set _ _ _ ∙ length-set _ _ _ ∙ v.long;
      written = written_two _ _ _ _ (omega arith) (omega arith) (c.cell_field.ensures _ _ _ v.state.around e) (c.cell_field-in-loop-pair.ensures _ _ _ b f.first) v.written;
      state = at_second (omega arith) f (c.shifted-s.ensures _ _ _ (omega arith) b f.first);
    }

-- an odd ring has one cell more
pub returns-then-cells-eq1 : goal.returns-then-cells-eq1
returns-then-cells-eq1 c =
    let v = c.loop-pair.invariant in
    let ar = c.args in
    let e = last_after ar.cells ar.x.now _ (omega arith) (omega arith) in
    (length-set _ _ _ ∙ v.long, λ q. front_field _ _ _ _ (written_last _ _ _ (omega arith) (omega arith) (omega arith) (c.cell_field-then-cells-eq1.ensures _ _ _ v.state.around e) v.written))

pub returns-else-cells-eq1 : goal.returns-else-cells-eq1
returns-else-cells-eq1 c =
    let v = c.loop-pair.invariant in
    (v.long, λ q. front_field _ _ _ _ (written_all _ _ _ (omega arith) (omega arith) v.written))
