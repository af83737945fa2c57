-- matrix::put_row
use Rattle.std.proofs.Common.{length, refl, arith, length-set}
use Rattle.matrix.proofs.Transposition.{put_entry, kept_entry, column_fits}
use Rattle.matrix.proofs.put_row.Goals as goal

pub loop-j-preserved : goal.loop-j-preserved
loop-j-preserved g c =
    let l = c.loop-j in
    let r = c.args in
    let w = g.row.WIDTH in (
      simp length-set l.invariant.0,
      put_entry w r.i l.j l.columns _ (omega arith) r.row.now refl (omega (arith, column_fits w l.j (length r.row.now) (omega arith))) l.invariant.1,
      kept_entry w r.i l.j l.columns _ (omega arith) r.columns.now l.invariant.2,
    )
