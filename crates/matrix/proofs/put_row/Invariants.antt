-- matrix::put_row
use Rattle.std.proofs.Common.{◌≡◌, length}
use Rattle.matrix.proofs.Transposition.{Put, Kept}
use Rattle.matrix.proofs.put_row.Given as goal

abbrev pub invariant-loop-j : goal.invariant-loop-j
invariant-loop-j g l = (length l.columns ≡ length l.fn.columns) × Put g.row.WIDTH l.i l.row l.j l.columns × Kept g.row.WIDTH l.i l.fn.columns l.columns
