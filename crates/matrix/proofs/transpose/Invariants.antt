-- matrix::transpose
use Rattle.std.proofs.Common.{◌≡◌, length}
use Rattle.matrix.proofs.Transposition.{Rows}
use Rattle.matrix.proofs.transpose.Given as goal

abbrev pub invariant-loop-i : goal.invariant-loop-i
invariant-loop-i g l = (length l.columns ≡ length l.fn.columns) × Rows g.row.WIDTH l.d l.matrix l.i l.columns
