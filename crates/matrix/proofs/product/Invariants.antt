-- matrix::product
use Rattle.std.proofs.Common.{◌≡◌, length}
use Rattle.matrix.proofs.Transposition.{Summed}
use Rattle.matrix.proofs.product.Given as goal

abbrev pub invariant-loop-j : goal.invariant-loop-j
invariant-loop-j g l = (length l.sums ≡ 16) × Summed g.row.WIDTH l.d l.columns l.x l.j l.sums
