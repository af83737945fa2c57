-- rk4::arrays::zero_padded
use Rattle.std.proofs.Common.{◌≡◌, length}
use Rattle.rk4.proofs.Copy.{Copied}
use Rattle.rk4.proofs.arrays.zero_padded.Given as goal

abbrev pub invariant-loop-i : goal.invariant-loop-i
invariant-loop-i g l = (length l.out ≡ 16) × Copied l.s l.initial.out l.i l.out
