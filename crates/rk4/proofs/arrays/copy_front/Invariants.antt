-- rk4::arrays::copy_front
use Rattle.std.proofs.Common.{length, take}
use Rattle.rk4.proofs.Copy.{Copied}
use Rattle.rk4.proofs.arrays.copy_front.Given as goal

abbrev pub invariant-loop-i : goal.invariant-loop-i
invariant-loop-i g l = Copied (take (length l.fn.out) l.from) l.fn.out l.i l.out
