-- floats::copy_pairs
use Rattle.std.proofs.Common.{◌≡◌, ◌*◌, ◌++◌, take, drop}
use Rattle.floats.proofs.copy_pairs.Given as goal

abbrev pub invariant-loop-pair : goal.invariant-loop-pair
invariant-loop-pair g l = l.out ≡ take (2 * l.pair) l.from ++ drop (2 * l.pair) l.fn.out
