-- totals::Progress::add_logs
use Rattle.std.proofs.Common.{◌≡◌, ◌++◌, length, take, drop}
use Rattle.floats.specs.Arithmetic.{◌⊕◌}
use Rattle.floats.specs.Vector.{updated}
use Rattle.totals.proofs.Progress.add_logs.Given as goal

abbrev pub invariant-loop-i : goal.invariant-loop-i
invariant-loop-i l = (length l.self.sums ≡ 16) × (updated (◌⊕◌) l.fn.self.sums l.logs ≡ take l.i l.self.sums ++ updated (◌⊕◌) (drop l.i l.self.sums) (drop l.i l.logs)) × (l.self ≡ record l.fn.self { sums = l.self.sums })
