-- totals::Progress::count_faint
use Rattle.std.proofs.Common.{◌≡◌, ℕ, ◌≤◌, ◌++◌, length, take, drop, get_or}
use Rattle.floats.specs.Vector.{updated}
use Rattle.totals.specs.Progress.{counted, with_faint}
use Rattle.totals.proofs.Progress.count_faint.Given as goal

abbrev pub invariant-loop-i : goal.invariant-loop-i
invariant-loop-i l = (length l.self.faint ≡ 16) × (updated counted l.fn.self.faint l.squares ≡ take l.i l.self.faint ++ updated counted (drop l.i l.self.faint) (drop l.i l.squares)) × ((j : ℕ) → l.i ≤ j → get_or l.self.faint j 0 ≡ get_or l.fn.self.faint j 0) × (l.self ≡ with_faint l.fn.self l.self.faint)
