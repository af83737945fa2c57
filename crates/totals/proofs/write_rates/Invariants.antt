-- totals::write_rates
use Rattle.std.proofs.Common.{◌≡◌, ◌++◌, map, length, take, drop}
use Rattle.floats.specs.Arithmetic.{◌⊘◌}
use Rattle.totals.proofs.write_rates.Given as goal

abbrev pub invariant-loop-i : goal.invariant-loop-i
invariant-loop-i l = (length l.row ≡ length l.values) × (map (λ x. x ⊘ l.by) l.values ≡ take l.i l.row ++ map (λ x. x ⊘ l.by) (drop l.i l.values))
