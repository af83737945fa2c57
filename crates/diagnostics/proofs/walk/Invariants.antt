-- diagnostics::walk
use mathlib.Core.Path.{◌≡◌}
use Prim.Native.Nat.{◌-◌, ◌≤◌}
use lib.ListN.{length, drop}
use Rattle.floats.specs.Arithmetic.{zero⁺}
use Rattle.diagnostics.specs.Dimension.{walk}
use Rattle.diagnostics.proofs.walk.Given as goal

abbrev pub invariant-loop-i : goal.invariant-loop-i
invariant-loop-i l = (l.i ≤ length l.sorted) × (walk 0 zero⁺ l.sorted ≡ walk l.i l.cumulative (drop l.i l.sorted))

abbrev pub decreases-loop-i : goal.decreases-loop-i
decreases-loop-i l = length l.sorted - l.i
