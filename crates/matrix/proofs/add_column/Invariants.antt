-- matrix::add_column
use Rattle.std.proofs.Common.{◌≡◌, ℕ, ◌+◌, ◌≤◌, ◌<◌, length, get_or}
use Rattle.std.specs.Float.{nan}
use Rattle.floats.specs.Arithmetic.{◌⊕◌, ◌⊗◌}
use Rattle.matrix.proofs.add_column.Given as goal

abbrev pub invariant-loop-i : goal.invariant-loop-i
invariant-loop-i g l =
    (length l.out ≡ 16)
    × ((k : ℕ) → k < l.i → get_or l.out k nan ≡ get_or l.fn.sums k nan ⊕ get_or l.columns (l.a + k) nan ⊗ l.x)
    × ((k : ℕ) → l.i ≤ k → get_or l.out k nan ≡ get_or l.fn.sums k nan)
