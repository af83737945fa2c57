-- Document 01's marked examples, proved together as one table: each is an equation between the definition that a contract cites and a value, and holds by computation.
use Rattle.sqrt.specs.Marked as Sqrt
use Rattle.ln.specs.Marked as Ln
use Rattle.splitmix64.specs.Marked as SplitMix64
use Rattle.gram_schmidt.specs.Marked as GramSchmidt
use Rattle.rk4.specs.Marked as Rk4
use Rattle.diagnostics.specs.Marked as Diagnostics

pub marked : Sqrt.Marked × Ln.Marked × SplitMix64.Marked × GramSchmidt.Marked × Rk4.Marked × Diagnostics.Marked
marked = (Sqrt.marked, Ln.marked, SplitMix64.marked, GramSchmidt.marked, Rk4.marked, Diagnostics.marked)
