-- store::first_slot
use Rattle.std.proofs.Common.{ℕ, ◌<◌, ◌≢◌}
use Rattle.store.specs.Slots.{memory, tag_at}
use Rattle.store.proofs.first_slot.Given as goal

-- no slot before has the tag
abbrev pub invariant-loop-slot : goal.invariant-loop-slot
invariant-loop-slot l = (k : ℕ) → k < l.slot → tag_at k (memory l.floats l.counts) ≢ l.tag
