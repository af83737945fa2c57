-- Memory with what no run can have left in most slots: its tags, and where a tag stands first.
use Rattle.std.specs.Prelude.{ℕ, ◌+◌, ◌*◌, ◌≡◌, refl, false, List, [], ◌∷◌, ◌++◌, pos, replicate, Float}
use Rattle.std.proofs.Math.Option.{none, some}
use Rattle.std.specs.Float.{fin, inf, nan}
use Rattle.benettin.specs.Estimate.{limit}
use Rattle.store.specs.Slots.{Memory, memory, tags_from, tags, first_index, slot_of, slot_for, freed}

-- ---- a slot: its time behind 320 floats, and its counts

abbrev times : Float → List Float
times t = replicate 320 nan ++ (t ∷ [])

-- the tag, the windows and the steps, with one of the sixteen faint counts
abbrev counts : ℕ → ℕ → ℕ → ℕ → List ℕ
counts tag windows steps faint = tag ∷ windows ∷ steps ∷ replicate 11 6 ++ (faint ∷ replicate 4 9)

-- Slots 0, 4 and 7 hold what a run can have left, 4 all that it can. In the others one thing is more than that: the tag, a faint count, the time, the windows, the steps.
unfoldable pub garbage : Memory
garbage =
    memory
    (times (fin false 11 (pos 3))
    ++ times (fin false 13 (pos 5))
    ++ times (fin false 15 (pos 7))
    ++ times (inf false)
    ++ times (fin false 17 (pos 971))
    ++ times (fin false 19 (pos 2))
    ++ times (fin false 21 (pos 4))
    ++ times (fin false 23 (pos 6)))
    (counts 84 31 37 41
    ++ counts 257 43 47 53
    ++ counts 33 59 61 (2 * limit + 1)
    ++ counts 202 67 71 73
    ++ counts 256 limit (2 * limit * limit) (2 * limit)
    ++ counts 129 (limit + 1) 79 83
    ++ counts 18 89 (2 * limit * limit + 1) 97
    ++ counts 84 101 103 107)

pub garbage_tags : tags garbage ≡ 84 ∷ 0 ∷ 0 ∷ 0 ∷ 256 ∷ 0 ∷ 0 ∷ 84 ∷ []
unfolding tags_from garbage
garbage_tags = refl

-- the number 83 has the first of the two slots with its tag, 255 has slot 4, and 32 has none
pub numbers : (slot_of 83 garbage ≡ some 0) × (slot_of 255 garbage ≡ some 4) × (slot_of 32 garbage ≡ none)
unfolding first_index tags_from garbage
numbers = (refl, refl, refl)

-- to keep under 83 and under 32, the latter in the first slot that is free; and under 32 once slot 0 is free
pub places : (slot_for 83 garbage ≡ some 0) × (slot_for 32 garbage ≡ some 1) × (slot_for 32 (freed 0 garbage) ≡ some 0)
unfolding first_index tags_from garbage
places = (refl, refl, refl)
