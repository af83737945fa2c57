-- A queue by computation, in memory that holds something everywhere: its names, and what is done to it.
use Rattle.std.specs.Prelude.{ℕ, ◌≡◌, refl, List, [], ◌∷◌, ◌++◌, drop, replicate}
use Rattle.std.proofs.Math.Option.{none, some}
use Rattle.schedule.specs.Schedule.{names_in, next_in, rotated, shortened, lengthened}

-- 64 counts of runs, then the length of the queue and eight numbers
abbrev queue : ℕ → List ℕ → List ℕ
queue length numbers = replicate 64 101 ++ (length ∷ numbers)

abbrev three : List ℕ
three = queue 3 (6 ∷ 2 ∷ 5 ∷ 17 ∷ 4 ∷ 19 ∷ 1 ∷ 23 ∷ [])

-- a length above eight is eight
abbrev many : List ℕ
many = queue 29 (9 ∷ 3 ∷ 0 ∷ 11 ∷ 5 ∷ 13 ∷ 7 ∷ 8 ∷ [])

pub names : (names_in three ≡ 6 ∷ 2 ∷ 5 ∷ []) × (names_in many ≡ 9 ∷ 3 ∷ 0 ∷ 11 ∷ 5 ∷ 13 ∷ 7 ∷ 8 ∷ []) × (names_in (queue 0 (4 ∷ [])) ≡ [])
names = (refl, refl, refl)

-- 9 is no name
pub whose : (next_in three ≡ some 6) × (next_in many ≡ none) × (next_in (queue 0 (4 ∷ [])) ≡ none)
whose = (refl, refl, refl)

-- what stands behind the names stays
pub changed : (drop 64 (rotated three) ≡ 3 ∷ 2 ∷ 5 ∷ 6 ∷ 17 ∷ 4 ∷ 19 ∷ 1 ∷ 23 ∷ []) × (drop 64 (shortened three) ≡ 2 ∷ 2 ∷ 5 ∷ 6 ∷ 17 ∷ 4 ∷ 19 ∷ 1 ∷ 23 ∷ []) × (drop 64 (lengthened 7 three) ≡ 4 ∷ 6 ∷ 2 ∷ 5 ∷ 7 ∷ 4 ∷ 19 ∷ 1 ∷ 23 ∷ [])
changed = (refl, refl, refl)
