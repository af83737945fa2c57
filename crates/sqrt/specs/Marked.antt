-- Document 01's marked examples of the root, as one table, and a whole root.
use Rattle.std.specs.Prelude.{◌≡◌, refl, false, pos, negsuc}
use Rattle.std.specs.Float.{fin, binary64}
use Rattle.std.specs.Float.Ieee.{to_bits}
use Rattle.sqrt.specs.SquareRoot.{root, whole_root}

abbrev pub Marked : Type 0
Marked =
    (root (fin false 1 (pos 2)) ≡ fin false 1 (pos 1))
    × (to_bits binary64 (root (fin false 1 (pos 1))) ≡ 0x3ff6a09e667f3bcd)
    × (root (fin false 1 (negsuc 1073)) ≡ fin false 1 (negsuc 536))

pub marked : Marked
unfolding root to_bits
marked = (refl, refl, refl)

-- 31 * 31 is 961, and 32 * 32 is 1024
pub whole_thousand : whole_root 1000 ≡ 31
unfolding whole_root
whole_thousand = refl
