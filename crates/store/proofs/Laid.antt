-- What is laid down in a slot.
use Prim.Native.Nat.{ℕ, suc, ◌+◌, ◌-◌, ◌*◌, ◌≤◌, ◌<◌}
use native.Mathlib.Nat.{mul-le-mul_right, mul-le-mul_left, le_trans}
use native.Mathlib.Numerals.{add-one}
use native.Mathlib.Omega.{arith}
use mathlib.Core.Path.{◌≡◌, ◌∙◌}
use mathlib.Core.List.{List, ◌∷◌}
use borrow.Rule.Slice.PartMut.{put_mid}
use lib.ListN.{length, set, length-set}
use lib.Seq.{sets}
use Rattle.floats.proofs.Parts.{put_is}

-- three stores and a part that is put back
pub counts_laid : (C : List ℕ) (j tag windows steps : ℕ) (faint : List ℕ) → length C ≡ 152 → j < 8 → length faint ≡ 16
    → put_mid (19 * j + 3) (19 * j + 3 + 16 - (19 * j + 3)) (set (set (set C (19 * j) tag) (19 * j + 1) windows) (19 * j + 2) steps) faint ≡ sets C (19 * j) (tag ∷ windows ∷ steps ∷ faint)
counts_laid C j tag windows steps faint l h n =
    let z : 19 * j + 2 ≡ suc (suc (19 * j)) = omega arith in
    let y : 19 * j + 3 ≡ suc (suc (suc (19 * j))) = omega arith in
    put_is (set (set (set C (19 * j) tag) (19 * j + 1) windows) (19 * j + 2) steps) (19 * j + 3) 16 faint (simp length-set (omega (arith, l, h))) n
    ∙ rw (add-one (19 * j), z, y)

-- k directions of d entries
pub few_entries : (k d : ℕ) → k ≤ 16 → d ≤ 16 → k * d ≤ 256
few_entries k d h g = le_trans (mul-le-mul_right d h) (mul-le-mul_left 16 g)
