-- The slot that is found: it is one of the eight, and has the tag.
use Prim.Native.Nat.{ℕ, zero, suc, ◌+◌, ◌*◌, ◌≤◌, ◌<◌}
use native.Mathlib.Omega.{arith}
use mathlib.Core.Path.{◌≡◌, refl, subst, ◌∙◌}
use mathlib.Core.Bool.{Bool, true, false, cond}
use mathlib.Core.Logic.{◌≢◌}
use mathlib.Core.Option.{Option, none, some, map, some-injective}
use borrow.Author.Tests.{eqb-true}
use lib.Dec.{eqb}
use lib.ListN.{get_or}
use lib.Ieee.{nan}
use Rattle.floats.specs.Vector.{part}
use Rattle.benettin.specs.Estimate.{limit}
use Rattle.store.specs.Slots.{Memory, tag_at, tags_from, tags, first_index, slot_of, or_else, slot_for, windows_at}
use Rattle.store.proofs.Bounds.{used_sound}

-- among n slots from i on
found : (t : ℕ) (m : Memory) (i n j : ℕ) → first_index t (tags_from i n m) ≡ some j → (j < n) × (tag_at (i + j) m ≡ t)
unfolding tags_from first_index
found t m i zero j e = let z : ◌≡◌ {A = ℕ} 0 1 = cc in absurd (omega (arith, z))
found t m i (suc n) j e = go (eqb (tag_at i m) t) refl (first_index t (tags_from (suc i) n m)) refl (found t m (suc i) n) e
  where
    go : (b : Bool) → eqb (tag_at i m) t ≡ b → (o : Option ℕ) → first_index t (tags_from (suc i) n m) ≡ o → ((k : ℕ) → first_index t (tags_from (suc i) n m) ≡ some k → (k < n) × (tag_at (suc i + k) m ≡ t))
        → cond b (some 0) (map suc o) ≡ some j → (j < suc n) × (tag_at (i + j) m ≡ t)
    go true f o g h e = let z : 0 ≡ j = some-injective 0 j e in let y : i ≡ i + j = omega (arith, z) in (omega (arith, z), subst (λ (k : ℕ). tag_at k m ≡ t) y (eqb-true (tag_at i m) t f))
    go false f none g h e = let z : ◌≡◌ {A = ℕ} 0 1 = cc in absurd (omega (arith, z))
    go false f (some k) g h e = let z : suc k ≡ j = some-injective (suc k) j e in let r = h k g in let y : suc i + k ≡ i + j = omega (arith, z) in (omega (arith, z, r.0), subst (λ (l : ℕ). tag_at l m ≡ t) y r.1)

module _ (t : ℕ) (m : Memory) (j : ℕ) (e : first_index t (tags m) ≡ some j) where
  pub first_below : j < 8
  first_below = (found t m 0 8 j e).0

  pub first_tag : tag_at j m ≡ t
  first_tag = let z : 0 + j ≡ j = omega arith in subst (λ (k : ℕ). tag_at k m ≡ t) z (found t m 0 8 j e).1

-- the slot to keep under a number is one of the eight too
pub slot_below : (number : ℕ) (m : Memory) (j : ℕ) → slot_for number m ≡ some j → j < 8
slot_below number m j e = go (slot_of number m) refl e
  where
    go : (o : Option ℕ) → slot_of number m ≡ o → or_else o (first_index 0 (tags m)) ≡ some j → j < 8
    go none f e = first_below 0 m j e
    go (some i) f e = first_below (number + 1) m j (f ∙ e)

-- a slot that is in use has windows within the limit
pub used_windows : (j : ℕ) (m : Memory) → tag_at j m ≢ 0 → windows_at j m ≤ limit
unfolding tag_at
used_windows j m h =
    (used_sound (get_or m.counts (19 * j) 0) (get_or m.counts (19 * j + 1) 0) (get_or m.counts (19 * j + 2) 0) (part (19 * j + 3) 16 m.counts) (get_or m.floats (321 * j + 320) nan) h).windows
