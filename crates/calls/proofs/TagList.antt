-- The eight tags as a list: each one, where one of them is another, and where a tag stands first.
use Prim.Native.Nat.{ℕ, zero, suc, ◌+◌, ◌<◌, ◌≤◌}
use native.Mathlib.Nat.{zero-add}
use native.Mathlib.Omega.{arith}
use mathlib.Core.Path.{◌≡◌, refl, sym, ap, subst, ◌∙◌}
use mathlib.Core.Bool.{Bool, true, false, cond}
use mathlib.Core.Logic.{◌≢◌}
use mathlib.Core.List.{List, [], ◌∷◌}
use mathlib.Core.Option.{Option, none, some, map}
use borrow.Author.Tests.{eqb-true, eqb-false}
use lib.Dec.{eqb}
use lib.ListN.{length, get_or, set, replicate, length-set, get_or-replicate}
use lib.Seq.{ext_get_or, get_or-set_same, get_or-set_other}
use Rattle.benettin.specs.Outputs.{sixteen}
use Rattle.benettin.specs.Run.{RunState}
use Rattle.store.specs.Slots.{Memory, tag_at, tags_from, tags, first_index, saved, freed, emptied}
use Rattle.store.specs.Promises.{Sized}
use Rattle.store.proofs.Bounds.{Sound}
use Rattle.store.proofs.Memory.{Fits, same_tag, saved_same, saved_tag, freed_same, freed_tag, emptied_tag, tag_bound}

-- ---- the list

tags_length : (a n : ℕ) (m : Memory) → length (tags_from a n m) ≡ n
unfolding tags_from
tags_length a zero m = refl
tags_length a (suc n) m = ap suc (tags_length (suc a) n m)

from_at : (a n : ℕ) (m : Memory) (i : ℕ) → i < n → get_or (tags_from a n m) i 0 ≡ tag_at (a + i) m
unfolding tags_from
from_at a zero m i h = absurd (omega arith)
from_at a (suc n) m zero h = ap (λ (k : ℕ). tag_at k m) (omega arith)
from_at a (suc n) m (suc i) h = from_at (suc a) n m i (omega arith) ∙ ap (λ (k : ℕ). tag_at k m) (omega arith)

module _ (m : Memory) where
  pub eight_tags : length (tags m) ≡ 8
  eight_tags = tags_length 0 8 m

  pub tags_at : (i : ℕ) → i < 8 → get_or (tags m) i 0 ≡ tag_at i m
  tags_at i h = from_at 0 8 m i h ∙ ap (λ (k : ℕ). tag_at k m) (zero-add i)

  pub tags_small : (i : ℕ) → i < 8 → get_or (tags m) i 0 ≤ 256
  tags_small i h = omega (arith, tags_at i h, tag_bound i m)

-- one tag is another, all else stays
tags_set : (m m' : Memory) (j t : ℕ) → j < 8 → tag_at j m' ≡ t → ((i : ℕ) → i ≢ j → tag_at i m' ≡ tag_at i m) → tags m' ≡ set (tags m) j t
tags_set m m' j t h e f =
    let l = length-set (tags m) j t ∙ eight_tags m in
    ext_get_or 0 (tags m') (set (tags m) j t) (eight_tags m' ∙ sym l) (λ i g. let k : i < 8 = omega (arith, g, eight_tags m') in tags_at m' i k ∙ go i k (eqb i j) refl)
  where
    go : (i : ℕ) → i < 8 → (b : Bool) → eqb i j ≡ b → tag_at i m' ≡ get_or (set (tags m) j t) i 0
    go i k true z =
        let y = eqb-true i j z in
        subst (λ (x : ℕ). tag_at x m' ≡ get_or (set (tags m) j t) x 0) (sym y) (e ∙ sym (get_or-set_same (tags m) j t 0 (omega (arith, h, eight_tags m))))
    go i k false z = let y = eqb-false i j z in f i y ∙ sym (tags_at m i k) ∙ sym (get_or-set_other (tags m) j i t 0 y)

pub saved_tags : (j n d K w : ℕ) (c : RunState) (m : Memory) → Fits d K w c → Sized m → j < 8 → n < 256 → Sound c.totals.finished c.motion.steps (sixteen c.totals.faint) c.motion.time
    → tags (saved j n c m) ≡ set (tags m) j (n + 1)
saved_tags j n d K w c m F S h g s = tags_set m (saved j n c m) j (n + 1) h (saved_tag j n d K w c m F S h g s) (λ i e. same_tag (saved_same j n d K w c m F i e))

pub freed_tags : (j : ℕ) (m : Memory) → Sized m → j < 8 → tags (freed j m) ≡ set (tags m) j 0
freed_tags j m S h = tags_set m (freed j m) j 0 h (freed_tag j m S h) (λ i e. same_tag (freed_same j m i e))

pub emptied_tags : (m : Memory) → tags (emptied m) ≡ replicate 8 0
emptied_tags m =
    ext_get_or 0 (tags (emptied m)) (replicate 8 0) (eight_tags (emptied m)) (λ i g. let k : i < 8 = omega (arith, g, eight_tags (emptied m)) in tags_at (emptied m) i k ∙ emptied_tag i m k ∙ sym (get_or-replicate 8 i 0 0 k))

-- ---- where a tag stands first

pub some_at : (t : ℕ) (ts : List ℕ) (j : ℕ) → first_index t ts ≡ some j → (j < length ts) × (get_or ts j 0 ≡ t)
unfolding first_index
some_at t [] j e = let z : ◌≡◌ {A = ℕ} 0 1 = cc in absurd (omega arith)
some_at t (x ∷ ts) j e = go (eqb x t) refl (first_index t ts) (some_at t ts) e
  where
    Here : ℕ → Type 0
    Here k = (k < suc (length ts)) × (get_or (x ∷ ts) k 0 ≡ t)

    go : (b : Bool) → eqb x t ≡ b → (o : Option ℕ) → ((i : ℕ) → o ≡ some i → (i < length ts) × (get_or ts i 0 ≡ t)) → cond b (some 0) (map suc o) ≡ some j → Here j
    go true f o g h = let z : 0 ≡ j = cc in subst Here z (omega arith, eqb-true x t f)
    go false f none g h = let z : ◌≡◌ {A = ℕ} 0 1 = cc in absurd (omega arith)
    go false f (some i) g h = let z : suc i ≡ j = cc in let r = g i refl in subst Here z (omega (arith, r.0), r.1)
