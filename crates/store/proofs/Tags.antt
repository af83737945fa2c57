-- The first slot with a tag.
use Prim.Native.Nat.{ℕ, zero, suc, ◌+◌, ◌<◌}
use native.Mathlib.Omega.{arith}
use mathlib.Core.Path.{◌≡◌, refl}
use mathlib.Core.Logic.{◌≢◌}
use mathlib.Core.Option.{none, some}
use borrow.Author.Tests.{eq-eqb, ne_eqb}
use Rattle.store.specs.Slots.{Memory, tag_at, tags_from, tags, first_index}

module _ (t : ℕ) (m : Memory) where
  -- among n slots from i on
  none_from : (n i : ℕ) → ((k : ℕ) → k < i + n → tag_at k m ≢ t) → first_index t (tags_from i n m) ≡ none
  unfolding tags_from first_index
  none_from zero i h = refl
  none_from (suc n) i h = rw (ne_eqb (tag_at i m) t (h i (omega arith)), none_from n (suc i) (λ k g. h k (omega arith)))

  first_from : (n i d j : ℕ) → i + d ≡ j → d < n → ((k : ℕ) → k < j → tag_at k m ≢ t) → tag_at j m ≡ t → first_index t (tags_from i n m) ≡ some d
  unfolding tags_from first_index
  first_from zero i d j e l h f = absurd (omega arith)
  first_from (suc n) i zero j e l h f = let z : i ≡ j = omega arith in rw (eq-eqb (tag_at i m) t (rw z f))
  first_from (suc n) i (suc d) j e l h f = rw (ne_eqb (tag_at i m) t (h i (omega arith)), first_from n (suc i) d j (omega arith) (omega arith) h f)

  -- among all
  pub first_none : ((k : ℕ) → k < 8 → tag_at k m ≢ t) → first_index t (tags m) ≡ none
  first_none = none_from 8 0

  pub first_some : (j : ℕ) → j < 8 → ((k : ℕ) → k < j → tag_at k m ≢ t) → tag_at j m ≡ t → first_index t (tags m) ≡ some j
  first_some j l = first_from 8 0 j j (omega arith) l
