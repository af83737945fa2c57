-- Counts that are at most a number, and what a tag that is not 0 says of its slot.
use Prim.Native.Nat.{ℕ, zero, suc, ◌*◌, ◌≤◌}
use native.Mathlib.Omega.{arith}
use mathlib.Core.Path.{◌≡◌, refl, ap, subst}
use mathlib.Core.Bool.{Bool, true, false, cond, ◌&&◌, false≢true}
use mathlib.Core.Logic.{◌≢◌}
use mathlib.Core.List.{List, [], ◌∷◌, ◌++◌}
use borrow.Author.Tests.{leb-true, le-leb}
use lib.Dec.{leb}
use lib.ListN.{take, drop, get_or, replicate}
use lib.Seq.{drop-nil, take-nil}
use lib.Ieee.{Float}
use lib.Ieee.Scale.{finite}
use Rattle.std.specs.List.{list_all}
use Rattle.benettin.specs.Estimate.{limit}
use Rattle.store.specs.Slots.{at_most, sound, sound_tag}

-- ---- lists of counts that are at most n

both : (a b : Bool) → (a && b) ≡ true → (a ≡ true) × (b ≡ true)
both true b h = (refl, h)
both false b h = absurd (false≢true h)

module _ (n : ℕ) where
  pub all_at_most : (xs : List ℕ) → list_all (λ x. leb x n) xs ≡ at_most n xs
  unfolding at_most
  all_at_most [] = refl
  all_at_most (x ∷ xs) = ap (λ (b : Bool). leb x n && b) (all_at_most xs)

  at_most_get : (xs : List ℕ) → at_most n xs ≡ true → (i : ℕ) → get_or xs i 0 ≤ n
  unfolding at_most
  at_most_get [] h i = omega arith
  at_most_get (x ∷ xs) h zero = leb-true x n (both (leb x n) (at_most n xs) h).0
  at_most_get (x ∷ xs) h (suc i) = at_most_get xs (both (leb x n) (at_most n xs) h).1 i

  get_at_most : (xs : List ℕ) → ((i : ℕ) → get_or xs i 0 ≤ n) → at_most n xs ≡ true
  unfolding at_most
  get_at_most [] h = refl
  get_at_most (x ∷ xs) h = rw (le-leb x n (h 0), get_at_most xs (λ i. h (suc i)))

-- the first k of a list, and zeros behind them
pub front_at_most : (n k m : ℕ) (l : List ℕ) → ((i : ℕ) → get_or l i 0 ≤ n) → (i : ℕ) → get_or (take k l ++ drop k (replicate m 0)) i 0 ≤ n
front_at_most n zero zero l h i = omega arith
front_at_most n zero (suc m) l h zero = omega arith
front_at_most n zero (suc m) l h (suc i) = front_at_most n zero m l h i
front_at_most n (suc k) zero [] h i = omega arith
front_at_most n (suc k) (suc m) [] h i = subst (λ (l : List ℕ). get_or (l ++ drop k (replicate m 0)) i 0 ≤ n) (take-nil k) (front_at_most n k m [] h i)
front_at_most n (suc k) m (x ∷ l) h zero = h 0
front_at_most n (suc k) zero (x ∷ l) h (suc i) = subst (λ (z : List ℕ). get_or (take k l ++ z) i 0 ≤ n) (drop-nil k) (front_at_most n k zero l (λ j. h (suc j)) i)
front_at_most n (suc k) (suc m) (x ∷ l) h (suc i) = front_at_most n k m l (λ j. h (suc j)) i

-- ---- a tag that is not 0 is sound

pub record Sound (w s : ℕ) (f : List ℕ) (time : Float) : Type 0 where
  pub windows : w ≤ limit
  pub steps : s ≤ 2 * limit * limit
  pub faint : (i : ℕ) → get_or f i 0 ≤ 2 * limit
  pub clock : finite time ≡ true

module _ (tag windows steps : ℕ) (faint : List ℕ) (time : Float) where
  sound_parts : sound windows steps faint time ≡ true → Sound windows steps faint time
  sound_parts e =
      let p = both (leb windows limit && leb steps (2 * limit * limit) && at_most (2 * limit) faint) (finite time) e in
      let q = both (leb windows limit && leb steps (2 * limit * limit)) (at_most (2 * limit) faint) p.0 in
      let r = both (leb windows limit) (leb steps (2 * limit * limit)) q.0 in
      record { windows = leb-true windows limit r.0; steps = leb-true steps (2 * limit * limit) r.1; faint = at_most_get (2 * limit) faint q.1; clock = p.1 }

  pub used_sound : sound_tag tag windows steps faint time ≢ 0 → Sound windows steps faint time
  used_sound n = sound_parts (go (leb tag 256) (sound windows steps faint time) n)
    where
      go : (a b : Bool) → cond (a && b) tag 0 ≢ 0 → b ≡ true
      go true true h = refl
      go true false h = absurd (h refl)
      go false b h = absurd (h refl)

  pub sound_is : tag ≤ 256 → Sound windows steps faint time → sound_tag tag windows steps faint time ≡ tag
  sound_is h s = rw (le-leb tag 256 h, le-leb windows limit s.windows, le-leb steps (2 * limit * limit) s.steps, get_at_most (2 * limit) faint s.faint, s.clock)

  pub tag_small : sound_tag tag windows steps faint time ≤ 256
  tag_small = go (leb tag 256) (sound windows steps faint time) refl
    where
      go : (a b : Bool) → leb tag 256 ≡ a → cond (a && b) tag 0 ≤ 256
      go true true e = leb-true tag 256 e
      go true false e = omega arith
      go false b e = omega arith
