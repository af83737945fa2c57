-- One iteration and the end of the loops that walk and that sum.
use mathlib.Core.Path.{◌≡◌, refl}
use mathlib.Core.Bool.{Bool, true, false, cond}
use mathlib.Core.List.{List, ◌∷◌}
use Prim.Native.Nat.{ℕ, zero, suc, ◌+◌, ◌≤◌, ◌<◌}
use native.Mathlib.Numerals.{add-one}
use lib.IntN.{pos}
use lib.ListN.{length, drop, get_or, drop_of_length-le}
use lib.Seq.{drop-cons}
use lib.Ieee.{Float, nan, binary64, lt, of_int, of_bits, neg}
use Rattle.floats.specs.Arithmetic.{◌⊕◌, ◌⊘◌, zero⁺}
use Rattle.floats.specs.Magnitude.{magnitude}
use Rattle.floats.proofs.Zero.{zero_is}
use Rattle.diagnostics.specs.Dimension.{stopped, walk}
use Rattle.diagnostics.specs.Entropy.{entropy_start, sum_positive}

-- the code's -0.0
pub sum_start : neg (of_bits binary64 0) ≡ entropy_start
unfolding of_bits neg
sum_start = refl

sum_cons : (s x : Float) (xs : List Float) (b : Bool) → lt zero⁺ x ≡ b → sum_positive s (x ∷ xs) ≡ sum_positive (cond b (s ⊕ x) s) xs
unfolding sum_positive
sum_cons s x xs b h = rw h

pub stopped_first : (i : ℕ) (s x : Float) → i ≡ 0 → stopped i s x ≡ zero⁺
unfolding stopped
stopped_first i s x h = rw h

pub stopped_later : (i : ℕ) (s x : Float) → (i ≡ 0 → ⊥) → stopped i s x ≡ of_int binary64 (pos i) ⊕ s ⊘ magnitude x
unfolding stopped
stopped_later zero s x h = absurd (h refl)
stopped_later (suc i) s x h = refl

module _ (xs : List Float) (i : ℕ) (s : Float) where
  -- ---- the walk
  pub walk_on : i < length xs → lt (s ⊕ get_or xs i nan) zero⁺ ≡ false → walk i s (drop i xs) ≡ walk (i + 1) (s ⊕ get_or xs i nan) (drop (i + 1) xs)
  unfolding walk
  walk_on l h = rw (add-one, drop-cons xs i nan l, h)

  pub walk_stop : i < length xs → lt (s ⊕ get_or xs i nan) zero⁺ ≡ true → walk i s (drop i xs) ≡ stopped i s (get_or xs i nan)
  unfolding walk
  walk_stop l h = rw (drop-cons xs i nan l, h)

  pub walk_end : length xs ≤ i → walk i s (drop i xs) ≡ of_int binary64 (pos i)
  unfolding walk
  walk_end l = rw (drop_of_length-le xs l)

  -- ---- the sum of the positive entries
  pub sum_above : i < length xs → lt zero⁺ (get_or xs i nan) ≡ true → sum_positive s (drop i xs) ≡ sum_positive (s ⊕ get_or xs i nan) (drop (i + 1) xs)
  sum_above l h = rw (add-one, drop-cons xs i nan l) (sum_cons s (get_or xs i nan) (drop (suc i) xs) true h)

  pub sum_other : i < length xs → lt zero⁺ (get_or xs i nan) ≡ false → sum_positive s (drop i xs) ≡ sum_positive s (drop (i + 1) xs)
  sum_other l h = rw (add-one, drop-cons xs i nan l) (sum_cons s (get_or xs i nan) (drop (suc i) xs) false h)

  pub sum_end : length xs ≤ i → sum_positive s (drop i xs) ≡ s
  unfolding sum_positive
  sum_end l = rw (drop_of_length-le xs l)

pub ruleset sum_steps = (zero_is, sum_start, sum_above, sum_other, sum_end)
