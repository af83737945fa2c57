-- How many cells evaluating a ring asks for, and how the code holds one; a reader may skip this. Definitions only.
use Rattle.std.specs.Prelude.{ℕ, ◌+◌, ◌-◌, ◌≤◌, ◌<◌, ◌≡◌, List, Float}
use Rattle.lorenz96.specs.Ring.{ring}
use Rattle.lorenz96.specs.declared.Pair.{Pair}
use Rattle.lorenz96.specs.declared.Stencil.{Stencil}

pub record Cells (n : ℕ) : Type 0 where
  pub enough : 4 ≤ n
  pub within : n ≤ 16

-- s has cell i of the ring v of n cells, and the two before it
pub record Around (n : ℕ) (v : List Float) (i : ℕ) (s : Stencil) : Type 0 where
  pub two_before : s.two_before ≡ ring n v (i + n - 2)
  pub before : s.before ≡ ring n v (i + n - 1)
  pub own : s.own ≡ ring n v i

-- p has the two cells after cell i + 1; the second may be none
pub record Following (n : ℕ) (v : List Float) (i : ℕ) (p : Pair) : Type 0 where
  pub first : p.first ≡ ring n v (i + 1 + 1)
  pub second : i + 2 + 1 < n → p.second ≡ ring n v (i + 2 + 1)
