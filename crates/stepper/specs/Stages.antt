-- What the derivative that `advance` is lent computes; a reader may skip this. Definitions only.
use Rattle.std.specs.Prelude.{ℕ, ◌<◌, ◌≡◌, List, length, take, Float}
use Rattle.std.specs.Borrow.{Bor}

-- the map of each stage, at the first d places of arrays
abbrev pub Derives : ℕ → (ℕ → List Float → List Float) → (ℕ → Bor (List Float) → List Float → Type 0) → Type 0
Derives d f post = (stage : ℕ) (x : Bor (List Float)) (r : List Float) → stage < 4 → length x.now ≡ 16 → post stage x r → take d r ≡ f stage (take d x.now)
