-- Finite values, and the first entry that is not finite. Definitions only.
use Rattle.std.specs.Prelude as code
use Rattle.std.specs.Prelude.{Some, None}
use Rattle.std.specs.Prelude.{ℕ, zero, suc, Bool, cond, ◌&&◌, List, [], ◌∷◌, Float}
use Rattle.std.proofs.Math.Option.{Option, none, some, map}
use Rattle.std.specs.Float.Ieee.{lt}
use Rattle.std.specs.Float.Ieee.Scale.{finite}
use Rattle.floats.specs.Arithmetic.{zero⁺}

-- finite and above 0
abbrev pub positive : Float → Bool
positive x = finite x && lt zero⁺ x

unfoldable pub first_not_finite : List Float → Option ℕ
first_not_finite [] = none
first_not_finite (x ∷ xs) = cond (finite x) (map suc (first_not_finite xs)) (some zero)

-- the index that the code answers, if any
abbrev pub index : code.Option ℕ → Option ℕ
index None = none
index (Some i) = some i
