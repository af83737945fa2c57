-- Tests in their order: the first that fails is what is refused. Definitions only.
use Rattle.std.specs.Prelude.{ℕ, Bool, cond, List, [], ◌∷◌}
use Rattle.std.proofs.Math.Option.{Option, none, some}
use Rattle.error.specs.Refusal.{refuse}
use Rattle.error.specs.declared.Refusal.{Refusal}

-- whether it passes, and what is refused where it fails
pub record Test : Type 0 where
  pub passes : Bool
  pub refusal : Refusal

abbrev pub test : Bool → ℕ → ℕ → Test
test b number place = record { passes = b; refusal = refuse number place }

unfoldable pub first_failing : List Test → Option Refusal
first_failing [] = none
first_failing (t ∷ ts) = cond t.passes (first_failing ts) (some t.refusal)

infixr 20 ◌else◌
unfoldable pub ◌else◌ {ℓ} : {A : Type ℓ} → Option A → Option A → Option A
some r else s = some r
none else s = s
