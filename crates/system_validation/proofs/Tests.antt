-- What is known once a block of tests is passed.
use Prim.Native.Nat.{◌≤◌, ◌<◌}
use mathlib.Core.Path.{◌≡◌}
use mathlib.Core.Bool.{true}
use mathlib.Core.List.{List}
use mathlib.Core.Option.{none}
use borrow.Author.Tests.{ltb-true, leb-true, eqb-true}
use lib.ListN.{length}
use lib.Ieee.{Float}
use lib.Ieee.Scale.{finite}
use Rattle.error.specs.Tests.{first_failing}
use Rattle.floats.specs.Finite.{positive}
use Rattle.error.proofs.Tests.{passed}
use Rattle.system.specs.System.{dim, matrix_fits, cells_fit}
use Rattle.system_validation.specs.Tests.{dimension_tests, matrix_tests, length_tests, time_tests, step_size_tests}
use Rattle.system.specs.declared.System.{System}

module _ (S : System) where
  pub dimension_passed : none ≡ first_failing (dimension_tests S) → (0 < dim S) × (dim S ≤ 16) × (cells_fit S ≡ true)
  dimension_passed e = let p = passed _ _ e in let q = passed _ _ p.1 in (ltb-true _ _ p.0, leb-true _ _ q.0, (passed _ _ q.1).0)

  pub matrix_passed : (m : List Float) → none ≡ first_failing (matrix_tests S m) → matrix_fits S m ≡ true
  matrix_passed m e = (passed _ _ e).0

  pub length_passed : (x : List Float) → none ≡ first_failing (length_tests S x) → length x ≡ dim S
  length_passed x e = eqb-true _ _ (passed _ _ e).0

pub time_passed : (time : Float) → none ≡ first_failing (time_tests time) → finite time ≡ true
time_passed time e = (passed _ _ e).0

pub step_size_passed : (h : Float) → none ≡ first_failing (step_size_tests h) → positive h ≡ true
step_size_passed h e = (passed _ _ e).0
