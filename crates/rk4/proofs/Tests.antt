-- A step called alone: what is known once all its tests are passed.
use Prim.Native.Nat.{ℕ, ◌*◌, ◌≤◌}
use mathlib.Core.Path.{◌≡◌, ◌∙◌}
use mathlib.Core.Bool.{true}
use mathlib.Core.List.{List}
use mathlib.Core.Option.{none}
use borrow.Author.Tests.{leb-true, eqb-true}
use lib.ListN.{length}
use lib.Ieee.{Float}
use lib.Ieee.Scale.{finite}
use Rattle.error.specs.Tests.{first_failing}
use Rattle.error.proofs.Tests.{passed, both_passed}
use Rattle.system.specs.System.{dim}
use Rattle.system.specs.declared.System.{System}
use Rattle.system_validation.proofs.Tests.{dimension_passed, matrix_passed, length_passed, time_passed, step_size_passed}
use Rattle.rk4.specs.Tests.{tangent_tests, step_tests, Passed}

-- ---- what passing a block gives

tangents_passed : (S : System) (t : List Float) (n : ℕ) → none ≡ first_failing (tangent_tests S t n) → (n ≤ 16) × (length t ≡ n * dim S)
tangents_passed S t n e = let p = passed _ _ e in (leb-true _ _ p.0, eqb-true _ _ (passed _ _ p.1).0)

-- ---- all of them

module _ (S : System) (m : List Float) (time : Float) (x t : List Float) (n : ℕ) (h : Float) where
  pub step_passed : none ≡ first_failing (step_tests S m time x t n h) → Passed S m x n h × (length t ≡ n * dim S) × (finite time ≡ true)
  step_passed e =
      let a = both_passed _ _ e in
      let b = both_passed _ _ a.1 in
      let c = both_passed _ _ b.1 in
      let d = both_passed _ _ c.1 in
      let f = both_passed _ _ d.1 in
      let dimension = dimension_passed S a.0 in
      let tangents = tangents_passed S t n d.0 in (
        record {
          dimension_above = dimension.0;
          dimension_within = dimension.1;
          cells = dimension.2;
          matrix = matrix_passed S m b.0;
          state = length_passed S x c.0;
          count = tangents.0;
          step_size = step_size_passed h f.1;
        },
        tangents.1,
        time_passed time f.0,
      )

-- another state of the same length passes too
pub passed_kept : {S : System} {m x x' : List Float} {k : ℕ} {h : Float} → length x' ≡ length x → Passed S m x k h → Passed S m x' k h
passed_kept e P =
    record { dimension_above = P.dimension_above; dimension_within = P.dimension_within; cells = P.cells; matrix = P.matrix; state = e ∙ P.state; count = P.count; step_size = P.step_size }
