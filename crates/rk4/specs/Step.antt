-- Document 01, "Step", called alone: its tests, then 16 and 17, and what the two slices hold afterwards. Definitions only.
use Rattle.std.specs.Prelude.{ℕ, List, map, Float, Result}
use Rattle.std.proofs.Math.Option.{Option, none, some}
use Rattle.error.specs.Refusal.{refuse, reported}
use Rattle.error.specs.Tests.{first_failing}
use Rattle.error.specs.declared.Refusal.{Refusal}
use Rattle.error.specs.declared.LyapunovError.{LyapunovError}
use Rattle.floats.specs.Finite.{first_not_finite}
use Rattle.floats.specs.Vector.{chunks, concat}
use Rattle.stepper.specs.Stepper.{advance_by, rk4}
use Rattle.system.specs.System.{dim, field, tangent}
use Rattle.system.specs.declared.System.{System}
use Rattle.rk4.specs.Tests.{step_tests}

-- the answer, and what the two slices hold
pub record Stepped : Type 0 where
  pub refusal : Option Refusal
  pub state : List Float
  pub tangents : List Float

-- the next state, and the map that takes each direction along
unfoldable pub advance : System → List Float → Float → List Float → List Float × (List Float → List Float)
unfolding advance_by rk4 field tangent
advance S m h x = advance_by (rk4 h) (field S m) (tangent S m) x

-- 16 the state, 17 the directions, by the first index that is not finite
abbrev pub not_finite : Option ℕ → Option ℕ → Option Refusal
not_finite (some i) q = some (refuse 16 i)
not_finite none (some i) = some (refuse 17 i)
not_finite none none = none

-- the new values stay in both slices, refused or not
unfoldable pub advanced : System → List Float → List Float → List Float → ℕ → Float → Stepped
unfolding advance first_not_finite concat chunks
advanced S m x t n h =
    let a = advance S m h x in
    let y = a.0 in
    let vs = concat (map a.1 (chunks (dim S) n t)) in
    record { refusal = not_finite (first_not_finite y) (first_not_finite vs); state = y; tangents = vs }

-- a test that fails leaves both slices as they were
abbrev pub unless : Option Refusal → List Float → List Float → Stepped → Stepped
unless (some r) x t s = record { refusal = some r; state = x; tangents = t }
unless none x t s = s

unfoldable pub stepped : System → List Float → Float → List Float → List Float → ℕ → Float → Stepped
unfolding first_failing advanced
stepped S m time x t n h = unless (first_failing (step_tests S m time x t n h)) x t (advanced S m x t n h)

-- what the code's answer and its slices stand for
abbrev pub observed : Result Unit LyapunovError → List Float → List Float → Stepped
observed r x t = record { refusal = reported r; state = x; tangents = t }
