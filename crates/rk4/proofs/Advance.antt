-- One step by its stages: the state, where every stage has the vector field, and the directions, which move with the stage points of the state.
use Prim.Native.Nat.{ℕ, ◌*◌, ◌≤◌}
use mathlib.Core.Path.{◌≡◌, refl, ap, ap₂, ◌∙◌}
use mathlib.Core.List.{List, [], map}
use borrow.Author.Tests.{eqb-true, leb-true}
use lib.ListN.{length}
use lib.Ieee.{Float}
use Rattle.floats.specs.Vector.{chunks, concat}
use Rattle.lorenz96.specs.Around.{Cells}
use Rattle.matrix.specs.Matrix.{times, Transposed, Held}
use Rattle.stepper.specs.Stepper.{stage_points, moved, advance_by, rk4}
use Rattle.stepper.proofs.Moves.{moved_length}
use Rattle.system.specs.System.{dim, field, tangent}
use Rattle.system.specs.declared.System.{System}
use Rattle.system.specs.declared.System.TheVariants.{Linear, Lorenz96}
use Rattle.rk4.specs.Step.{advance, advanced}
use Rattle.rk4.specs.Tests.{Passed}
use Rattle.rk4.specs.Stages.{Pointed, Advances, along, alike, tested_finite}

module _ (S : System) (m : List Float) (h : Float) (x : List Float) where
  pub state_moved : moved (rk4 h) (alike (field S m)) x ≡ (advance S m h x).0
  unfolding advance advance_by stage_points rk4
  state_moved = refl

  pub state_length : length (advance S m h x).0 ≡ length x
  unfolding advance advance_by
  state_length = moved_length (rk4 h) (map (λ _. field S m) (stage_points (rk4 h).points (field S m) [] x)) x

  pub direction_length : (v : List Float) → length ((advance S m h x).1 v) ≡ length v
  unfolding advance advance_by
  direction_length v = moved_length (rk4 h) (map (tangent S m) (stage_points (rk4 h).points (field S m) [] x)) v

-- ---- the state and every direction

-- directions that move with the stage points of the state, which are at the front of the arrays xs
pub advances : (S : System) (m : List Float) (h : Float) (x t : List Float) (n d : ℕ) (xs : List (List Float)) (y vs : List Float) → d ≡ dim S → y ≡ (advance S m h x).0
    → Pointed S m h x xs → vs ≡ concat (map (moved (rk4 h) (along S m xs)) (chunks d n t)) → Advances S m h x t n y vs
unfolding advance advance_by
advances S m h x t n d xs y vs e f p g =
    record {
      next = f;
      along_with = g ∙ ap₂ (λ (k : ℕ) (ys : List (List Float)). concat (map (moved (rk4 h) (map (tangent S m) ys)) (chunks k n t))) e p;
    }

-- a linear system: one map for the state and the directions
pub linear_advances : (d : ℕ) (m : List Float) (h : Float) (x t : List Float) (n : ℕ) (y vs : List Float) → y ≡ moved (rk4 h) (alike (times (chunks d d m))) x
    → vs ≡ concat (map (moved (rk4 h) (alike (times (chunks d d m)))) (chunks d n t)) → Advances (Linear d) m h x t n y vs
unfolding advance advance_by stage_points rk4 field tangent
linear_advances d m h x t n y vs e f = record { next = e; along_with = f }

-- what a step leaves
pub leaves : {S : System} {m : List Float} {h : Float} {x t : List Float} {n : ℕ} {y vs : List Float} → Advances S m h x t n y vs → tested_finite y vs ≡ advanced S m x t n h
unfolding advanced
leaves a = ap₂ tested_finite a.next a.along_with

-- the same, where the system was matched
pub matched_leaves : {S T : System} → S ≡ T → {m : List Float} {h : Float} {x t : List Float} {n : ℕ} {y vs : List Float} → Advances T m h x t n y vs → tested_finite y vs ≡ advanced S m x t n h
matched_leaves e a = rw e (leaves a)

pub matched_fits : {S T : System} → S ≡ T → {m x : List Float} {n : ℕ} {h : Float} (t : List Float) → Passed S m x n h → length t ≡ n * dim S → (length x ≡ dim T) × (dim T ≤ 16) × (length t ≡ n * dim T)
matched_fits e t p l = (p.state ∙ ap dim e, rw e at p.dimension_within, rw e at l)

-- ---- a linear system that passed the tests

-- the slices fit it
pub record Fitting (d : ℕ) (m x t : List Float) (n : ℕ) : Type 0 where
  pub within : d ≤ 16
  pub matrix : length m ≡ d * d
  pub state : length x ≡ d
  pub tangents : length t ≡ n * d

-- as do the columns that its matrix was transposed into
pub columns_held : {d : ℕ} {m x t : List Float} {n : ℕ} {columns : List Float} → Fitting d m x t n → Transposed 16 d m columns → 16 * d ≤ length columns → Held d m columns
columns_held f t r = record { within = f.within; room = r; square = f.matrix; transposed = t }

module _ {S : System} {d : ℕ} (e : S ≡ Linear d) where
  pub linear_fits : {m x : List Float} {n : ℕ} {h : Float} (t : List Float) → Passed S m x n h → length t ≡ n * dim S → Fitting d m x t n
  linear_fits {m} t p l =
      let q = rw e at p.matrix in
      let f = matched_fits e t p l in
      record { within = f.1; matrix = eqb-true (length m) (d * d) q; state = f.0; tangents = f.2 }

-- ---- a ring that passed the tests has the cells that evaluating it asks for

pub ring_cells : {S : System} {n : ℕ} {F : Float} → S ≡ Lorenz96 n F → {m x : List Float} {k : ℕ} {h : Float} → Passed S m x k h → Cells n
ring_cells {n = n} e p = let q = rw e at p.cells in record { enough = leb-true 4 n q; within = rw e at p.dimension_within }
