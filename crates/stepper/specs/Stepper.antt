-- Explicit steppers over any number of stages, and document 01's classical one. A stepper says what happens at one place of a vector, and vectors move place by place. The state and every direction move with the stage points of the state. Definitions only.
use Rattle.std.specs.Prelude.{ℕ, List, [], ◌∷◌, map, drop, get_or, Float}
use Rattle.std.specs.Float.{nan}
use Rattle.floats.specs.Arithmetic.{◌⊕◌, ◌⊗◌, ◌⊘◌, two, half, six}

-- at one place: from the derivatives of the stages before, the last of them first, and the base
abbrev pub Rule : Type 0
Rule = List Float → Float → Float

-- the point of each stage, and the update
pub record Method : Type 0 where
  pub points : List Rule
  pub update : Rule

abbrev pub at : ℕ → List Float → Float
at i k = get_or k i nan

-- a rule at every place of v
unfoldable pub entrywise : Rule → List (List Float) → List Float → List Float
entrywise p ks [] = []
entrywise p ks (x ∷ v) = p (map (at 0) ks) x ∷ entrywise p (map (drop 1) ks) v

-- the derivatives of v, the last first, where the derivative map of each stage is given; ks are those so far
unfoldable pub derivatives : List Rule → List (List Float → List Float) → List (List Float) → List Float → List (List Float)
unfolding entrywise
derivatives [] fs ks v = ks
derivatives (p ∷ ps) [] ks v = ks
derivatives (p ∷ ps) (f ∷ fs) ks v = derivatives ps fs (f (entrywise p ks v) ∷ ks) v

-- the points of the stages, for the vector field f
unfoldable pub stage_points : List Rule → (List Float → List Float) → List (List Float) → List Float → List (List Float)
unfolding entrywise
stage_points [] f ks x = []
stage_points (p ∷ ps) f ks x = let y = entrywise p ks x in y ∷ stage_points ps f (f y ∷ ks) x

-- v moved, where the derivative map of each stage is given
unfoldable pub moved : Method → List (List Float → List Float) → List Float → List Float
unfolding entrywise derivatives
moved M fs v = entrywise M.update (derivatives M.points fs [] v) v

-- one step of the field f with the tangent map g from the state x: the next state, and the one map that is applied to every direction
unfoldable pub advance_by : Method → (List Float → List Float) → (List Float → List Float → List Float) → List Float → List Float × (List Float → List Float)
unfolding moved stage_points
advance_by M f g x = let ys = stage_points M.points f [] x in (moved M (map (λ _. f) ys) x, λ v. moved M (map g ys) v)

-- ---- the classical stepper (source: Rk4)

-- the base itself
abbrev pub base : Rule
base ks v = v

-- base + s * the last derivative
abbrev pub combine_stage : Float → Rule
combine_stage s [] v = v
combine_stage s (k ∷ ks) v = v ⊕ s ⊗ k

-- value + (h / 6) * (k1 + 2 * k2 + 2 * k3 + k4)
abbrev pub rk4_update : Float → Rule
rk4_update h [] v = v
rk4_update h (k₄ ∷ []) v = v
rk4_update h (k₄ ∷ k₃ ∷ []) v = v
rk4_update h (k₄ ∷ k₃ ∷ k₂ ∷ []) v = v
rk4_update h (k₄ ∷ k₃ ∷ k₂ ∷ k₁ ∷ ks) v = v ⊕ h ⊘ six ⊗ (k₁ ⊕ two ⊗ k₂ ⊕ two ⊗ k₃ ⊕ k₄)

-- stage points at scale 0.5 * h, 0.5 * h, h
unfoldable pub rk4 : Float → Method
rk4 h = record { points = base ∷ combine_stage (half ⊗ h) ∷ combine_stage (half ⊗ h) ∷ combine_stage h ∷ []; update = rk4_update h }
