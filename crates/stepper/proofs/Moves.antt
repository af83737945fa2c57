-- A vector that the code moves stage by stage, over any number of stages: its first d places are moved as the definition says.
use Prim.Native.Nat.{ℕ, ◌≤◌}
use mathlib.Core.Path.{◌≡◌, refl, ap, ap₂, ◌∙◌}
use mathlib.Core.List.{List, [], ◌∷◌, map}
use lib.ListN.{length, take}
use lib.Ieee.{Float}
use Rattle.stepper.specs.Stepper.{Rule, Method, entrywise, derivatives, stage_points, moved}
use Rattle.stepper.proofs.Entrywise.{entrywise_length, entrywise_front}

-- a step keeps every length
pub moved_length : (M : Method) (fs : List (List Float → List Float)) (v : List Float) → length (moved M fs v) ≡ length v
unfolding moved
moved_length M fs v = entrywise_length M.update (derivatives M.points fs [] v) v

-- d places count, of the w that the code computes
module _ (d w : ℕ) (few : d ≤ w) (B : List Float) where
  -- the arrays that one stage computes: its point, and its derivative K by f
  pub record Stage (p : Rule) (f : List Float → List Float) (Ks : List (List Float)) (K : List Float) : Type 0 where
    pub point : List Float
    pub is_point : take w point ≡ entrywise p (map (take w) Ks) (take w B)
    pub is_derivative : take d K ≡ f (take d point)

  stage_next : (p : Rule) (f : List Float → List Float) (Ks : List (List Float)) (K : List Float) → Stage p f Ks K
      → take d K ≡ f (entrywise p (map (take d) Ks) (take d B))
  stage_next p f Ks K s = s.is_derivative ∙ ap f (entrywise_front p d w few Ks B s.point s.is_point)

  -- Ls are the derivatives that the stages from here on leave behind Ks
  unfoldable pub Computed : List Rule → List (List Float → List Float) → List (List Float) → List (List Float) → Type 0
  Computed [] fs Ks Ls = Ls ≡ Ks
  Computed (p ∷ ps) [] Ks Ls = Ls ≡ Ks
  Computed (p ∷ ps) (f ∷ fs) Ks Ls = (K : List Float) × Stage p f Ks K × Computed ps fs (K ∷ Ks) Ls

  -- what the code holds is what the definition says
  pub computed_derivatives : (ps : List Rule) (fs : List (List Float → List Float)) (Ks Ls : List (List Float)) → Computed ps fs Ks Ls
      → map (take d) Ls ≡ derivatives ps fs (map (take d) Ks) (take d B)
  unfolding derivatives Computed
  computed_derivatives [] fs Ks Ls c = ap (map (take d)) c
  computed_derivatives (p ∷ ps) [] Ks Ls c = ap (map (take d)) c
  computed_derivatives (p ∷ ps) (f ∷ fs) Ks Ls c =
      computed_derivatives ps fs (c.0 ∷ Ks) Ls c.2 ∙ ap (λ (k : List Float). derivatives ps fs (k ∷ map (take d) Ks) (take d B)) (stage_next p f Ks c.0 c.1)

  pub moved_front : (M : Method) (fs : List (List Float → List Float)) (Ls : List (List Float)) → Computed M.points fs [] Ls
      → entrywise M.update (map (take d) Ls) (take d B) ≡ moved M fs (take d B)
  unfolding moved
  moved_front M fs Ls c = ap (λ (l : List (List Float)). entrywise M.update l (take d B)) (computed_derivatives M.points fs [] Ls c)

  -- the points, where every stage has the map f: those of the definition
  unfoldable pub points_of : (ps : List Rule) (fs : List (List Float → List Float)) (Ks Ls : List (List Float)) → Computed ps fs Ks Ls → List (List Float)
  unfolding Computed
  points_of [] fs Ks Ls c = []
  points_of (p ∷ ps) [] Ks Ls c = []
  points_of (p ∷ ps) (f ∷ fs) Ks Ls c = take d c.1.point ∷ points_of ps fs (c.0 ∷ Ks) Ls c.2

  pub computed_points : (f : List Float → List Float) (ps : List Rule) (Ks Ls : List (List Float)) (c : Computed ps (map (λ _. f) ps) Ks Ls)
      → points_of ps (map (λ _. f) ps) Ks Ls c ≡ stage_points ps f (map (take d) Ks) (take d B)
  unfolding stage_points Computed points_of
  computed_points f [] Ks Ls c = refl
  computed_points f (p ∷ ps) Ks Ls c =
      ap₂ (λ (y : List Float) (l : List (List Float)). y ∷ l)
      (entrywise_front p d w few Ks B c.1.point c.1.is_point)
      (computed_points f ps (c.0 ∷ Ks) Ls c.2
      ∙ ap (λ (k : List Float). stage_points ps f (k ∷ map (take d) Ks) (take d B)) (stage_next p f Ks c.0 c.1))
