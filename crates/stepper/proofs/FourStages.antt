-- What four stages of the classical method give.
use Prim.Native.Nat.{ℕ, ◌≤◌}
use mathlib.Core.Path.{◌≡◌, refl, sym, ◌∙◌}
use mathlib.Core.List.{List, [], ◌∷◌, map}
use lib.ListN.{take}
use lib.Ieee.{Float}
use Rattle.floats.specs.Arithmetic.{◌⊗◌, half}
use Rattle.stepper.specs.Stepper.{entrywise, combine_stage, stage_points, moved, rk4}
use Rattle.stepper.proofs.Entrywise.{entrywise_front, entrywise_base}
use Rattle.stepper.proofs.Moves.{Computed, moved_front, points_of, computed_points}

-- what `combine_stage` leaves: the point t of a stage behind the derivative k
abbrev pub Point : Float → ℕ → List Float → List Float → List Float → Type 0
Point s w b k t = (ks : List (List Float)) → take w t ≡ entrywise (combine_stage s) (map (take w) (k ∷ ks)) (take w b)

-- a vector of d entries is at the front of the array b, of which w places are computed: the points and the derivatives of the stages
pub record Staged (d w : ℕ) (h : Float) (b : List Float) (f₁ f₂ f₃ f₄ : List Float → List Float) (t₂ t₃ t₄ k₁ k₂ k₃ k₄ : List Float) : Type 0 where
  pub within : d ≤ w
  pub derivative₁ : take d k₁ ≡ f₁ (take d b)
  pub point₂ : Point (half ⊗ h) w b k₁ t₂
  pub derivative₂ : take d k₂ ≡ f₂ (take d t₂)
  pub point₃ : Point (half ⊗ h) w b k₂ t₃
  pub derivative₃ : take d k₃ ≡ f₃ (take d t₃)
  pub point₄ : Point h w b k₃ t₄
  pub derivative₄ : take d k₄ ≡ f₄ (take d t₄)

module _ {d w : ℕ} {h : Float} {b : List Float} {f₁ f₂ f₃ f₄ : List Float → List Float} {t₂ t₃ t₄ k₁ k₂ k₃ k₄ : List Float} (s : Staged d w h b f₁ f₂ f₃ f₄ t₂ t₃ t₄ k₁ k₂ k₃ k₄) where
  computed : Computed d w s.within b (rk4 h).points (f₁ ∷ f₂ ∷ f₃ ∷ f₄ ∷ []) [] (k₄ ∷ k₃ ∷ k₂ ∷ k₁ ∷ [])
  unfolding Computed rk4
  computed = (
    k₁,
    record { point = b; is_point = sym (entrywise_base [] (take w b)); is_derivative = s.derivative₁ },
    (
      k₂,
      record { point = t₂; is_point = s.point₂ []; is_derivative = s.derivative₂ },
      (
        k₃,
        record { point = t₃; is_point = s.point₃ (k₁ ∷ []); is_derivative = s.derivative₃ },
        (k₄, record { point = t₄; is_point = s.point₄ (k₂ ∷ k₁ ∷ []); is_derivative = s.derivative₄ }, refl),
      ),
    ),
  )

  -- n is what the update gives
  pub four_stages : (n : List Float) → take w n ≡ entrywise (rk4 h).update (map (take w) (k₄ ∷ k₃ ∷ k₂ ∷ k₁ ∷ [])) (take w b)
      → take d n ≡ moved (rk4 h) (f₁ ∷ f₂ ∷ f₃ ∷ f₄ ∷ []) (take d b)
  four_stages n u =
      let ks = k₄ ∷ k₃ ∷ k₂ ∷ k₁ ∷ [] in
      entrywise_front (rk4 h).update d w s.within ks b n u ∙ moved_front d w s.within b (rk4 h) (f₁ ∷ f₂ ∷ f₃ ∷ f₄ ∷ []) ks computed

-- where all stages have one map
pub four_points : {d w : ℕ} {h : Float} {b : List Float} {f : List Float → List Float} {t₂ t₃ t₄ k₁ k₂ k₃ k₄ : List Float} → Staged d w h b f f f f t₂ t₃ t₄ k₁ k₂ k₃ k₄
    → map (take d) (b ∷ t₂ ∷ t₃ ∷ t₄ ∷ []) ≡ stage_points (rk4 h).points f [] (take d b)
unfolding Computed points_of computed rk4
four_points {d} {w} {h} {b} {f} {k₁ = k₁} {k₂} {k₃} {k₄} s = computed_points d w s.within b f (rk4 h).points [] (k₄ ∷ k₃ ∷ k₂ ∷ k₁ ∷ []) (computed s)
