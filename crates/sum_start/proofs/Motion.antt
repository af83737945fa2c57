-- A step takes directions that differ in signs of zeros to such directions: the tangent map of each system, the rules of the method, and the map that they make.
use Prim.Native.Nat.{ℕ, zero, suc, ◌+◌, ◌-◌, ◌%◌}
use mathlib.Core.Path.{◌≡◌, refl, sym, ap, ap₂, ◌∙◌}
use mathlib.Core.List.{List, [], ◌∷◌, map}
use lib.ListN.{drop, get_or-map}
use lib.Ieee.{Float, nan}
use Rattle.floats.specs.Arithmetic.{◌⊗◌, half}
use Rattle.floats.specs.Vector.{chunks}
use Rattle.floats.proofs.Updated.{map_drop}
use Rattle.lorenz96.specs.Ring.{ring, from, cell_tangent, ring_tangent}
use Rattle.matrix.specs.Matrix.{row_start, times}
use Rattle.stepper.specs.Stepper.{Rule, Method, at, entrywise, derivatives, stage_points, moved, advance_by, combine_stage, rk4}
use Rattle.system.specs.System.{field, tangent}
use Rattle.system.specs.declared.System.{System}
use Rattle.system.specs.declared.System.TheVariants.{Lorenz, Rossler, VanDerPol, Linear, Lorenz96}
use Rattle.rk4.specs.Step.{advance}
use Rattle.sum_start.specs.SumStart.{plain}
use Rattle.sum_start.proofs.Plain.{Alike, alike, plain_alike, add_alike, sub_alike, mul_alike, neg_alike}
use Rattle.sum_start.proofs.Vectors.{plains, Alikes, AllAlike, alikes, cons_alike, plains_alike, entry_alike, dot_alike}

-- a map that does not tell signs of zeros
abbrev pub Respects : (List Float → List Float) → Type 0
Respects g = (v : List Float) → Alikes (g v) (g (plains v))

respects : (g : List Float → List Float) → Respects g → (v w : List Float) → Alikes v w → Alikes (g v) (g w)
respects g r v w p = record { same = (r v).same ∙ ap (λ (l : List Float). plains (g l)) p.same ∙ sym (r w).same }

-- ---- the systems

times_respects : (rows : List (List Float)) → Respects (times rows)
unfolding times
times_respects [] t = record { same = refl }
times_respects (r ∷ rows) t = cons_alike (dot_alike (alike row_start) (alikes r) (plains_alike t)) (times_respects rows t)

from_alike : (f g : ℕ → Float) → ((i : ℕ) → Alike (f i) (g i)) → (i n : ℕ) → Alikes (from f i n) (from g i n)
unfolding from
from_alike f g h i zero = record { same = refl }
from_alike f g h i (suc n) = cons_alike (h i) (from_alike f g h (suc i) n)

cell_alike : (n : ℕ) (x u v : ℕ → Float) → ((i : ℕ) → Alike (u i) (v i)) → (i : ℕ) → Alike (cell_tangent n x u i) (cell_tangent n x v i)
cell_alike n x u v e i =
    sub_alike (add_alike (mul_alike (alike _) (e (i + n - 1))) (mul_alike (alike _) (sub_alike (e (i + 1)) (e (i + n - 2))))) (e i)

pub tangent_respects : (S : System) (m p : List Float) → Respects (tangent S m p)
unfolding tangent ring_tangent
tangent_respects (Lorenz σ ρ β) m p t =
    let u = entry_alike t 0 in let v = entry_alike t 1 in let w = entry_alike t 2 in
    cons_alike (mul_alike (alike _) (sub_alike v u))
    (cons_alike (sub_alike (sub_alike (mul_alike (alike _) u) v) (mul_alike (alike _) w))
    (cons_alike (sub_alike (add_alike (mul_alike (alike _) u) (mul_alike (alike _) v)) (mul_alike (alike _) w)) (alikes [])))
tangent_respects (Rossler a b c) m p t =
    let u = entry_alike t 0 in let v = entry_alike t 1 in let w = entry_alike t 2 in
    cons_alike (sub_alike (neg_alike v) w)
    (cons_alike (add_alike u (mul_alike (alike _) v))
    (cons_alike (add_alike (mul_alike (alike _) u) (mul_alike (alike _) w)) (alikes [])))
tangent_respects (VanDerPol μ) m p t =
    let u = entry_alike t 0 in let v = entry_alike t 1 in
    cons_alike v (cons_alike (add_alike (mul_alike (alike _) u) (mul_alike (alike _) v)) (alikes []))
tangent_respects (Linear d) m p t = times_respects (chunks d d m) t
tangent_respects (Lorenz96 n F) m p t = from_alike _ _ (cell_alike n (ring n p) (ring n t) (ring n (plains t)) (λ i. entry_alike t (i % n))) 0 n

-- ---- the method

abbrev RuleRespects : Rule → Type 0
RuleRespects p = (ks : List Float) (x : Float) → Alike (p ks x) (p (plains ks) (plain x))

abbrev AllRespect : List Rule → Type 0
AllRespect [] = Unit {0}
AllRespect (p ∷ ps) = RuleRespects p × AllRespect ps

heads_plain : (ks : List (List Float)) → plains (map (at 0) ks) ≡ map (at 0) (map plains ks)
heads_plain [] = refl
heads_plain (k ∷ ks) = ap₂ (λ (a : Float) (l : List Float). a ∷ l) (sym (get_or-map plain k 0 nan)) (heads_plain ks)

tails_plain : (ks : List (List Float)) → map plains (map (drop 1) ks) ≡ map (drop 1) (map plains ks)
tails_plain [] = refl
tails_plain (k ∷ ks) = ap₂ (λ (a : List Float) (l : List (List Float)). a ∷ l) (map_drop plain 1 k) (tails_plain ks)

entrywise_plain : (p : Rule) → RuleRespects p → (ks : List (List Float)) (v : List Float) → Alikes (entrywise p ks v) (entrywise p (map plains ks) (plains v))
unfolding entrywise
entrywise_plain p r ks [] = record { same = refl }
entrywise_plain p r ks (x ∷ v) =
    let head : Alike (p (map (at 0) ks) x) (p (map (at 0) (map plains ks)) (plain x)) = record { same = (r (map (at 0) ks) x).same ∙ ap (λ (l : List Float). plain (p l (plain x))) (heads_plain ks) } in
    let tail : Alikes (entrywise p (map (drop 1) ks) v) (entrywise p (map (drop 1) (map plains ks)) (plains v)) =
    record { same = (entrywise_plain p r (map (drop 1) ks) v).same ∙ ap (λ (l : List (List Float)). plains (entrywise p l (plains v))) (tails_plain ks) } in
    cons_alike head tail

entrywise_alike : {p : Rule} {ks ks' : List (List Float)} {v v' : List Float} → RuleRespects p → AllAlike ks ks' → Alikes v v' → Alikes (entrywise p ks v) (entrywise p ks' v')
entrywise_alike {p} {ks} {ks'} {v} {v'} r q e =
    record { same = (entrywise_plain p r ks v).same ∙ ap₂ (λ (l : List (List Float)) (m : List Float). plains (entrywise p l m)) q.same e.same ∙ sym (entrywise_plain p r ks' v').same }

module _ (g : List Float → List Float → List Float) (G : (y : List Float) → Respects (g y)) where
  derivatives_alike : (ps : List Rule) → AllRespect ps → (ys ks ks' : List (List Float)) (v v' : List Float) → AllAlike ks ks' → Alikes v v'
      → AllAlike (derivatives ps (map g ys) ks v) (derivatives ps (map g ys) ks' v')
  unfolding derivatives
  derivatives_alike [] r ys ks ks' v v' q e = q
  derivatives_alike (p ∷ ps) r [] ks ks' v v' q e = q
  derivatives_alike (p ∷ ps) r (y ∷ ys) ks ks' v v' q e =
      let k = respects (g y) (G y) _ _ (entrywise_alike r.0 q e) in
      derivatives_alike ps r.1 ys (g y (entrywise p ks v) ∷ ks) (g y (entrywise p ks' v') ∷ ks') v v'
      (record { same = ap₂ (λ (a : List Float) (l : List (List Float)). a ∷ l) k.same q.same }) e

  moved_respects : (M : Method) → AllRespect M.points → RuleRespects M.update → (ys : List (List Float)) → Respects (moved M (map g ys))
  unfolding moved
  moved_respects M r u ys v =
      let none : AllAlike [] [] = record { same = refl } in
      entrywise_alike u (derivatives_alike M.points r ys [] [] v (plains v) none (plains_alike v)) (plains_alike v)

-- ---- the classical stepper

stage_respects : (s : Float) → RuleRespects (combine_stage s)
stage_respects s [] x = plain_alike x
stage_respects s (k ∷ ks) x = add_alike (plain_alike x) (mul_alike (alike s) (plain_alike k))

points_respect : (h : Float) → AllRespect (rk4 h).points
unfolding rk4
points_respect h = ((λ ks x. plain_alike x), (stage_respects (half ⊗ h), (stage_respects (half ⊗ h), (stage_respects h, tt))))

update_respects : (h : Float) → RuleRespects (rk4 h).update
unfolding rk4
update_respects h [] x = plain_alike x
update_respects h (k₄ ∷ []) x = plain_alike x
update_respects h (k₄ ∷ k₃ ∷ []) x = plain_alike x
update_respects h (k₄ ∷ k₃ ∷ k₂ ∷ []) x = plain_alike x
update_respects h (k₄ ∷ k₃ ∷ k₂ ∷ k₁ ∷ ks) x =
    add_alike (plain_alike x)
    (mul_alike (alike _) (add_alike (add_alike (add_alike (plain_alike k₁) (mul_alike (alike _) (plain_alike k₂))) (mul_alike (alike _) (plain_alike k₃))) (plain_alike k₄)))

pub advance_respects : (S : System) (m : List Float) (h : Float) (x : List Float) → Respects (advance S m h x).1
unfolding advance advance_by
advance_respects S m h x = moved_respects (tangent S m) (tangent_respects S m) (rk4 h) (points_respect h) (update_respects h) (stage_points (rk4 h).points (field S m) [] x)
