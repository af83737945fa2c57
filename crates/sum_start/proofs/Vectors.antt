-- Vectors but for the signs of zeros: dot products, subtracting a projection, dividing, and what is finite.
use Prim.Native.Nat.{ℕ, suc}
use mathlib.Core.Path.{◌≡◌, refl, sym, ap, ap₂, ◌∙◌}
use mathlib.Core.Bool.{Bool, cond}
use mathlib.Core.List.{List, [], ◌∷◌, ◌++◌, map, map-append}
use mathlib.Core.Option
use mathlib.Core.Option.{Option, some}
use lib.ListN.{get_or, get_or-map}
use lib.Ieee.{Float, nan}
use Rattle.floats.specs.Arithmetic.{◌⊕◌, ◌⊗◌, ◌⊘◌}
use Rattle.floats.specs.Finite.{first_not_finite}
use Rattle.floats.specs.Vector.{updated, dot_from, concat}
use Rattle.gram_schmidt.specs.Orthonormalise.{subtract_projection, orthogonalise, orthogonalise_twice}
use Rattle.sum_start.specs.SumStart.{plain}
use Rattle.sum_start.proofs.Plain.{Alike, alike, plain_alike, finite_plain, add_alike, mul_alike, sub_alike, div_alike}

abbrev pub plains : List Float → List Float
plains v = map plain v

pub record Alikes (v w : List Float) : Type 0 where
  pub same : plains v ≡ plains w

pub record AllAlike (vs ws : List (List Float)) : Type 0 where
  pub same : map plains vs ≡ map plains ws

pub cons_alike : {x y : Float} {v w : List Float} → Alike x y → Alikes v w → Alikes (x ∷ v) (y ∷ w)
cons_alike p q = record { same = ap₂ (λ (a : Float) (l : List Float). a ∷ l) p.same q.same }

pub alikes : (v : List Float) → Alikes v v
alikes v = record { same = refl }

pub plains_alike : (v : List Float) → Alikes v (plains v)
plains_alike [] = record { same = refl }
plains_alike (x ∷ v) = cons_alike (plain_alike x) (plains_alike v)

pub all_alike : (vs : List (List Float)) → AllAlike vs (map plains vs)
all_alike [] = record { same = refl }
all_alike (v ∷ vs) = record { same = ap₂ (λ (a : List Float) (l : List (List Float)). a ∷ l) (plains_alike v).same (all_alike vs).same }

pub snoc_alike : {vs ws : List (List Float)} {u v : List Float} → AllAlike vs ws → Alikes u v → AllAlike (vs ++ (u ∷ [])) (ws ++ (v ∷ []))
snoc_alike {vs} {ws} {u} {v} p q =
    record { same = map-append plains vs (u ∷ []) ∙ ap₂ (λ (l : List (List Float)) (a : List Float). l ++ (a ∷ [])) p.same q.same ∙ sym (map-append plains ws (v ∷ [])) }

-- an entry, past the end too
pub entry_alike : (t : List Float) (i : ℕ) → Alike (get_or t i nan) (get_or (plains t) i nan)
entry_alike t i = record { same = (plain_alike (get_or t i nan)).same ∙ ap plain (sym (get_or-map plain t i nan)) }

-- ---- what is finite

not_finite_plain : (v : List Float) → first_not_finite v ≡ first_not_finite (plains v)
unfolding first_not_finite
not_finite_plain [] = refl
not_finite_plain (x ∷ v) = ap₂ (λ (b : Bool) (o : Option ℕ). cond b (Option.map suc o) (some 0)) (sym (finite_plain x)) (not_finite_plain v)

concat_plain : (vs : List (List Float)) → plains (concat vs) ≡ concat (map plains vs)
unfolding concat
concat_plain [] = refl
concat_plain (v ∷ vs) = map-append plain v (concat vs) ∙ ap (λ (l : List Float). plains v ++ l) (concat_plain vs)

pub not_finite_all : (vs : List (List Float)) → first_not_finite (concat vs) ≡ first_not_finite (concat (map plains vs))
not_finite_all vs = not_finite_plain (concat vs) ∙ ap first_not_finite (concat_plain vs)

-- ---- a dot product

dot_plain : (s s' : Float) → Alike s s' → (v w : List Float) → Alike (dot_from s v w) (dot_from s' (plains v) (plains w))
unfolding dot_from
dot_plain s s' e [] w = e
dot_plain s s' e (x ∷ v) [] = e
dot_plain s s' e (x ∷ v) (y ∷ w) = dot_plain (s ⊕ x ⊗ y) (s' ⊕ plain x ⊗ plain y) (add_alike e (mul_alike (plain_alike x) (plain_alike y))) v w

pub dot_alike : {s s' : Float} {v v' w w' : List Float} → Alike s s' → Alikes v v' → Alikes w w' → Alike (dot_from s v w) (dot_from s' v' w')
dot_alike {s} {s'} {v} {v'} {w} {w'} e p q =
    record { same = (dot_plain s s' e v w).same ∙ ap₂ (λ (a b : List Float). plain (dot_from s' a b)) p.same q.same ∙ sym (dot_plain s' s' (alike s') v' w').same }

-- ---- a direction is cleared

subtract_plain : (p p' : Float) → Alike p p' → (v b : List Float) → Alikes (subtract_projection p v b) (subtract_projection p' (plains v) (plains b))
unfolding updated
subtract_plain p p' e [] b = record { same = refl }
subtract_plain p p' e (x ∷ v) [] = plains_alike (x ∷ v)
subtract_plain p p' e (x ∷ v) (y ∷ b) = cons_alike (sub_alike (plain_alike x) (mul_alike e (plain_alike y))) (subtract_plain p p' e v b)

subtract_alike : {p p' : Float} {v v' b b' : List Float} → Alike p p' → Alikes v v' → Alikes b b' → Alikes (subtract_projection p v b) (subtract_projection p' v' b')
subtract_alike {p} {p'} {v} {v'} {b} {b'} e q r =
    record { same = (subtract_plain p p' e v b).same ∙ ap₂ (λ (l m : List Float). plains (subtract_projection p' l m)) q.same r.same ∙ sym (subtract_plain p' p' (alike p') v' b').same }

orthogonalise_plain : (z z' : Float) → Alike z z' → (bs : List (List Float)) (v v' : List Float) → Alikes v v' → Alikes (orthogonalise z bs v) (orthogonalise z' (map plains bs) v')
unfolding orthogonalise
orthogonalise_plain z z' e [] v v' p = p
orthogonalise_plain z z' e (b ∷ bs) v v' p =
    orthogonalise_plain z z' e bs (subtract_projection (dot_from z b v) v b) (subtract_projection (dot_from z' (plains b) v') v' (plains b))
    (subtract_alike (dot_alike e (plains_alike b) p) p (plains_alike b))

orthogonalise_alike : {z z' : Float} {bs bs' : List (List Float)} {v v' : List Float} → Alike z z' → AllAlike bs bs' → Alikes v v' → Alikes (orthogonalise z bs v) (orthogonalise z' bs' v')
orthogonalise_alike {z} {z'} {bs} {bs'} {v} {v'} e q p =
    record {
      same =
          (orthogonalise_plain z z' e bs v v' p).same ∙ ap (λ (l : List (List Float)). plains (orthogonalise z' l v')) q.same ∙ sym (orthogonalise_plain z' z' (alike z') bs' v' v' (alikes v')).same;
    }

pub twice_alike : {z z' : Float} {bs bs' : List (List Float)} {v v' : List Float} → Alike z z' → AllAlike bs bs' → Alikes v v' → Alikes (orthogonalise_twice z bs v) (orthogonalise_twice z' bs' v')
twice_alike e q p = orthogonalise_alike e q (orthogonalise_alike e q p)

-- ---- a direction is divided

divide_plain : (r : Float) (w : List Float) → Alikes (map (λ x. x ⊘ r) w) (map (λ x. x ⊘ r) (plains w))
divide_plain r [] = record { same = refl }
divide_plain r (x ∷ w) = cons_alike (div_alike (plain_alike x) refl) (divide_plain r w)

pub divide_alike : {r r' : Float} {w w' : List Float} → r ≡ r' → Alikes w w' → Alikes (map (λ x. x ⊘ r) w) (map (λ x. x ⊘ r') w')
divide_alike {r} {r'} {w} {w'} e p =
    record { same = (divide_plain r w).same ∙ ap₂ (λ (a : Float) (l : List Float). plains (map (λ x. x ⊘ a) l)) e p.same ∙ sym (divide_plain r' w').same }
