-- What is known of a list of which nothing is refused.
use mathlib.Core.Path.{◌≡◌, refl, sym, ap, ◌∙◌}
use mathlib.Core.Bool.{Bool, true, false, cond}
use mathlib.Core.List.{List, [], ◌∷◌}
use mathlib.Core.Option.{Option, none, some, map, some-ne-none}
use Prim.Native.Nat.{ℕ, suc, ◌≤◌}
use native.Mathlib.Omega.{arith}
use lib.Dec.{T, ltb, eqb}
use lib.ListN.{length}
use lib.Ieee.{Float}
use lib.Ieee.Bits.{is_true}
use lib.Ieee.Scale.{finite}
use borrow.Author.Tests.{le-ltb, ne_eqb, eqb-false, ltb-false}
use Rattle.error.specs.declared.Refusal.{Refusal}
use Rattle.error.specs.Refusal.{refuse, value}
use Rattle.floats.specs.Finite.{first_not_finite}
use Rattle.floats.proofs.Zero.{of_true}
use Rattle.diagnostics.specs.Sorting.{All}
use Rattle.diagnostics.specs.Rates.{refused_for, unless}

module _ (xs : List Float) where
  refused_rest : (length xs ≡ 0 → ⊥) → length xs ≤ 256 → map (refuse 22) (first_not_finite xs) ≡ refused_for xs
  unfolding refused_for
  refused_rest n h = rw (ne_eqb (length xs) 0 n, le-ltb 256 (length xs) h)

  -- 1 to 256 exponents, all finite
  pub record Accepted : Type 0 where
    pub some_given : length xs ≡ 0 → ⊥
    pub few : length xs ≤ 256
    pub finite : first_not_finite xs ≡ none

  pub not_refused : Accepted → refused_for xs ≡ none
  not_refused a = sym (refused_rest a.some_given a.few) ∙ ap (map (refuse 22)) a.finite

  pub accepted : refused_for xs ≡ none → Accepted
  unfolding refused_for
  accepted h = go (eqb (length xs) 0) (ltb 256 (length xs)) (first_not_finite xs) refl refl refl h
    where
      go : (p q : Bool) (f : Option ℕ) → eqb (length xs) 0 ≡ p → ltb 256 (length xs) ≡ q → first_not_finite xs ≡ f
          → cond p (some (refuse 20 0)) (cond q (some (refuse 21 0)) (map (refuse 22) f)) ≡ none → Accepted
      go false false none a b c h = record { some_given = eqb-false (length xs) 0 a; few = ltb-false 256 (length xs) b; finite = c }
      go true q f a b c h = absurd (some-ne-none (refuse 20 0) h)
      go false true f a b c h = absurd (some-ne-none (refuse 21 0) h)
      go false false (some i) a b c h = absurd (some-ne-none (refuse 22 i) h)

-- a list of which nothing is refused has at most 256 exponents
pub few : (xs : List Float) → refused_for xs ≡ none → length xs ≤ 256
few xs h = (accepted xs h).few

-- a value is given only where nothing is refused, and it is the one asked for
pub given : (p : Option Refusal) (x d : Float) → unless p x ≡ value d → (p ≡ none) × (x ≡ d)
given none x d h = (refl, cc)
given (some r) x d h = let z : ◌≡◌ {A = ℕ} 0 1 = cc in absurd (no z)
  where
    no : ◌≡◌ {A = ℕ} 0 1 → ⊥
    no z = omega arith

-- ---- all finite
abbrev pub Finite : List Float → Type 0
Finite xs = All (λ x. T (finite x)) xs

pub all_finite : (xs : List Float) → first_not_finite xs ≡ none → Finite xs
unfolding first_not_finite
all_finite [] h = tt
all_finite (x ∷ xs) h = go (finite x) (first_not_finite xs) refl h (all_finite xs)
  where
    go : (b : Bool) (f : Option ℕ) → finite x ≡ b → cond b (map suc f) (some 0) ≡ none → (f ≡ none → Finite xs) → T (finite x) × Finite xs
    go true none e h k = (of_true e, k refl)
    go true (some i) e h k = absurd (some-ne-none (suc i) h)
    go false f e h k = absurd (some-ne-none 0 h)

pub none_not_finite : (xs : List Float) → Finite xs → first_not_finite xs ≡ none
unfolding first_not_finite
none_not_finite [] f = refl
none_not_finite (x ∷ xs) f = rw (is_true (finite x) f.0, none_not_finite xs f.1)
