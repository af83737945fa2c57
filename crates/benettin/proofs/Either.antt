-- What holds of a run under way or of its refusal, past everything that may refuse it.
use Prim.Native.Nat.{ℕ, ◌<◌}
use native.Mathlib.Omega.{arith}
use mathlib.Core.Path.{◌≡◌, refl}
use mathlib.Core.Bool.{Bool, true, false, cond}
use mathlib.Core.List.{[]}
use mathlib.Core.Option.{Option, none, some}
use lib.Ieee.Scale.{finite}
use Rattle.gram_schmidt.specs.Orthonormalise.{Basis, orthonormalise}
use Rattle.benettin.specs.Run.{Dynamics, RunState, RunRefusal, Status, ok, refused, refused_at, ◌then◌, tested, with_basis, unless_collapsed, reorthonormalise, check_duration}

abbrev pub Either : (RunState → Type 0) → (RunRefusal → Type 0) → Status → Type 0
Either R E (ok c) = R c
Either R E (refused r) = E r

module _ (E : RunRefusal → Type 0) where
  pub then_either : (Q R : RunState → Type 0) (x : Status) (f : RunState → Status) → Either Q E x → ((c : RunState) → Q c → Either R E (f c)) → Either R E (x then f)
  unfolding ◌then◌
  then_either Q R (ok c) f q h = h c q
  then_either Q R (refused r) f q h = q

  -- any refusal of c, by a number that is not 0
  module _ (R : RunState → Type 0) (c : RunState) (no : (number place : ℕ) → 0 < number → E (refused_at number place c)) where
    pub tested_either : (p q : Option ℕ) (b : Bool) (e : RunState) → (b ≡ true → R e) → Either R E (tested p q b c e)
    unfolding tested
    tested_either (some i) q b e h = no 16 i (omega arith)
    tested_either none (some i) b e h = no 17 i (omega arith)
    tested_either none none false e h = no 18 0 (omega arith)
    tested_either none none true e h = h refl

    collapsed_either : (o : Option ℕ) (b : Basis) → (o ≡ none → R (with_basis c b)) → Either R E (unless_collapsed o c b)
    unfolding unless_collapsed
    collapsed_either (some i) b h = no 14 i (omega arith)
    collapsed_either none b h = h refl

    pub basis_either : (M : Dynamics) → (let b = orthonormalise M.lengths [] c.motion.directions in b.collapse ≡ none → R (with_basis c b)) → Either R E (reorthonormalise M c)
    unfolding reorthonormalise
    basis_either M h = let b = orthonormalise M.lengths [] c.motion.directions in collapsed_either b.collapse b h

    pub duration_either : (M : Dynamics) → R c → Either R E (check_duration M c)
    unfolding check_duration
    duration_either M h = go (finite M.duration)
      where
        go : (b : Bool) → Either R E (cond b (ok c) (refused (refused_at 15 0 c)))
        go true = h
        go false = no 15 0 (omega arith)
