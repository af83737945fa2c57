-- A list of tests: what is refused at the first that fails, and what is known once all are passed.
use Prim.Native.Nat.{ℕ}
use native.Mathlib.Omega.{arith}
use mathlib.Core.Path.{◌≡◌, refl, sym, ap, ◌∙◌}
use mathlib.Core.Bool.{Bool, true, false, cond}
use mathlib.Core.List.{List, [], ◌∷◌, ◌++◌}
use mathlib.Core.Option.{Option, none, some}
use Rattle.std.specs.Prelude.{Result, Err}
use Rattle.std.specs.Result.{IsErrAnd}
use Rattle.std.proofs.lemmas.Result.{err_from_is_err_and}
use Rattle.error.specs.Refusal.{refusal, reported}
use Rattle.error.specs.Tests.{Test, first_failing, ◌else◌}
use Rattle.error.specs.declared.LyapunovError.{LyapunovError}
use Rattle.error.specs.declared.Refusal.{Refusal}

-- ---- an error that `?` hands on

pub handed_on : {A E : Type 0} (r : Result A E) {ε : E} → IsErrAnd r (λ e. e ≡ ε) → r ≡ Err ε
handed_on r q = let p = err_from_is_err_and r q in p.1 ∙ ap Err p.2

-- ---- one test

module _ (t : Test) (ts : List Test) where
  pub skip : {r : Option Refusal} → t.passes ≡ true → r ≡ first_failing ts → r ≡ first_failing (t ∷ ts)
  unfolding first_failing
  skip e h = rw e h

  pub stop : t.passes ≡ false → some t.refusal ≡ first_failing (t ∷ ts)
  unfolding first_failing
  stop e = rw e

  pub passed : none ≡ first_failing (t ∷ ts) → (t.passes ≡ true) × (none ≡ first_failing ts)
  unfolding first_failing
  passed = go t.passes
    where
      go : (b : Bool) → none ≡ cond b (first_failing ts) (some t.refusal) → (b ≡ true) × (none ≡ first_failing ts)
      go true h = (refl, h)
      go false h = let z : ◌≡◌ {A = ℕ} 0 1 = cc in absurd (omega arith)

pub none_left : none ≡ first_failing []
unfolding first_failing
none_left = refl

-- ---- one list behind another

pub first_append : (ts us : List Test) → first_failing (ts ++ us) ≡ (first_failing ts else first_failing us)
unfolding first_failing ◌else◌
first_append [] us = refl
first_append (t ∷ ts) us = go t.passes (first_append ts us)
  where
    go : (b : Bool) → first_failing (ts ++ us) ≡ (first_failing ts else first_failing us)
        → cond b (first_failing (ts ++ us)) (some t.refusal) ≡ (cond b (first_failing ts) (some t.refusal) else first_failing us)
    go true h = h
    go false h = refl

module _ {A : Type 0} (a b : Option A) where
  pub else_stop : (r : A) → some r ≡ a → some r ≡ (a else b)
  unfolding ◌else◌
  else_stop r e = rw (← e)

  pub else_go : {r : Option A} → none ≡ a → r ≡ b → r ≡ (a else b)
  unfolding ◌else◌
  else_go e f = rw (← e) f

pub else_none : {A : Type 0} (a : Option A) → (a else none) ≡ a
unfolding ◌else◌
else_none none = refl
else_none (some x) = refl

-- ---- blocks of tests, one behind the other

module _ (ts us : List Test) where
  -- a block that is passed leaves the answer to those behind it
  pub behind : {o : Option Refusal} → none ≡ first_failing ts → o ≡ first_failing us → o ≡ first_failing (ts ++ us)
  behind e f = else_go _ _ e f ∙ sym (first_append ts us)

  pub both_passed : none ≡ first_failing (ts ++ us) → (none ≡ first_failing ts) × (none ≡ first_failing us)
  unfolding ◌else◌
  both_passed e = go (first_failing ts) (first_failing us) (e ∙ first_append ts us)
    where
      go : (a b : Option Refusal) → none ≡ (a else b) → (none ≡ a) × (none ≡ b)
      go none b h = (refl, h)
      go (some r) b h = let z : ◌≡◌ {A = ℕ} 0 1 = cc in absurd (omega arith)

-- ---- blocks of tests that the code makes

-- what `?` answers where a block is refused, whatever stands behind it
pub stopped : (ts us : List Test) {A : Type 0} (r : Result A LyapunovError) (ε : LyapunovError) → IsErrAnd r (λ e. e ≡ ε) → some (refusal ε) ≡ first_failing ts → reported r ≡ first_failing (ts ++ us)
stopped ts us r ε q e = rw (handed_on r q) (else_stop _ _ _ e ∙ sym (first_append ts us))

-- of two blocks
pub chained : (ts us : List Test) {a b o : Option Refusal} → o ≡ (a else b) → a ≡ first_failing ts → b ≡ first_failing us → o ≡ first_failing (ts ++ us)
chained ts us e f g = e ∙ rw (f, g) (sym (first_append ts us))
