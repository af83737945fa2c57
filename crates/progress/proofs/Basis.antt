-- The orthonormaliser's answer is the reorthonormalisation of a run under way.
use Prim.Native.Nat.{ℕ, ◌+◌, ◌*◌, ◌/◌, ◌≤◌, ◌<◌}
use native.Mathlib.Nat.{mul-div_cancel}
use native.Mathlib.Omega.{arith}
use mathlib.Core.Path.{◌≡◌, refl, sym, ap, ◌∙◌}
use mathlib.Core.List.{List, [], ◌++◌}
use mathlib.Core.Option.{Option, none, some}
use borrow.Author.Tests.{ne_eqb, le-ltb}
use lib.ListN.{length, take, drop}
use lib.Seq.{take_at, drop_at}
use lib.Ieee.{Float}
use Rattle.std.specs.Prelude.{Ok, Err}
use Rattle.error.specs.Refusal.{refusal, refuse}
use Rattle.error.specs.declared.LyapunovError.{LyapunovError}
use Rattle.floats.specs.Vector.{chunks, concat}
use Rattle.floats.proofs.Vector.{Sized, chunks_sized, chunks_concat, chunks_length}
use Rattle.gram_schmidt.specs.Orthonormalise.{Basis, orthonormalise}
use Rattle.gram_schmidt.specs.GramSchmidt.{Orthonormalised, euclidean, stored, orthonormalised, collapse_refusal, holds, observed}
use Rattle.gram_schmidt.proofs.Finished.{after, norms_length}
use Rattle.benettin.specs.Run.{Dynamics, RunState, Norms, Totals, ok, refused, refused_at, unless_collapsed, reorthonormalise}
use Rattle.benettin.proofs.Prefix.{orthonormalise_sized, orthonormalise_whole}
use Rattle.totals.specs.Progress.{motion, norms_of, joined}

-- the directions that lie in t
abbrev pub basis : ℕ → ℕ → List Float → Basis
basis d k t = orthonormalise euclidean [] (chunks d k t)

collapsed_refused : (o : Option ℕ) (c : RunState) (b : Basis) (ε : LyapunovError) → some (refusal ε) ≡ collapse_refusal o → unless_collapsed o c b ≡ refused (refused_at (refusal ε).number (refusal ε).place c)
unfolding unless_collapsed
collapsed_refused none c b ε e = cc
collapsed_refused (some j) c b ε e = let z : refusal ε ≡ refuse 14 j = cc in rw z

no_collapse : (o : Option ℕ) → none ≡ collapse_refusal o → o ≡ none
no_collapse none e = refl
no_collapse (some j) e = cc

module _ (d k : ℕ) (t norms : List Float) (h : 0 < d) (g : k ≤ 16) (l : length t ≡ k * d) (m : length norms ≡ 32) where
  stored_is : orthonormalised euclidean t d norms ≡ stored k t norms (basis d k t)
  unfolding orthonormalised
  stored_is =
      let e : length t / d ≡ k = ap (λ (n : ℕ). n / d) l ∙ mul-div_cancel k h in
      rw (e, ne_eqb d 0 (λ z. omega arith), le-ltb (length norms) (2 * k) (omega arith))

  reported_is : (x : Orthonormalised) → x ≡ orthonormalised euclidean t d norms → x.refusal ≡ collapse_refusal (basis d k t).collapse
  unfolding stored
  reported_is x e = ap (λ (x : Orthonormalised). x.refusal) (e ∙ stored_is)

  -- it collapsed, whatever a run holds beside the directions
  pub basis_collapsed : (M : Dynamics) → M.lengths ≡ euclidean → (x : List Float) (time : Float) (s : ℕ) (N : Norms) (T : Totals) (ε : LyapunovError) (t' norms' : List Float)
      → observed (Err ε) t' norms' ≡ orthonormalised euclidean t d norms
      → (let c = joined (motion d k x t time s) N T in reorthonormalise M c ≡ refused (refused_at (refusal ε).number (refusal ε).place c))
  unfolding reorthonormalise
  basis_collapsed M L x time s N T ε t' norms' e =
      rw L (collapsed_refused (basis d k t).collapse (joined (motion d k x t time s) N T) (basis d k t) ε (reported_is _ e))

  -- it did not
  module _ (t' norms' : List Float) (e : observed (Ok tt) t' norms' ≡ orthonormalised euclidean t d norms) where
    whole : (basis d k t).collapse ≡ none
    whole = no_collapse (basis d k t).collapse (reported_is _ e)

    whole_is : observed (Ok tt) t' norms' ≡ holds none (concat (basis d k t).directions ++ drop (k * d) t) ((basis d k t).logs ++ ((basis d k t).reports ++ drop (k + k) norms))
    whole_is = e ∙ stored_is ∙ after euclidean d k t norms (omega arith) (omega arith) whole

    logs_length : length (basis d k t).logs ≡ k
    logs_length = (norms_length euclidean [] (chunks d k t) whole).0 ∙ chunks_length d k t

    reports_length : length (basis d k t).reports ≡ k
    reports_length = (norms_length euclidean [] (chunks d k t) whole).1 ∙ chunks_length d k t

    directions_are : chunks d k t' ≡ (basis d k t).directions
    directions_are =
        let n : length (basis d k t).directions ≡ k = (orthonormalise_whole euclidean [] (chunks d k t)).0 ∙ chunks_length d k t in
        let s : Sized d (basis d k t).directions = orthonormalise_sized euclidean d [] (chunks d k t) (chunks_sized d k t (omega arith)) in
        ap (λ (x : Orthonormalised). chunks d k x.tangents) whole_is
        ∙ ap (λ (j : ℕ). chunks d j (concat (basis d k t).directions ++ drop (k * d) t)) (sym n)
        ∙ chunks_concat d (basis d k t).directions (drop (k * d) t) s

    logs_are : take k norms' ≡ (basis d k t).logs
    logs_are = ap (λ (x : Orthonormalised). take k x.norms) whole_is ∙ take_at (basis d k t).logs _ k logs_length

    reports_are : take k (drop k norms') ≡ (basis d k t).reports
    reports_are =
        ap (λ (x : Orthonormalised). take k (drop k x.norms)) whole_is
        ∙ ap (take k) (drop_at (basis d k t).logs ((basis d k t).reports ++ drop (k + k) norms) k logs_length)
        ∙ take_at (basis d k t).reports _ k reports_length

    pub reports_many : length (take k (drop k norms')) ≡ k
    reports_many = ap length reports_are ∙ reports_length

    pub basis_made : (M : Dynamics) → M.lengths ≡ euclidean → (x : List Float) (time : Float) (s : ℕ) (N : Norms) (T : Totals)
        → reorthonormalise M (joined (motion d k x t time s) N T) ≡ ok (joined (motion d k x t' time s) (norms_of k norms') T)
    unfolding reorthonormalise unless_collapsed
    basis_made M L x time s N T = rw (L, whole, directions_are, logs_are, reports_are)
