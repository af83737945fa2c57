-- Steps called one after the other are the steps of a run under way.
use Prim.Native.Nat.{ℕ, suc, ◌+◌, ◌-◌, ◌*◌, ◌<◌}
use native.Mathlib.Numerals.{add-one}
use native.Mathlib.Omega.{arith}
use mathlib.Core.Path.{◌≡◌, refl, sym, ap, ◌∙◌}
use mathlib.Core.Bool.{Bool, true, false}
use mathlib.Core.List.{List, map}
use mathlib.Core.Option.{Option, none, some}
use lib.ListN.{length, length-map}
use lib.Ieee.{Float}
use lib.Ieee.Scale.{finite}
use Rattle.std.specs.Prelude.{Ok, Err}
use Rattle.error.specs.Refusal.{refusal, refuse}
use Rattle.error.specs.declared.LyapunovError.{LyapunovError}
use Rattle.error.specs.declared.LyapunovError.TheVariants.{InvalidTime}
use Rattle.error.specs.declared.Refusal.{Refusal}
use Rattle.floats.specs.Arithmetic.{◌⊕◌}
use Rattle.floats.specs.Finite.{first_not_finite}
use Rattle.floats.specs.Vector.{chunks, concat}
use Rattle.floats.proofs.Vector.{Sized, chunks_sized, chunks_length, chunks_back, map_sized}
use Rattle.system.specs.System.{dim}
use Rattle.system.specs.declared.System.{System}
use Rattle.rk4.specs.Step.{Stepped, advance, advanced, not_finite, observed}
use Rattle.rk4.specs.Tests.{Passed}
use Rattle.rk4.proofs.Advance.{direction_length}
use Rattle.rk4.proofs.Tests.{passed_kept}
use Rattle.benettin.specs.Run.{Dynamics, RunState, Norms, Totals, Status, ok, refused, refused_at, tested, step, steps, ◌then◌}
use Rattle.benettin.specs.Estimate.{dynamics}
use Rattle.benettin.specs.declared.BenettinConfig.{BenettinConfig}
use Rattle.totals.specs.Progress.{motion, joined}
use Rattle.progress.specs.UnderWay.{Advanced}

-- ---- one step

tested_refused : (o q : Option ℕ) (b : Bool) (c e : RunState) (ρ : Refusal) → some ρ ≡ not_finite o q → tested o q b c e ≡ refused (refused_at ρ.number ρ.place c)
unfolding tested
tested_refused (some i) q b c e ρ h = let z : ρ ≡ refuse 16 i = cc in rw z
tested_refused none (some i) b c e ρ h = let z : ρ ≡ refuse 17 i = cc in rw z
tested_refused none none b c e ρ h = cc

-- where nothing is refused the time decides
tested_time : (o q : Option ℕ) (b : Bool) (c e : RunState) → none ≡ not_finite o q → tested o q b c e ≡ tested none none b c e
tested_time (some i) q b c e h = cc
tested_time none (some i) b c e h = cc
tested_time none none b c e h = refl

-- from what the step told, of a run that holds N and T beside the slices and has made s steps
module _ {S : System} {m x : List Float} {k : ℕ} {h : Float} (D : ℕ) (time : Float) (t : List Float) (P : Passed S m x k h) (l : length t ≡ k * dim S) (x' t' : List Float) (s : ℕ) (N : Norms) (T : Totals) where
  abbrev M : Dynamics
  M = dynamics S m h D

  abbrev here : RunState
  here = joined (motion (dim S) k x t time s) N T

  abbrev directions_after : List (List Float)
  directions_after = map (advance S m h x).1 (chunks (dim S) k t)

  answered : (y : Stepped) → y ≡ advanced S m x t k h → y.refusal ≡ not_finite (first_not_finite (advance S m h x).0) (first_not_finite (concat directions_after))
  unfolding advanced
  answered y e = ap (λ (y : Stepped). y.refusal) e

  step_refused : (ε : LyapunovError) → observed (Err ε) x' t' ≡ advanced S m x t k h → step M here ≡ refused (refused_at (refusal ε).number (refusal ε).place here)
  unfolding step dynamics
  step_refused ε e = tested_refused (first_not_finite (advance S m h x).0) (first_not_finite (concat directions_after)) _ _ _ (refusal ε) (answered _ e)

  module _ (e : observed (Ok tt) x' t' ≡ advanced S m x t k h) where
    step_late : finite (time ⊕ h) ≡ false → step M here ≡ refused (refused_at 18 0 here)
    unfolding step dynamics tested
    step_late b = tested_time (first_not_finite (advance S m h x).0) (first_not_finite (concat directions_after)) _ _ _ (answered _ e) ∙ rw b

    step_on : finite (time ⊕ h) ≡ true → step M here ≡ ok (joined (motion (dim S) k x' t' (time ⊕ h) (s + 1)) N T)
    unfolding step dynamics tested advanced
    step_on b =
        let d : Sized (dim S) directions_after = map_sized (dim S) (advance S m h x).1 (λ v l. direction_length S m h x v ∙ l) (chunks (dim S) k t) (chunks_sized (dim S) k t (omega arith)) in
        let w : length directions_after ≡ k = length-map (chunks (dim S) k t) (advance S m h x).1 ∙ chunks_length (dim S) k t in
        let y : x' ≡ (advance S m h x).0 = ap (λ (y : Stepped). y.state) e in
        let z : chunks (dim S) k t' ≡ directions_after = ap (λ (y : Stepped). chunks (dim S) k y.tangents) e ∙ chunks_back (dim S) k directions_after d w in
        tested_time (first_not_finite (advance S m h x).0) (first_not_finite (concat directions_after)) _ _ _ (answered _ e) ∙ rw (b, y, z, add-one)

-- ---- the loop

-- when i of n steps are made: those from here on are all of them from the start
pub record Stepping (S : System) (m : List Float) (c : BenettinConfig) (n : ℕ) (time₀ : Float) (x₀ t₀ : List Float) (i : ℕ) (time : Float) (x t : List Float) : Type 0 where
  pub passed : Passed S m x c.top_k c.step_size
  pub tangents : length t ≡ c.top_k * dim S
  pub clock : finite time ≡ true
  pub rest : (D s : ℕ) (N : Norms) (T : Totals)
      → (let M = dynamics S m c.step_size D in
      steps M (n - i) (joined (motion (dim S) c.top_k x t time (s + i)) N T) ≡ steps M n (joined (motion (dim S) c.top_k x₀ t₀ time₀ s) N T))

module _ {S : System} {m : List Float} {c : BenettinConfig} {n : ℕ} {time₀ : Float} {x₀ t₀ : List Float} {i : ℕ} {time : Float} {x t : List Float} (I : Stepping S m c n time₀ x₀ t₀ i time x t) where
  pub stepping_end : i ≡ n → Advanced S m c n time₀ x₀ t₀ x t (Ok time)
  unfolding steps
  stepping_end g = record { status = λ D s N T. let z : n - i ≡ 0 = omega arith in sym (rw (z, g)) ∙ I.rest D s N T; clock = I.clock; few = tt }

  module _ (x' t' : List Float) (g : i < n) where
    first : (D s : ℕ) (N : Norms) (T : Totals) (o : Status)
        → (let M = dynamics S m c.step_size D in
        step M (joined (motion (dim S) c.top_k x t time (s + i)) N T) ≡ o → (o then steps M (n - (i + 1))) ≡ steps M n (joined (motion (dim S) c.top_k x₀ t₀ time₀ s) N T))
    unfolding steps
    first D s N T o f = let z : n - i ≡ suc (n - (i + 1)) = omega arith in sym (rw (z, f)) ∙ I.rest D s N T

    pub stepping_refused : {ε : LyapunovError} → observed (Err ε) x' t' ≡ advanced S m x t c.top_k c.step_size → Advanced S m c n time₀ x₀ t₀ x' t' (Err (record { error = ε; made = i }))
    unfolding ◌then◌
    stepping_refused {ε} e = record { status = λ D s N T. first D s N T _ (step_refused D time t I.passed I.tangents x' t' (s + i) N T ε e); clock = tt; few = omega arith }

    module _ (e : observed (Ok tt) x' t' ≡ advanced S m x t c.top_k c.step_size) where
      pub stepping_late : finite (time ⊕ c.step_size) ≡ false → Advanced S m c n time₀ x₀ t₀ x' t' (Err (record { error = InvalidTime; made = i }))
      unfolding ◌then◌
      stepping_late b = record { status = λ D s N T. first D s N T _ (step_late D time t I.passed I.tangents x' t' (s + i) N T e b); clock = tt; few = omega arith }

      pub stepping_on : length x' ≡ length x → length t' ≡ length t → finite (time ⊕ c.step_size) ≡ true → Stepping S m c n time₀ x₀ t₀ (i + 1) (time ⊕ c.step_size) x' t'
      unfolding ◌then◌
      stepping_on ex et b =
          record {
            passed = passed_kept ex I.passed;
            tangents = et ∙ I.tangents;
            clock = b;
            rest = λ D s N T. let z : s + (i + 1) ≡ s + i + 1 = omega arith in rw z (first D s N T _ (step_on D time t I.passed I.tangents x' t' (s + i) N T e b));
          }
