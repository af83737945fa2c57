-- A window and a measured window, from what their calls tell.
use Prim.Native.Nat.{ℕ, ◌+◌, ◌-◌, ◌*◌, ◌≤◌}
use native.Mathlib.Numerals.{add-one}
use native.Mathlib.Omega.{arith}
use mathlib.Core.Path.{◌≡◌, refl, sym, ap, ◌∙◌}
use mathlib.Core.List.{List, ◌∷◌, ◌++◌, map}
use lib.ListN.{length, take, drop}
use lib.Seq.{length-take-le}
use lib.Ieee.{Float}
use Rattle.std.specs.Prelude.{Ok, Err}
use Rattle.error.specs.declared.LyapunovError.{LyapunovError}
use Rattle.floats.specs.Arithmetic.{◌⊕◌, ◌⊗◌, ◌⊘◌}
use Rattle.floats.specs.Vector.{zip, updated}
use Rattle.floats.proofs.Updated.{updated_take, updated_length}
use Rattle.system.specs.System.{dim}
use Rattle.system.specs.declared.System.{System}
use Rattle.gram_schmidt.specs.GramSchmidt.{euclidean, observed, orthonormalised}
use Rattle.benettin.specs.Run as Run
use Rattle.benettin.specs.Run.{Dynamics, RunState, ok, steps, count_faint, window, accumulate, as_float, ◌then◌}
use Rattle.benettin.specs.Estimate.{dynamics, limit}
use Rattle.benettin.specs.declared.BenettinConfig.{BenettinConfig}
use Rattle.totals.specs.Progress.{Held, motion, norms_of, totals, joined, run_state, after_steps, with_faint, with_sums, counted, refused_run}
use Rattle.totals.specs.Ending.{most}
use Rattle.totals.specs.declared.Progress.{Progress}
use Rattle.progress.specs.UnderWay.{Fits, Advanced, Windowed, WindowRecorded, with_row_of, MeasuredWindow}
use Rattle.progress.specs.declared.advance.RefusedStep.{RefusedStep}
use Rattle.progress.proofs.Basis as Basis
use Rattle.progress.proofs.Bounds.{bounded_counted, bounded_added}

-- ---- a window

module _ {S : System} {m : List Float} {c : BenettinConfig} {H : Held} (F : Fits S m c most most H) where
  abbrev M : ℕ → Dynamics
  M D = dynamics S m c.step_size D

  abbrev k : ℕ
  k = c.top_k

  abbrev p : Progress
  p = H.progress

  -- the steps came to the state x' and the directions t
  pub steps_refused : {n : ℕ} {x' t : List Float} {e : RefusedStep} → Advanced S m c n p.time H.state H.tangents x' t (Err e) → Windowed S m c n H x' t H.norms (Err (refused_run e.error p.windows (p.steps + e.made)))
  unfolding window ◌then◌
  steps_refused A = record { status = λ D. rw (← A.status D p.steps (norms_of k H.norms) (totals k p)); bounded = λ a b x. tt }

  module _ {n : ℕ} {x' t : List Float} {time : Float} (A : Advanced S m c n p.time H.state H.tangents x' t (Ok time)) (few : n ≤ limit) (l : length t ≡ length H.tangents) (lx : length x' ≡ length H.state) (z : length H.norms ≡ 32) (t' norms' : List Float) where
    many : length t ≡ k * dim S
    many = l ∙ F.tangents

    abbrev after : RunState
    after = joined (motion (dim S) k x' t time (p.steps + n)) (norms_of k H.norms) (totals k p)

    steps_ok : (D : ℕ) → steps (M D) n (run_state (dim S) k H) ≡ ok after
    steps_ok D = sym (A.status D p.steps (norms_of k H.norms) (totals k p))

    entries : length x' ≡ dim S
    entries = lx ∙ F.passed.state

    pub basis_collapsed : {ε : LyapunovError} → observed (Err ε) t' norms' ≡ orthonormalised euclidean t (length x') H.norms → Windowed S m c n H x' t' norms' (Err (refused_run ε p.windows (p.steps + n)))
    unfolding window ◌then◌ dynamics
    basis_collapsed {ε} E =
        record {
          status = λ D.
              rw (
                steps_ok D,
                Basis.basis_collapsed (dim S) k t H.norms F.passed.dimension_above F.passed.count many z (M D) refl x' time (p.steps + n) (norms_of k H.norms) (totals k p) ε t' norms' (rw entries at E),
              );
          bounded = λ a b x. tt;
        }

    pub window_done : observed (Ok tt) t' norms' ≡ orthonormalised euclidean t (length x') H.norms
        → Windowed S m c n H x' t' norms' (Ok (with_faint (after_steps p time n) (updated counted p.faint (take (k + k - k) (drop k norms')))))
    unfolding window count_faint dynamics ◌then◌
    window_done E =
        let y₀ : k + k - k ≡ k = omega arith in
        let e : observed (Ok tt) t' norms' ≡ orthonormalised euclidean t (dim S) H.norms = rw entries at E in
        let r : length (take k (drop k norms')) ≡ k = Basis.reports_many (dim S) k t H.norms F.passed.dimension_above F.passed.count many z t' norms' e in
        let y : take k (updated counted p.faint (take k (drop k norms'))) ≡ zip counted (take k p.faint) (take k (drop k norms')) =
        updated_take counted p.faint (take k (drop k norms')) k r (omega (arith, F.bounded.counts, F.passed.count)) in
        rw y₀ (record {
          status = λ D.
              rw (
                steps_ok D,
                Basis.basis_made (dim S) k t H.norms F.passed.dimension_above F.passed.count many z t' norms' e (M D) refl x' time (p.steps + n) (norms_of k H.norms) (totals k p),
                y,
              );
          bounded = λ a b x. bounded_counted x (take k (drop k norms')) A.clock few (omega (arith, r));
        })

-- ---- a measured window

-- the sums and the row, from what the calls tell
module _ {c : BenettinConfig} {norms : List Float} {q : Progress} (l : length norms ≡ 32) (f : c.top_k ≤ 16) (z : length q.sums ≡ 16) where
  pub recorded_is : (p : Progress) (new : List Float) (D w : Float) → p ≡ with_sums q (updated (◌⊕◌) q.sums (take c.top_k norms)) → D ≡ c.step_size ⊗ as_float c.steps_per_window → w ≡ as_float p.windows
      → new ≡ p.time ∷ map (λ y. y ⊘ D) (take c.top_k norms) ++ map (λ y. y ⊘ (D ⊗ w)) (take (length (take c.top_k norms)) p.sums)
      → WindowRecorded c norms q p new
  unfolding Run.row accumulate
  recorded_is p new D w ep eD ew en =
      let k = c.top_k in
      let u : length (take k norms) ≡ k = length-take-le k norms (omega (arith, l, f)) in
      let s : take k (updated (◌⊕◌) q.sums (take k norms)) ≡ zip (◌⊕◌) (take k q.sums) (take k norms) = updated_take (◌⊕◌) q.sums (take k norms) k u (omega (arith, z, f)) in
      let ew' : w ≡ as_float (q.windows + 1) = ew ∙ ap (λ (r : Progress). as_float r.windows) ep in
      record {
        row_left = λ M d x t old eM.
            let e : new ≡ q.time ∷ map (λ y. y ⊘ M.duration) (take k norms) ++ map (λ y. y ⊘ (M.duration ⊗ as_float (q.windows + 1))) (take k (updated (◌⊕◌) q.sums (take k norms))) =
            en ∙ ap (λ (d : Float). p.time ∷ map (λ y. y ⊘ d) (take k norms) ++ map (λ y. y ⊘ (d ⊗ w)) (take (length (take k norms)) p.sums)) (eD ∙ sym eM) ∙ rw (ep, ew', u) in
            rw (ep, e, s, add-one);
        bounded = λ a b x. rw ep (bounded_added x (updated (◌⊕◌) q.sums (take k norms)) (updated_length (◌⊕◌) q.sums (take k norms)));
      }

pub measured_done : {S : System} {m : List Float} {c : BenettinConfig} {H : Held} {x t norms new : List Float} {q p : Progress} (old : List Float)
    → Windowed S m c c.steps_per_window H x t norms (Ok q) → WindowRecorded c norms q p new → MeasuredWindow S m c H old x t norms new (Ok p)
unfolding dynamics
measured_done {S} {m} {c} {x = x} {t = t} old W R =
    let M = dynamics S m c.step_size c.steps_per_window in
    record {
      row_left = R.row_left M (dim S) x t old refl ∙ ap (with_row_of M old) (W.status c.steps_per_window);
      bounded = λ a b x. R.bounded (a + 1) b (W.bounded a b x);
    }
