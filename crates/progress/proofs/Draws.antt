-- The begin of a run: the loop that draws, the directions that the draws fill, and the duration of a window.
use Prim.Native.Nat.{ℕ, zero, suc, ◌+◌, ◌-◌, ◌*◌, ◌≤◌, ◌<◌}
use native.Mathlib.Nat.{suc-mul, add_comm}
use native.Mathlib.Numerals.{add-one}
use native.Mathlib.Omega.{arith}
use mathlib.Core.Path.{◌≡◌, refl, sym, ap, ◌∙◌}
use mathlib.Core.List.{List, [], ◌++◌, append-nil}
use lib.ListN.{length, take, set}
use lib.Seq.{take_all, take_at, drop_at, take-suc-set, append_snoc}
use lib.Ieee.{Float}
use mathlib.Core.Bool.{true, false}
use Rattle.std.specs.Prelude.{Ok, Err}
use Rattle.error.specs.declared.LyapunovError.{LyapunovError}
use Rattle.error.specs.declared.LyapunovError.TheVariants.{InvalidWindowDuration}
use Rattle.floats.specs.Arithmetic.{◌⊗◌, zero⁺}
use Rattle.system.specs.System.{dim}
use Rattle.system.specs.declared.System.{System}
use Rattle.gram_schmidt.specs.GramSchmidt.{euclidean, orthonormalised, observed}
use lib.Ieee.Scale.{finite}
use Rattle.floats.specs.Vector.{chunks}
use Rattle.splitmix64.specs.Mix.{symmetric_unit}
use Rattle.splitmix64.specs.declared.SplitMix64.{SplitMix64}
use Rattle.benettin.specs.Run.{Generator, RunState, draws, generator_after, drawn_directions, initial, check_duration, begin, as_float, ◌then◌}
use Rattle.benettin.specs.Estimate.{dynamics, splitmix64}
use Rattle.benettin.proofs.Prefix.{draws_length, take_replicate}
use Rattle.benettin.specs.Outputs.{unstarted}
use Rattle.benettin.specs.declared.BenettinConfig.{BenettinConfig}
use Rattle.totals.specs.Progress.{held, motion, joined, run_state, totals, fresh}
use Rattle.progress.specs.UnderWay.{Begins, Begun}
use Rattle.progress.proofs.Basis.{basis_collapsed, basis_made}
use Rattle.progress.proofs.Bounds.{bounded_fresh}

module _ (G : Generator) where
  pub draws_next : (xs : List Float) (n i s : ℕ) → i < n → length xs ≡ n
      → take i xs ++ draws G (n - i) s ≡ take (i + 1) (set xs i (G.draw (G.next s))) ++ draws G (n - (i + 1)) (G.next s)
  unfolding draws
  draws_next xs n i s h e =
      let z : n - i ≡ suc (n - (i + 1)) = omega arith in
      let x = G.draw (G.next s) in
      rw (z, add-one i, take-suc-set xs i x (omega arith)) (sym (append_snoc (take i xs) x (draws G (n - suc i) (G.next s))))

  pub draws_end : (xs : List Float) (n i s : ℕ) → n ≤ i → length xs ≡ n → take i xs ++ draws G (n - i) s ≡ xs
  unfolding draws
  draws_end xs n i s h e = let z : n - i ≡ 0 = omega arith in rw (z, append-nil) (take_all i xs (omega arith))

  draws_add : (n m s : ℕ) → draws G (n + m) s ≡ draws G n s ++ draws G m (generator_after G.next n s)
  unfolding draws generator_after
  draws_add zero m s = let z : 0 + m ≡ m = omega arith in rw z
  draws_add (suc n) m s = let z : suc n + m ≡ suc (n + m) = omega arith in rw (z, draws_add n m (G.next s))

  -- direction by direction
  pub drawn_are : (d k s : ℕ) → chunks d k (draws G (k * d) s) ≡ drawn_directions G d k s
  unfolding chunks drawn_directions
  drawn_are d zero s = refl
  drawn_are d (suc k) s =
      let l : length (draws G d s) ≡ d = draws_length G d s in
      rw (
        suc-mul,
        add_comm (k * d) d,
        draws_add d (k * d) s,
        take_at (draws G d s) (draws G (k * d) (generator_after G.next d s)) d l,
        drop_at (draws G d s) (draws G (k * d) (generator_after G.next d s)) d l,
        drawn_are d k (generator_after G.next d s),
      )

pub draws_iteration : (xs : List Float) (n i : ℕ) (g g' : SplitMix64) (x : Float) → i < n → length xs ≡ n → (g', x) ≡ symmetric_unit g
    → take i xs ++ draws splitmix64 (n - i) g.state ≡ take (i + 1) (set xs i x) ++ draws splitmix64 (n - (i + 1)) g'.state
unfolding splitmix64
draws_iteration xs n i g g' x h e d =
    draws_next splitmix64 xs n i g.state h e ∙ rw (ap (λ (r : SplitMix64 × Float). r.0.state) d, ap (λ (r : SplitMix64 × Float). r.1) d)

-- ---- the begin

-- the drawn directions are orthonormalised
module _ {c : BenettinConfig} {time : Float} {x t : List Float} (G : Begins c time x t) where
  abbrev drawn : List Float
  drawn = draws splitmix64 (length t) c.seed

  abbrev start : System → RunState
  start S = initial splitmix64 (dim S) x time c.seed c.top_k

  -- as the slices hold it
  start_is : (S : System) → length x ≡ dim S → start S ≡ joined (motion (dim S) c.top_k x drawn time 0) (record { logs = []; reports = [] }) (totals c.top_k (fresh time))
  unfolding initial
  start_is S d = rw (G.tangents, d, drawn_are splitmix64 (dim S) c.top_k c.seed, take_replicate zero⁺ c.top_k 16 G.few, take_replicate {A = ℕ} 0 c.top_k 16 G.few)

  drawn_length : (S : System) → length x ≡ dim S → length drawn ≡ c.top_k * dim S
  drawn_length S d = draws_length splitmix64 (length t) c.seed ∙ G.tangents ∙ rw d

  above : (S : System) → length x ≡ dim S → 0 < dim S
  above S d = omega (arith, G.above)

  module _ (norms : List Float) (z : length norms ≡ 32) where
    pub begun_14 : {ε : LyapunovError} {t' norms' : List Float} → observed (Err ε) t' norms' ≡ orthonormalised euclidean drawn (length x) norms → Begun c time x t' norms' (Err (unstarted ε))
    unfolding begin ◌then◌ dynamics
    begun_14 {ε} {t'} {norms'} E =
        record {
          status = λ S m d.
              rw (
                start_is S d,
                basis_collapsed (dim S) c.top_k drawn norms (above S d) G.few (drawn_length S d) z (dynamics S m c.step_size c.steps_per_window) refl x time 0 (record { logs = []; reports = [] }) (totals c.top_k (fresh time)) ε t' norms' (rw d at E),
              );
          bounded = tt;
        }

    module _ {t' norms' : List Float} (E : observed (Ok tt) t' norms' ≡ orthonormalised euclidean drawn (length x) norms) where
      begun_by : (S : System) (m : List Float) → length x ≡ dim S
          → (let M = dynamics S m c.step_size c.steps_per_window in begin M (start S) ≡ check_duration M (run_state (dim S) c.top_k (held x t' norms' (fresh time))))
      unfolding begin ◌then◌ dynamics
      begun_by S m d =
          rw (
            start_is S d,
            basis_made (dim S) c.top_k drawn norms (above S d) G.few (drawn_length S d) z t' norms' (rw d at E) (dynamics S m c.step_size c.steps_per_window) refl x time 0 (record { logs = []; reports = [] }) (totals c.top_k (fresh time)),
          )

      pub begun_15 : finite (c.step_size ⊗ as_float c.steps_per_window) ≡ false → Begun c time x t' norms' (Err (unstarted InvalidWindowDuration))
      unfolding check_duration dynamics
      begun_15 b = record { status = λ S m d. rw (begun_by S m d, b); bounded = tt }

      pub begun : finite (c.step_size ⊗ as_float c.steps_per_window) ≡ true → Begun c time x t' norms' (Ok (fresh time))
      unfolding check_duration dynamics
      begun b = record { status = λ S m d. rw (begun_by S m d, b); bounded = bounded_fresh G.clock }
