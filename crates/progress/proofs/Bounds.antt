-- What bounds a run under way, and what fits together, from window to window.
use Prim.Native.Nat.{ℕ, zero, suc, ◌+◌, ◌≤◌}
use native.Mathlib.Omega.{arith}
use mathlib.Core.Path.{◌≡◌, refl, ◌∙◌}
use mathlib.Core.Bool.{true}
use mathlib.Core.List.{List}
use lib.ListN.{length, get_or, replicate}
use lib.Ieee.{Float}
use lib.Ieee.Scale.{finite}
use Rattle.floats.specs.Vector.{updated}
use Rattle.floats.proofs.Updated.{updated_drop, updated_length}
use Rattle.system.specs.declared.System.{System}
use Rattle.rk4.proofs.Tests.{passed_kept}
use Rattle.benettin.specs.Estimate.{limit}
use Rattle.benettin.specs.declared.BenettinConfig.{BenettinConfig}
use Rattle.totals.specs.Progress.{Held, fresh, after_steps, with_faint, with_sums, counted}
use Rattle.totals.specs.Ending.{Bounded}
use Rattle.totals.specs.declared.Progress.{Progress}
use Rattle.totals.proofs.Lists.{counted_more}
use Rattle.progress.specs.UnderWay.{Fits}

pub bounded_up : {k a b c e : ℕ} {p : Progress} → a ≤ b → c ≤ e → Bounded k a c p → Bounded k b e p
bounded_up h g x =
    record { counts = x.counts; behind = x.behind; sums = x.sums; clock = x.clock; steps = omega (arith, x.steps); windows = omega (arith, x.windows); faint = λ i. omega (arith, x.faint i) }

zeros : (n i : ℕ) → ◌≡◌ {A = ℕ} (get_or (replicate n 0) i 0) 0
zeros zero i = refl
zeros (suc n) zero = refl
zeros (suc n) (suc i) = zeros n i

pub bounded_fresh : {k : ℕ} {time : Float} → finite time ≡ true → Bounded k 0 0 (fresh time)
bounded_fresh h = record { counts = refl; behind = refl; sums = refl; clock = h; steps = omega arith; windows = omega arith; faint = λ i. omega (arith, zeros 16 i) }

module _ {k a c : ℕ} {p : Progress} (x : Bounded k a c p) where
  -- one window more
  pub bounded_counted : {time : Float} {made : ℕ} (squares : List Float) → finite time ≡ true → made ≤ limit → length squares ≤ k
      → Bounded k (a + 1) c (with_faint (after_steps p time made) (updated counted p.faint squares))
  bounded_counted squares f h l =
      record {
        counts = updated_length counted p.faint squares ∙ x.counts;
        behind = updated_drop counted p.faint squares k l ∙ x.behind;
        sums = x.sums;
        clock = f;
        steps = omega (arith, x.steps);
        windows = x.windows;
        faint = λ i. omega (arith, x.faint i, counted_more p.faint squares i);
      }

  pub bounded_added : (s : List Float) → length s ≡ length p.sums → Bounded k a (c + 1) (with_sums p s)
  bounded_added s e = record { counts = x.counts; behind = x.behind; sums = e ∙ x.sums; clock = x.clock; steps = x.steps; windows = omega (arith, x.windows); faint = x.faint }

-- ---- slices as long as before

pub record SameLengths (H H' : Held) : Type 0 where
  pub state : length H'.state ≡ length H.state
  pub tangents : length H'.tangents ≡ length H.tangents

pub fits_kept : {S : System} {m : List Float} {s : BenettinConfig} {a c a' c' : ℕ} {H H' : Held} → Fits S m s a c H → SameLengths H H' → Bounded s.top_k a' c' H'.progress → Fits S m s a' c' H'
fits_kept F s b =
    record {
      passed = passed_kept s.state F.passed;
      steps = F.steps;
      tangents = s.tangents ∙ F.tangents;
      bounded = b;
    }

pub fits_up : {S : System} {m : List Float} {s : BenettinConfig} {a b c e : ℕ} {H : Held} → a ≤ b → c ≤ e → Fits S m s a c H → Fits S m s b e H
fits_up x y F = record { passed = F.passed; steps = F.steps; tangents = F.tangents; bounded = bounded_up x y F.bounded }
