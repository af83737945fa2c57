-- A run that is not refused stands somewhere at its end, where it has room in a slot and leaves it sound.
use Prim.Native.Nat.{ℕ, ◌+◌, ◌*◌}
use native.Mathlib.Omega.{arith}
use mathlib.Core.Path.{◌≡◌, refl, subst, ◌∙◌}
use mathlib.Core.List.{List}
use mathlib.Core.Option.{Option, none, some}
use Rattle.error.specs.Tests.{first_failing}
use Rattle.error.specs.declared.Refusal.{Refusal}
use Rattle.system.specs.System.{dim}
use Rattle.benettin.specs.Run.{Dynamics, RunState, Status, ok, refused, Row, course_of, answer, run_tests, run_past, run}
use Rattle.benettin.specs.Estimate.{Input, limit, problem, dynamics, estimate}
use Rattle.benettin.specs.Outputs.{lengths_of, outputs, outputs_from, estimated, sixteen}
use Rattle.benettin.proofs.RunTests.{ready}
use Rattle.benettin.proofs.LeadingSpectrum.{problem_keeps}
use Rattle.benettin.proofs.Either.{Either}
use Rattle.benettin.proofs.Made.{MadeLogs, Any, course_made}
use Rattle.continuation.specs.Continuation.{Stood}
use Rattle.continuation.proofs.GoingOn.{stood_has}
use Rattle.store.proofs.Bounds.{Sound}
use Rattle.store.proofs.Memory.{Fits, sixteen_at_most}
use Rattle.calls.specs.Calls.{Brought, alone}

pub record Stands (b : Brought) (c : RunState) : Type 0 where
  pub stood : Stood b.input b.rates c
  pub fits : Fits (dim b.input.system) b.rates b.input.windows c
  pub sound : Sound c.totals.finished c.motion.steps (sixteen c.totals.faint) c.motion.time

module _ (b : Brought) where
  abbrev i : Input
  i = b.input

  abbrev K : ℕ
  K = b.rates

  abbrev passed : Type 0
  passed = none ≡ first_failing (run_tests (problem i) K (lengths_of b.rows b.exponents b.final_state))

  stands : passed → (c : RunState) → Stood i K c → Stands b c
  unfolding problem dynamics
  stands p c e =
      let r = ready i.windows i K (lengths_of b.rows b.exponents b.final_state) p in
      let w = i.warm_up + i.windows in
      let m : MadeLogs (dim i.system) K (w * limit) w c =
      subst (Either (MadeLogs (dim i.system) K (w * limit) w) Any) e (course_made (problem i) K (problem_keeps i) r.warm_up_steps_limit r.steps_limit r.clock) in
      let h = (stood_has i K c e).0 in
      record {
        stood = e;
        fits =
            record {
              entries = r.step.dimension_within;
              few = r.step.count;
              has = record { has = record { finished = h.finished; state = h.state ∙ r.step.state; directions = h.directions; sums = h.sums; faint = h.faint }; logs = m.logs; reports = m.reports };
              sized = m.made.directions;
            };
        sound =
            record {
              windows = omega (arith, h.finished, r.windows_limit);
              steps = omega (arith, m.made.steps, r.windows_limit, r.warm_up_limit);
              faint = sixteen_at_most (2 * limit) c.totals.faint (λ k. omega (arith, m.made.faint k, r.windows_limit, r.warm_up_limit));
              clock = m.made.clock;
            };
      }

  -- not refused: no test failed, and the course ended
  ended : (M : Dynamics) (w n : ℕ) (rows : List Row) (x : Status) → (outputs w b.rows b.exponents b.final_state (answer M n K rows x)).refusal ≡ none → (c : RunState) × (x ≡ ok c)
  unfolding outputs_from answer
  ended M w n rows (ok c) e = (c, refl)
  ended M w n rows (refused r) e = let z : ◌≡◌ {A = ℕ} 0 1 = cc in absurd (omega arith)

  past : (o : Option Refusal) → o ≡ first_failing (run_tests (problem i) K (lengths_of b.rows b.exponents b.final_state))
      → (outputs i.windows b.rows b.exponents b.final_state (run_past o (problem i) K)).refusal ≡ none → (c : RunState) × Stands b c
  unfolding outputs_from run_past
  past (some r) p e = let z : ◌≡◌ {A = ℕ} 0 1 = cc in absurd (omega arith)
  past none p e =
      let P = problem i in
      let t = course_of P K in
      let x = ended P.dynamics i.windows P.windows t.rows t.end e in
      (x.0, stands p x.0 x.1)

  pub alone_stands : (alone b).refusal ≡ none → (c : RunState) × Stands b c
  unfolding estimated estimate run
  alone_stands e = past (first_failing (run_tests (problem i) K (lengths_of b.rows b.exponents b.final_state))) refl e
