-- How many of everything a run under way has: K directions, sums and faint counts, d entries of state, and a row of K locals and K runnings for each finished window.
use Prim.Native.Nat.{ℕ, zero, suc, ◌+◌, ◌≤◌, ◌<◌}
use native.Mathlib.Omega.{arith}
use mathlib.Core.Path.{◌≡◌, refl, ap, ◌∙◌}
use mathlib.Core.List.{List, [], map}
use lib.ListN.{length, length-map, length-replicate}
use lib.Ieee.{Float}
use lib.Ieee.Scale.{finite}
use Rattle.floats.specs.Arithmetic.{◌⊕◌, zero⁺}
use Rattle.floats.specs.Finite.{first_not_finite}
use Rattle.floats.specs.Vector.{concat}
use Rattle.floats.proofs.Updated.{zip_length}
use Rattle.gram_schmidt.proofs.Finished.{norms_length}
use Rattle.benettin.specs.Run.{Dynamics, Problem, RunState, RunRefusal, Status, ok, refused, ◌then◌, stepped, step, steps, reorthonormalise, faint_or_not, count_faint, window}
use Rattle.benettin.specs.Run.{warm_up, Course, accumulate, row, with_row, measured, check_duration, begin, warmed_up, measured_from, course, start_of, course_of, initial}
use Rattle.benettin.specs.Refusals.{Wide}
use Rattle.benettin.proofs.Either.{Either, then_either, tested_either, basis_either, duration_either}
use Rattle.benettin.proofs.Prefix.{drawn_directions_length, orthonormalise_whole}

-- K directions, sums and faint counts, d entries of state, and n measured windows finished
pub record Has (d K n : ℕ) (c : RunState) : Type 0 where
  pub finished : c.totals.finished ≡ n
  pub state : length c.motion.state ≡ d
  pub directions : length c.motion.directions ≡ K
  pub sums : length c.totals.sums ≡ K
  pub faint : length c.totals.faint ≡ K

-- the same, with K logarithms and K squared lengths
pub record HasLogs (d K n : ℕ) (c : RunState) : Type 0 where
  pub has : Has d K n c
  pub logs : length c.norms.logs ≡ K
  pub reports : length c.norms.reports ≡ K

-- n windows are finished where it is refused, by a number that is not 0
abbrev pub RefusedAfter : ℕ → RunRefusal → Type 0
RefusedAfter n r = (r.finished ≡ n) × (0 < r.number)

-- what holds of a run under way, or of its refusal
abbrev pub Holds : (RunState → Type 0) → ℕ → Status → Type 0
Holds R n = Either R (RefusedAfter n)

-- ---- a window

-- a step keeps the number of entries of the state
abbrev pub KeepsState : Dynamics → Type 0
KeepsState M = (n : ℕ) (x : List Float) → length (M.advance n x).0 ≡ length x

module _ (M : Dynamics) (keeps : KeepsState M) (d K n : ℕ) where
  step_has : (c : RunState) → Has d K n c → Holds (Has d K n) n (step M c)
  unfolding step
  step_has c h =
      let a = M.advance c.motion.steps c.motion.state in
      let vs = map a.1 c.motion.directions in
      let t = c.motion.time ⊕ M.step_size in
      tested_either (RefusedAfter n) (Has d K n) c (λ _ _ p. (h.finished, p)) (first_not_finite a.0) (first_not_finite (concat vs)) (finite t) (stepped c a.0 vs t)
      (λ _.
      record {
        finished = h.finished;
        state = keeps c.motion.steps c.motion.state ∙ h.state;
        directions = length-map c.motion.directions a.1 ∙ h.directions;
        sums = h.sums;
        faint = h.faint;
      })

  steps_has : (s : ℕ) (c : RunState) → Has d K n c → Holds (Has d K n) n (steps M s c)
  unfolding steps
  steps_has zero c h = h
  steps_has (suc s) c h = then_either (RefusedAfter n) (Has d K n) (Has d K n) (step M c) (steps M s) (step_has c h) (steps_has s)

  basis_has : (c : RunState) → Has d K n c → Holds (HasLogs d K n) n (reorthonormalise M c)
  basis_has c h =
      basis_either (RefusedAfter n) (HasLogs d K n) c (λ _ _ p. (h.finished, p)) M
      (λ e.
      let g = norms_length M.lengths [] c.motion.directions e in
      record {
        has = record { finished = h.finished; state = h.state; directions = (orthonormalise_whole M.lengths [] c.motion.directions).0 ∙ h.directions; sums = h.sums; faint = h.faint };
        logs = g.0 ∙ h.directions;
        reports = g.1 ∙ h.directions;
      })

  faint_has : (c : RunState) → HasLogs d K n c → HasLogs d K n (count_faint M c)
  unfolding count_faint
  faint_has c h =
      let f = zip_length (faint_or_not M.lengths) c.totals.faint c.norms.reports K h.has.faint h.reports in
      record { has = record { finished = h.has.finished; state = h.has.state; directions = h.has.directions; sums = h.has.sums; faint = f }; logs = h.logs; reports = h.reports }

  pub window_has : (s : ℕ) (c : RunState) → Has d K n c → Holds (HasLogs d K n) n (window M s c)
  unfolding window
  window_has s c h =
      then_either (RefusedAfter n) (HasLogs d K n) (HasLogs d K n) (steps M s c then reorthonormalise M) (λ e. ok (count_faint M e))
      (then_either (RefusedAfter n) (Has d K n) (HasLogs d K n) (steps M s c) (reorthonormalise M) (steps_has s c h) basis_has) faint_has

  warm_up_has : (s w : ℕ) (c : RunState) → Has d K n c → Holds (Has d K n) n (warm_up M s w c)
  unfolding warm_up
  warm_up_has s zero c h = h
  warm_up_has s (suc w) c h = then_either (RefusedAfter n) (HasLogs d K n) (Has d K n) (window M s c) (warm_up M s w) (window_has s c h) (λ e g. warm_up_has s w e g.has)

  pub begin_has : (c : RunState) → Has d K n c → Holds (Has d K n) n (begin M c)
  unfolding begin
  begin_has c h =
      then_either (RefusedAfter n) (HasLogs d K n) (Has d K n) (reorthonormalise M c) (check_duration M) (basis_has c h)
      (λ e g. duration_either (RefusedAfter n) (Has d K n) e (λ _ _ p. (g.has.finished, p)) M g.has)

  warmed_up_has : (s w : ℕ) (c : RunState) → Has d K n c → Holds (Has d K n) n (warmed_up M s w c)
  unfolding warmed_up
  warmed_up_has s w c h = then_either (RefusedAfter n) (Has d K n) (Has d K n) (begin M c) (warm_up M s w) (begin_has c h) (warm_up_has s w)

-- ---- each finished window has its row

-- of a course over w windows, when n are finished before it
pub record Rows (d K n w : ℕ) (t : Course) : Type 0 where
  pub wide : Wide K t.rows
  pub few : length t.rows ≤ w
  pub end : Holds (λ c. Has d K (n + length t.rows) c × (length t.rows ≡ w)) (n + length t.rows) t.end

pub accumulate_has : (d K n : ℕ) (c : RunState) → HasLogs d K n c → HasLogs d K (suc n) (accumulate c)
unfolding accumulate
accumulate_has d K n c h =
    let s = zip_length (◌⊕◌) c.totals.sums c.norms.logs K h.has.sums h.logs in
    record { has = record { finished = ap suc h.has.finished; state = h.has.state; directions = h.has.directions; sums = s; faint = h.has.faint }; logs = h.logs; reports = h.reports }

module _ (M : Dynamics) (keeps : KeepsState M) (d K s : ℕ) where
  with_row_rows : (n w : ℕ) (x : Status) (f : RunState → Course) → Holds (HasLogs d K n) n x → ((c : RunState) → Has d K (suc n) c → Rows d K (suc n) w (f c)) → Rows d K n (suc w) (with_row M x f)
  unfolding with_row row
  with_row_rows n w (refused r) f e h = record { wide = tt; few = omega arith; end = (e.0 ∙ omega arith, e.1) }
  with_row_rows n w (ok c) f e h = record { wide = (length-map (accumulate c).norms.logs _ ∙ g.logs, length-map (accumulate c).totals.sums _ ∙ g.has.sums, t.wide); few = omega (arith, t.few); end = go (f (accumulate c)).end t.end }
    where
      g : HasLogs d K (suc n) (accumulate c)
      g = accumulate_has d K n c e

      t : Rows d K (suc n) w (f (accumulate c))
      t = h (accumulate c) g.has

      m : ℕ
      m = length (f (accumulate c)).rows

      go : (x : Status) → Holds (λ c. Has d K (suc n + m) c × (m ≡ w)) (suc n + m) x → Holds (λ c. Has d K (n + suc m) c × (suc m ≡ suc w)) (n + suc m) x
      go (ok b) p =
          let z : suc n + m ≡ n + suc m = omega arith in
          (record { finished = p.0.finished ∙ z; state = p.0.state; directions = p.0.directions; sums = p.0.sums; faint = p.0.faint }, ap suc p.1)
      go (refused r) p = (p.0 ∙ omega arith, p.1)

  pub measured_rows : (w n : ℕ) (c : RunState) → Has d K n c → Rows d K n w (measured M s w c)
  unfolding measured
  measured_rows zero n c h =
      let z : n ≡ n + 0 = omega arith in
      record { wide = tt; few = omega arith; end = (record { finished = h.finished ∙ z; state = h.state; directions = h.directions; sums = h.sums; faint = h.faint }, refl) }
  measured_rows (suc w) n c h = with_row_rows n w (window M s c) (measured M s w) (window_has M keeps d K n s c h) (measured_rows w (suc n))

  from_rows : (w : ℕ) (x : Status) → Holds (Has d K 0) 0 x → Rows d K 0 w (measured_from M s w x)
  unfolding measured_from
  from_rows w (ok c) h = measured_rows w 0 c h
  from_rows w (refused r) h = record { wide = tt; few = omega arith; end = (h.0 ∙ omega arith, h.1) }

-- ---- the whole run

module _ (P : Problem) (K : ℕ) where
  pub start_has : Has (length P.start) K 0 (start_of P K)
  unfolding initial
  start_has =
      record {
        finished = refl;
        state = refl;
        directions = drawn_directions_length P.generator P.dynamics.dim K P.seed;
        sums = length-replicate K zero⁺;
        faint = length-replicate K 0;
      }

  pub course_rows : KeepsState P.dynamics → Rows (length P.start) K 0 P.windows (course_of P K)
  unfolding course
  course_rows keeps =
      let d = length P.start in
      let c = start_of P K in
      from_rows P.dynamics keeps d K P.steps P.windows (warmed_up P.dynamics P.warm_up_steps P.warm_up_windows c)
      (warmed_up_has P.dynamics keeps d K 0 P.warm_up_steps P.warm_up_windows c start_has)
