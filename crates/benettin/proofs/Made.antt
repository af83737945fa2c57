-- How far a run can have come: directions of d entries, a finite time, and bounds of its steps and faint counts.
use Prim.Native.Nat.{ℕ, zero, suc, ◌+◌, ◌*◌, ◌≤◌}
use native.Mathlib.Omega.{arith}
use mathlib.Core.Path.{◌≡◌, ◌∙◌}
use mathlib.Core.Bool.{Bool, true, false, cond}
use mathlib.Core.List.{List, [], ◌∷◌, map}
use lib.ListN.{length, get_or, replicate, length-map}
use lib.Ieee.{Float}
use lib.Ieee.Scale.{finite}
use Rattle.floats.specs.Arithmetic.{◌⊕◌}
use Rattle.floats.specs.Finite.{first_not_finite}
use Rattle.floats.specs.Vector.{concat, zip}
use Rattle.floats.proofs.Vector.{Sized, map_sized}
use Rattle.gram_schmidt.specs.Orthonormalise.{Lengths}
use Rattle.gram_schmidt.proofs.Finished.{norms_length}
use Rattle.benettin.specs.Run.{Dynamics, Problem, RunState, RunRefusal, Status, ok, refused, ◌then◌, stepped, step, steps, reorthonormalise, faint_or_not, count_faint, window, warm_up}
use Rattle.benettin.specs.Run.{Course, accumulate, with_row, measured, check_duration, begin, warmed_up, measured_from, course, initial, start_of, course_of}
use Rattle.benettin.specs.Estimate.{limit}
use Rattle.benettin.proofs.Prefix.{drawn_directions_sized, drawn_directions_length, orthonormalise_sized, orthonormalise_whole}
use Rattle.benettin.proofs.LeadingSpectrum.{Keeps}
use Rattle.benettin.proofs.Either.{Either, then_either, tested_either, basis_either, duration_either}

-- after at most s steps and w windows, with K directions
pub record Made (d K s w : ℕ) (c : RunState) : Type 0 where
  pub directions : Sized d c.motion.directions
  pub many : length c.motion.directions ≡ K
  pub clock : finite c.motion.time ≡ true
  pub steps : c.motion.steps ≤ s
  pub faint : (i : ℕ) → get_or c.totals.faint i 0 ≤ w

-- the same, with K logarithms and K squared lengths
pub record MadeLogs (d K s w : ℕ) (c : RunState) : Type 0 where
  pub made : Made d K s w c
  pub logs : length c.norms.logs ≡ K
  pub reports : length c.norms.reports ≡ K

-- or it is refused
abbrev pub Any : RunRefusal → Type 0
Any r = Unit {0}

made_up : {d K s t v w : ℕ} {c : RunState} → s ≤ t → v ≤ w → Made d K s v c → Made d K t w c
made_up l g h = record { directions = h.directions; many = h.many; clock = h.clock; steps = omega (arith, l, h.steps); faint = λ i. omega (arith, g, h.faint i) }

one_more : (L : Lengths) (xs : List ℕ) (ys : List Float) (i : ℕ) → get_or (zip (faint_or_not L) xs ys) i 0 ≤ suc (get_or xs i 0)
unfolding zip
one_more L [] ys i = omega arith
one_more L (x ∷ xs) [] i = omega arith
one_more L (x ∷ xs) (y ∷ ys) zero = go (L.faint y)
  where
    go : (b : Bool) → cond b (suc x) x ≤ suc x
    go true = omega arith
    go false = omega arith
one_more L (x ∷ xs) (y ∷ ys) (suc i) = one_more L xs ys i

zeros : (n i : ℕ) → get_or (replicate n 0) i 0 ≤ 0
zeros zero i = omega arith
zeros (suc n) zero = omega arith
zeros (suc n) (suc i) = zeros n i

module _ (M : Dynamics) (keeps : Keeps M) (K : ℕ) where
  abbrev pub d : ℕ
  d = M.dim

  step_made : (s w : ℕ) (c : RunState) → Made d K s w c → Either (Made d K (suc s) w) Any (step M c)
  unfolding step
  step_made s w c h =
      let a = M.advance c.motion.steps c.motion.state in
      let vs = map a.1 c.motion.directions in
      let t = c.motion.time ⊕ M.step_size in
      tested_either Any (Made d K (suc s) w) c (λ _ _ _. tt) (first_not_finite a.0) (first_not_finite (concat vs)) (finite t) (stepped c a.0 vs t)
      (λ e.
      record {
        directions = map_sized d a.1 (keeps c.motion.steps c.motion.state) c.motion.directions h.directions;
        many = length-map c.motion.directions a.1 ∙ h.many;
        clock = e;
        steps = omega (arith, h.steps);
        faint = h.faint;
      })

  steps_made : (n s w t : ℕ) (c : RunState) → s + n ≤ t → Made d K s w c → Either (Made d K t w) Any (steps M n c)
  unfolding steps
  steps_made zero s w t c l h = made_up (omega (arith, l)) (omega arith) h
  steps_made (suc n) s w t c l h = then_either Any (Made d K (suc s) w) (Made d K t w) (step M c) (steps M n) (step_made s w c h) (λ e g. steps_made n (suc s) w t e (omega (arith, l)) g)

  basis_made : (s w : ℕ) (c : RunState) → Made d K s w c → Either (MadeLogs d K s w) Any (reorthonormalise M c)
  basis_made s w c h =
      basis_either Any (MadeLogs d K s w) c (λ _ _ _. tt) M
      (λ e.
      let g = norms_length M.lengths [] c.motion.directions e in
      record {
        made =
            record {
              directions = orthonormalise_sized M.lengths d [] c.motion.directions h.directions;
              many = (orthonormalise_whole M.lengths [] c.motion.directions).0 ∙ h.many;
              clock = h.clock;
              steps = h.steps;
              faint = h.faint;
            };
        logs = g.0 ∙ h.many;
        reports = g.1 ∙ h.many;
      })

  faint_made : (s w : ℕ) (c : RunState) → MadeLogs d K s w c → MadeLogs d K s (suc w) (count_faint M c)
  unfolding count_faint
  faint_made s w c h =
      let m = h.made in
      record {
        made = record { directions = m.directions; many = m.many; clock = m.clock; steps = m.steps; faint = λ i. omega (arith, m.faint i, one_more M.lengths c.totals.faint c.norms.reports i) };
        logs = h.logs;
        reports = h.reports;
      }

  -- after at most w windows, each within the limit
  abbrev pub After : ℕ → RunState → Type 0
  After w = MadeLogs d K (w * limit) w

  after_up : {w t : ℕ} {c : RunState} → w ≤ t → After w c → After t c
  after_up l h = record { made = made_up (omega (arith, l)) l h.made; logs = h.logs; reports = h.reports }

  pub begin_made : (c : RunState) → Made d K 0 0 c → Either (After 0) Any (begin M c)
  unfolding begin
  begin_made c h =
      let R = MadeLogs d K 0 0 in
      then_either Any R (After 0) (reorthonormalise M c) (check_duration M) (basis_made 0 0 c h)
      (λ e g. duration_either Any (After 0) e (λ _ _ _. tt) M (record { made = made_up (omega arith) (omega arith) g.made; logs = g.logs; reports = g.reports }))

  module _ (u : ℕ) (few : u ≤ limit) where
    pub window_made : (w : ℕ) (c : RunState) → After w c → Either (After (suc w)) Any (window M u c)
    unfolding window
    window_made w c h =
        let s = suc w * limit in
        then_either Any (MadeLogs d K s w) (After (suc w)) (steps M u c then reorthonormalise M) (λ e. ok (count_faint M e))
        (then_either Any (Made d K s w) (MadeLogs d K s w) (steps M u c) (reorthonormalise M) (steps_made u (w * limit) w s c (omega (arith, few)) h.made) (basis_made s w)) (faint_made s w)

    warm_up_made : (n w t : ℕ) (c : RunState) → w + n ≤ t → After w c → Either (After t) Any (warm_up M u n c)
    unfolding warm_up
    warm_up_made zero w t c l h = after_up (omega (arith, l)) h
    warm_up_made (suc n) w t c l h = then_either Any (After (suc w)) (After t) (window M u c) (warm_up M u n) (window_made w c h) (λ e g. warm_up_made n (suc w) t e (omega (arith, l)) g)

    pub accumulate_made : (w : ℕ) (c : RunState) → After w c → After w (accumulate c)
    unfolding accumulate
    accumulate_made w c h =
        let m = h.made in
        record { made = record { directions = m.directions; many = m.many; clock = m.clock; steps = m.steps; faint = m.faint }; logs = h.logs; reports = h.reports }

    row_made : (w t : ℕ) (x : Status) (f : RunState → Course) → Either (After w) Any x → ((c : RunState) → After w c → Either (After t) Any (f c).end) → Either (After t) Any (with_row M x f).end
    unfolding with_row
    row_made w t (refused r) f h g = tt
    row_made w t (ok c) f h g = g (accumulate c) (accumulate_made w c h)

    measured_made : (n w t : ℕ) (c : RunState) → w + n ≤ t → After w c → Either (After t) Any (measured M u n c).end
    unfolding measured
    measured_made zero w t c l h = after_up (omega (arith, l)) h
    measured_made (suc n) w t c l h = row_made (suc w) t (window M u c) (measured M u n) (window_made w c h) (λ e g. measured_made n (suc w) t e (omega (arith, l)) g)

    from_made : (n w t : ℕ) (x : Status) → w + n ≤ t → Either (After w) Any x → Either (After t) Any (measured_from M u n x).end
    unfolding measured_from
    from_made n w t (ok c) l h = measured_made n w t c l h
    from_made n w t (refused r) l h = tt

-- ---- the whole run, over so many windows of both sorts

pub start_made : (P : Problem) (K : ℕ) → finite P.time ≡ true → Made P.dynamics.dim K 0 0 (start_of P K)
unfolding initial
start_made P K f =
    record {
      directions = drawn_directions_sized P.generator P.dynamics.dim K P.seed;
      many = drawn_directions_length P.generator P.dynamics.dim K P.seed;
      clock = f;
      steps = omega arith;
      faint = zeros K;
    }

pub course_made : (P : Problem) (K : ℕ) → Keeps P.dynamics → P.warm_up_steps ≤ limit → P.steps ≤ limit → finite P.time ≡ true
    → (let w = P.warm_up_windows + P.windows in Either (MadeLogs P.dynamics.dim K (w * limit) w) Any (course_of P K).end)
unfolding course warmed_up
course_made P K keeps hu hs f =
    let M = P.dynamics in
    let w = P.warm_up_windows in
    let c = start_of P K in
    from_made M keeps K P.steps hs P.windows w (w + P.windows) (warmed_up M P.warm_up_steps w c) (omega arith)
    (then_either Any (After M keeps K 0) (After M keeps K w) (begin M c) (warm_up M P.warm_up_steps w) (begin_made M keeps K c (start_made P K f)) (λ e. warm_up_made M keeps K P.warm_up_steps hu w 0 w e (omega arith)))
