-- Two runs that take lengths by sums from either zero stay the same but for signs of zeros in their directions, so they answer the same.
use Prim.Native.Nat.{ℕ}
use mathlib.Core.Path.{◌≡◌, refl, sym, ap, ap₂, ◌∙◌, subst}
use mathlib.Core.Logic.{inl, inr}
use mathlib.Core.Bool.{Bool, true, false}
use mathlib.Core.List.{List, [], ◌∷◌, map}
use mathlib.Core.Option.{Option, none, some}
use lib.Ieee.{Float}
use lib.Ieee.Scale.{finite}
use Rattle.error.specs.Tests.{first_failing}
use Rattle.error.specs.declared.Refusal.{Refusal}
use Rattle.floats.specs.Arithmetic.{◌⊕◌}
use Rattle.floats.specs.Finite.{first_not_finite}
use Rattle.floats.specs.Vector.{concat}
use Rattle.gram_schmidt.specs.Orthonormalise.{Basis, orthonormalise}
use Rattle.benettin.specs.Run.{Dynamics, Problem, RunState, RunRefusal, Status, ok, refused, refused_at, tested, stepped, step, with_basis, unless_collapsed, reorthonormalise, check_duration, count_faint, accumulate, Row, row, Course}
use Rattle.benettin.specs.Run.{start_of, course_of, answer, run_past, run_tests, run}
use Rattle.benettin.specs.declared.OutputLengths.{OutputLengths}
use Rattle.benettin.specs.Estimate.{dynamics, problem, estimate}
use Rattle.benettin.proofs.Simulation.{Relation, RefusedIn, Related, Similar, Invariant, SimilarCourses, similar_course}
use Rattle.benettin.proofs.LeadingSpectrum.{duration_sim}
use Rattle.sum_start.specs.SumStart.{plain_basis, with_lengths, measured_by, SameRuns}
use Rattle.sum_start.proofs.Vectors.{plains, AllAlike, not_finite_all}
use Rattle.sum_start.proofs.Basis.{signed, basis_alike}
use Rattle.sum_start.proofs.Motion.{Respects, advance_respects}

-- a run under way, without the signs of zeros in its directions
abbrev plainly : RunState → RunState
plainly c =
    record { motion = record { state = c.motion.state; directions = map plains c.motion.directions; time = c.motion.time; steps = c.motion.steps }; norms = c.norms; totals = c.totals }

abbrev signs : Relation
signs =
    record {
      States = λ c e. plainly c ≡ plainly e;
      FirstExcluded = λ r. ⊥;
      SecondExcluded = λ r. ⊥;
      Refusals = λ r s. r ≡ s;
      Rows = λ rs ss. rs ≡ ss;
    }

-- ---- a step

tested_same : (o q : Option ℕ) (b : Bool) (c e n m : RunState) → plainly c ≡ plainly e → plainly n ≡ plainly m → Related signs (tested o q b c n) (tested o q b e m)
unfolding tested
tested_same (some i) q b c e n m r k = ap (refused_at 16 i) r
tested_same none (some i) b c e n m r k = ap (refused_at 17 i) r
tested_same none none false c e n m r k = ap (refused_at 18 0) r
tested_same none none true c e n m r k = k

tested_alike : (o o' q q' : Option ℕ) (b b' : Bool) (c e n m : RunState) → o ≡ o' → q ≡ q' → b ≡ b' → plainly c ≡ plainly e → plainly n ≡ plainly m
    → Related signs (tested o q b c n) (tested o' q' b' e m)
tested_alike o o' q q' b b' c e n m x y z r k =
    subst (λ (w : Option ℕ). Related signs (tested o q b c n) (tested w q' b' e m)) x
    (subst (λ (w : Option ℕ). Related signs (tested o q b c n) (tested o w b' e m)) y
    (subst (λ (w : Bool). Related signs (tested o q b c n) (tested o q w e m)) z (tested_same o q b c e n m r k)))

map_respects : (g : List Float → List Float) → Respects g → (vs : List (List Float)) → map plains (map g vs) ≡ map plains (map g (map plains vs))
map_respects g r [] = refl
map_respects g r (v ∷ vs) = ap₂ (λ (a : List Float) (l : List (List Float)). a ∷ l) (r v).same (map_respects g r vs)

-- ---- the orthonormalisation

unless_same : (o : Option ℕ) (c e : RunState) (b d : Basis) → plainly c ≡ plainly e → plain_basis b ≡ plain_basis d → Related signs (unless_collapsed o c b) (unless_collapsed o e d)
unfolding unless_collapsed
unless_same (some i) c e b d r k = ap (refused_at 14 i) r
unless_same none c e b d r k = ap₂ with_basis r k

-- ---- all of it

module _ (M : Dynamics) (R : (n : ℕ) (x : List Float) → Respects (M.advance n x).1) (s s' : Bool) where
  abbrev first : Dynamics
  first = with_lengths (signed s) M

  abbrev second : Dynamics
  second = with_lengths (signed s') M

  abbrev moving : RunState → List Float × (List Float → List Float)
  moving c = M.advance c.motion.steps c.motion.state

  abbrev along : RunState → List (List Float)
  along c = map (moving c).1 c.motion.directions

  along_plain : (c : RunState) → map plains (along c) ≡ map plains (along (plainly c))
  along_plain c = map_respects (moving c).1 (R c.motion.steps c.motion.state) c.motion.directions

  -- what a step leads to, with these directions
  abbrev reached : List (List Float) → RunState → RunState
  reached vs c = stepped c (moving c).0 vs (c.motion.time ⊕ M.step_size)

  reached_plain : (c : RunState) → reached (map plains (along c)) c ≡ reached (map plains (along (plainly c))) c
  reached_plain c = ap (λ (vs : List (List Float)). reached vs c) (along_plain c)

  finite_plain : (c : RunState) → first_not_finite (concat (along c)) ≡ first_not_finite (concat (map plains (along (plainly c))))
  finite_plain c = not_finite_all (along c) ∙ ap (λ (l : List (List Float)). first_not_finite (concat l)) (along_plain c)

  step_alike : (c e : RunState) → plainly c ≡ plainly e → Similar signs (step first c) (step second e)
  unfolding step
  step_alike c e r =
      inr (tested_alike (first_not_finite (moving c).0) (first_not_finite (moving e).0) (first_not_finite (concat (along c))) (first_not_finite (concat (along e)))
      (finite (c.motion.time ⊕ M.step_size)) (finite (e.motion.time ⊕ M.step_size)) c e _ _
      (ap (λ (x : RunState). first_not_finite (moving x).0) r)
      (finite_plain c ∙ ap (λ (x : RunState). first_not_finite (concat (map plains (along x)))) r ∙ sym (finite_plain e))
      (ap (λ (x : RunState). finite (x.motion.time ⊕ M.step_size)) r)
      r
      (reached_plain c ∙ ap (λ (x : RunState). reached (map plains (along x)) x) r ∙ sym (reached_plain e)))

  reorthonormalise_alike : (c e : RunState) → plainly c ≡ plainly e → Similar signs (reorthonormalise first c) (reorthonormalise second e)
  unfolding reorthonormalise
  reorthonormalise_alike c e r =
      let b = orthonormalise (signed s) [] c.motion.directions in
      let d = orthonormalise (signed s') [] e.motion.directions in
      let p : AllAlike c.motion.directions e.motion.directions = record { same = ap (λ (x : RunState). x.motion.directions) r } in
      let k = basis_alike s s' c.motion.directions e.motion.directions p in
      inr (subst (λ (o : Option ℕ). Related signs (unless_collapsed b.collapse c b) (unless_collapsed o e d)) (ap (λ (x : Basis). x.collapse) k) (unless_same b.collapse c e b d r k))

  signs_law : Invariant signs first second
  unfolding count_faint accumulate row check_duration
  signs_law =
      record {
        on_step = step_alike;
        on_reorthonormalise = reorthonormalise_alike;
        on_duration = λ c e r. duration_sim signs first c e r (ap (refused_at 15 0) r);
        on_faint = λ c e r. ap (count_faint first) r;
        on_accumulate = λ c e r. ap accumulate r;
        on_none = refl;
        on_row = λ c e rs ss r q. ap₂ (λ (a : Row) (l : List Row). a ∷ l) (ap (row first) r) q;
      }

  answer_same : (n K : ℕ) (rs ss : List Row) (x y : Status) → rs ≡ ss → Related signs x y → answer first n K rs x ≡ answer second n K ss y
  unfolding answer
  answer_same n K rs ss (ok c) (ok e) q r = ap₂ (λ (l : List Row) (z : RunState). answer first n K l (ok z)) q r
  answer_same n K rs ss (ok c) (refused t) q r = absurd r
  answer_same n K rs ss (refused a) (ok e) q r = absurd r
  answer_same n K rs ss (refused a) (refused t) q r = ap₂ (λ (l : List Row) (z : RunRefusal). answer first n K l (refused z)) q r

-- ---- the whole run

not_excluded : (x : Status) → RefusedIn (λ r. ⊥) x → ⊥
not_excluded (ok c) h = h
not_excluded (refused r) h = h

module _ (P : Problem) (R : (n : ℕ) (x : List Float) → Respects (P.dynamics.advance n x).1) (s s' : Bool) where
  past_same : (o : Option Refusal) (K : ℕ) → run_past o (measured_by (signed s) P) K ≡ run_past o (measured_by (signed s') P) K
  unfolding run_past
  past_same (some r) K = refl
  past_same none K =
      go (similar_course signs (first P.dynamics R s s') (second P.dynamics R s s') (signs_law P.dynamics R s s') P.warm_up_steps P.warm_up_windows P.steps P.windows (start_of P K) (start_of P K) refl)
    where
      t : Course
      t = course_of (measured_by (signed s) P) K

      u : Course
      u = course_of (measured_by (signed s') P) K

      go : SimilarCourses signs t u → answer (first P.dynamics R s s') P.windows K t.rows t.end ≡ answer (second P.dynamics R s s') P.windows K u.rows u.end
      go (inl (inl h)) = absurd (not_excluded t.end h)
      go (inl (inr h)) = absurd (not_excluded u.end h)
      go (inr h) = answer_same P.dynamics R s s' P.windows K t.rows u.rows t.end u.end h.0 h.1

  pub run_same : (K : ℕ) (o : OutputLengths) → run (measured_by (signed s) P) K o ≡ run (measured_by (signed s') P) K o
  unfolding run
  run_same K o = past_same (first_failing (run_tests P K o)) K

pub same_runs : SameRuns
unfolding estimate problem dynamics
same_runs i K o = run_same (problem i) (λ n x. advance_respects i.system i.matrix i.step_size x) true false K o
