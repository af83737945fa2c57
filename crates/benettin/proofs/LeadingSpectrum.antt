-- Demand 3: two runs that differ in K alone. With directions k and above struck out the run for K is the run for k, exactly when it is not refused at a direction numbered k or above.
use Prim.Native.Nat.{ℕ, ◌+◌, ◌*◌, ◌≤◌, ◌<◌}
use native.Mathlib.Nat.{le-div_iff_mul-le}
use native.Mathlib.Omega.{arith}
use mathlib.Core.Path.{◌≡◌, refl, sym, ap, ap₂, ◌∙◌, subst}
use mathlib.Core.Logic.{◌⊎◌, inl, inr, ◌↔◌, ◌≢◌}
use mathlib.Core.Bool.{Bool, true, false, cond}
use mathlib.Core.List.{List, [], ◌∷◌, ◌++◌, map, append_assoc}
use mathlib.Core.Option.{Option, none, some}
use borrow.Author.Tests.{lt-ltb, le-leb}
use lib.Dec.{leb, ltb}
use lib.ListN.{length, take, length-map}
use lib.Seq.{take-nil, take-take}
use lib.Ieee.{Float}
use lib.Ieee.Scale.{finite}
use Rattle.error.specs.Tests.{test, Test, first_failing, ◌else◌}
use Rattle.error.specs.declared.Refusal.{Refusal}
use Rattle.error.proofs.Tests.{else_none, skip, first_append}
use Rattle.floats.specs.Vector.{concat}
use Rattle.floats.specs.Finite.{first_not_finite}
use Rattle.floats.specs.Arithmetic.{◌⊕◌, zero⁺}
use Rattle.floats.proofs.Updated.{map_take, zip_take}
use Rattle.floats.proofs.Vector.{Sized, length_concat, map_sized}
use Rattle.rk4.proofs.Advance.{direction_length}
use Rattle.gram_schmidt.specs.Orthonormalise.{Basis, orthonormalise}
use Rattle.benettin.specs.Run.{Dynamics, Problem, RunState, Status, ok, refused, refused_at, tested, stepped, step, unless_collapsed, reorthonormalise, count_faint, Row, Course}
use Rattle.benettin.specs.Run.{accumulate, row, initial, check_duration, start_of, course_of, RunAnswer, ended, stopped, answer, run_past, run, count_tests, output_tests, run_tests}
use Rattle.benettin.specs.declared.OutputLengths.{OutputLengths}
use Rattle.benettin.specs.LeadingSpectrum.{leading_row, leading, AtOrAbove, RefusedFrom, number, LeadingSpectrum}
use Rattle.benettin.specs.Estimate.{Input, problem_within, problem, dynamics, estimate}
use Rattle.benettin.proofs.Prefix.{cut_at, cut_none, cut_some, take_replicate, drawn_directions_take, drawn_directions_sized, drawn_directions_length}
use Rattle.benettin.proofs.Prefix.{first_not_finite_directions, Below, first_not_finite_below, cut, orthonormalise_take, orthonormalise_sized, Whole, orthonormalise_whole}
use Rattle.benettin.proofs.Simulation.{Relation, Related, Excluded, Similar, SimilarCourses, Invariant, similar_course}

-- ---- what is asked of a problem

-- tests whose numbers no refusal at a direction has
abbrev pub Undirected : Option Refusal → Type 0
Undirected none = Unit {0}
Undirected (some r) = (r.number ≢ 14) × (r.number ≢ 17)

abbrev pub NoDirection : List Test → Type 0
NoDirection [] = Unit {0}
NoDirection (t ∷ ts) = (t.refusal.number ≢ 14) × (t.refusal.number ≢ 17) × NoDirection ts

-- a direction of `dim` entries has as many after a step
abbrev pub Keeps : Dynamics → Type 0
Keeps M = (n : ℕ) (s v : List Float) → length v ≡ M.dim → length ((M.advance n s).1 v) ≡ M.dim

-- what is left of a run under way for the first k directions
abbrev prefix_of : ℕ → RunState → RunState
prefix_of k c =
    record {
      motion = record { state = c.motion.state; directions = take k c.motion.directions; time = c.motion.time; steps = c.motion.steps };
      norms = record { logs = take k c.norms.logs; reports = take k c.norms.reports };
      totals = record { finished = c.totals.finished; sums = take k c.totals.sums; faint = take k c.totals.faint };
    }

-- ---- the run for K beside the run for k

abbrev prefix : ℕ → ℕ → Relation
prefix d k =
    record {
      States = λ c e. Sized d c.motion.directions × (e ≡ prefix_of k c);
      FirstExcluded = AtOrAbove d k;
      SecondExcluded = λ s. ⊥;
      Refusals = λ r s. s ≡ r;
      Rows = λ rs ss. ss ≡ map (leading_row k) rs;
    }

prefix_tested : (d k : ℕ) → 0 < d → (p q q' : Option ℕ) (b : Bool) (c n : RunState) → Sized d n.motion.directions → q' ≡ cut_at (k * d) q
    → Similar (prefix d k) (tested p q b c n) (tested p q' b (prefix_of k c) (prefix_of k n))
unfolding tested
prefix_tested d k pd (some i) q q' b c n s e = inr refl
prefix_tested d k pd none none q' false c n s e = rw (e, cut_none) (inr refl)
prefix_tested d k pd none none q' true c n s e = rw (e, cut_none) (inr (s, refl))
prefix_tested d k pd none (some i) q' b c n s e = rw e (go (cut_some (k * d) i))
  where
    go : (cut_at (k * d) (some i) ≡ some i) ⊎ (k * d ≤ i) → Similar (prefix d k) (refused (refused_at 17 i c)) (tested none (cut_at (k * d) (some i)) b (prefix_of k c) (prefix_of k n))
    go (inl f) = rw f (inr refl)
    go (inr h) = inl (inl (inr (refl, (le-div_iff_mul-le pd).1 h)))

prefix_collapsed : (d k : ℕ) (o : Option ℕ) (c : RunState) (b : Basis) → Sized d b.directions → Similar (prefix d k) (unless_collapsed o c b) (unless_collapsed (cut_at k o) (prefix_of k c) (cut k b))
unfolding unless_collapsed
prefix_collapsed d k none c b s = rw cut_none (inr (s, refl))
prefix_collapsed d k (some i) c b s = go (cut_some k i)
  where
    go : (cut_at k (some i) ≡ some i) ⊎ (k ≤ i) → Similar (prefix d k) (refused (refused_at 14 i c)) (unless_collapsed (cut_at k (some i)) (prefix_of k c) (cut k b))
    go (inl f) = rw f (inr refl)
    go (inr h) = inl (inl (inl (refl, h)))

accumulate_prefix : (k : ℕ) (c : RunState) → accumulate (prefix_of k c) ≡ prefix_of k (accumulate c)
unfolding accumulate
accumulate_prefix k c = rw zip_take

count_faint_prefix : (M : Dynamics) (k : ℕ) (c : RunState) → count_faint M (prefix_of k c) ≡ prefix_of k (count_faint M c)
unfolding count_faint
count_faint_prefix M k c = rw zip_take

row_leading : (M : Dynamics) (k : ℕ) (c : RunState) → row M (prefix_of k c) ≡ leading_row k (row M c)
unfolding row
row_leading M k c = simp map_take

pub duration_sim : (X : Relation) (M : Dynamics) (c e : RunState) → X.States c e → X.Refusals (refused_at 15 0 c) (refused_at 15 0 e) → Similar X (check_duration M c) (check_duration M e)
unfolding check_duration
duration_sim X M c e r s = go (finite M.duration)
  where
    go : (b : Bool) → Similar X (cond b (ok c) (refused (refused_at 15 0 c))) (cond b (ok e) (refused (refused_at 15 0 e)))
    go true = inr r
    go false = inr s

module _ (M : Dynamics) (keeps : Keeps M) (pd : 0 < M.dim) (k : ℕ) where
  prefix_step : (c : RunState) → Sized M.dim c.motion.directions → Similar (prefix M.dim k) (step M c) (step M (prefix_of k c))
  unfolding step
  prefix_step c s =
      let a = M.advance c.motion.steps c.motion.state in
      let vs = map a.1 c.motion.directions in
      let t = c.motion.time ⊕ M.step_size in
      let sz : Sized M.dim vs = map_sized M.dim a.1 (keeps c.motion.steps c.motion.state) c.motion.directions s in
      rw (map_take a.1 k c.motion.directions)
      (prefix_tested M.dim k pd (first_not_finite a.0) (first_not_finite (concat vs)) (first_not_finite (concat (take k vs))) (finite t) c (stepped c a.0 vs t) sz
      (first_not_finite_directions M.dim k vs sz))

  prefix_reorthonormalise : (c : RunState) → Sized M.dim c.motion.directions → Similar (prefix M.dim k) (reorthonormalise M c) (reorthonormalise M (prefix_of k c))
  unfolding reorthonormalise
  prefix_reorthonormalise c s =
      let b = orthonormalise M.lengths [] c.motion.directions in
      rw (orthonormalise_take M.lengths k [] c.motion.directions)
      (prefix_collapsed M.dim k b.collapse c b (orthonormalise_sized M.lengths M.dim [] c.motion.directions s))

  prefix_law : Invariant (prefix M.dim k) M M
  unfolding count_faint accumulate
  prefix_law =
      record {
        on_step = λ c e r. rw r.1 (prefix_step c r.0);
        on_reorthonormalise = λ c e r. rw r.1 (prefix_reorthonormalise c r.0);
        on_duration = λ c e r. duration_sim (prefix M.dim k) M c e r (ap (refused_at 15 0) r.1);
        on_faint = λ c e r. (r.0, ap (count_faint M) r.1 ∙ count_faint_prefix M k c);
        on_accumulate = λ c e r. (r.0, ap accumulate r.1 ∙ accumulate_prefix k c);
        on_none = refl;
        on_row = λ c e rs ss r q. ap₂ (λ (a : Row) (l : List Row). a ∷ l) (ap (row M) r.1 ∙ row_leading M k c) q;
      }

-- ---- the run for k is refused at no direction numbered k or above

-- a number that is neither 14 nor 17
other : (d k n p f s : ℕ) → n ≢ 14 → n ≢ 17 → ¬ AtOrAbove d k (record { number = n; place = p; finished = f; steps = s })
other d k n p f s h g (inl e) = h e.0
other d k n p f s h g (inr e) = g e.0

abbrev Has : ℕ → ℕ → RunState → Type 0
Has d k c = Sized d c.motion.directions × (length c.motion.directions ≡ k)

-- the run beside itself
abbrev low : ℕ → ℕ → Relation
low d k =
    record {
      States = λ c e. Has d k c × (e ≡ c);
      FirstExcluded = λ r. ⊥;
      SecondExcluded = λ s. ⊥;
      Refusals = λ r s. ¬ AtOrAbove d k r;
      Rows = λ rs ss. Unit {0};
    }

low_tested : (d k : ℕ) → 0 < d → (p q : Option ℕ) (b : Bool) (c n : RunState) → Has d k n → Below (k * d) q → Related (low d k) (tested p q b c n) (tested p q b c n)
unfolding tested
low_tested d k pd (some i) q b c n s h = other d k 16 i c.totals.finished c.motion.steps (omega arith) (omega arith)
low_tested d k pd none none false c n s h = other d k 18 0 c.totals.finished c.motion.steps (omega arith) (omega arith)
low_tested d k pd none none true c n s h = (s, refl)
low_tested d k pd none (some i) b c n s h = go
  where
    go : ¬ AtOrAbove d k (refused_at 17 i c)
    go (inl e) = let z : ◌≡◌ {A = ℕ} 17 14 = e.0 in omega arith
    go (inr e) = omega (arith, (le-div_iff_mul-le pd).0 e.1)

low_collapsed : (d k : ℕ) (o : Option ℕ) (c : RunState) (b : Basis) → Sized d b.directions × (length b.directions ≡ k) → Below k o → Related (low d k) (unless_collapsed o c b) (unless_collapsed o c b)
unfolding unless_collapsed
low_collapsed d k none c b s h = (s, refl)
low_collapsed d k (some i) c b s h = go
  where
    go : ¬ AtOrAbove d k (refused_at 14 i c)
    go (inl e) = omega (arith, e.1)
    go (inr e) = let z : ◌≡◌ {A = ℕ} 14 17 = e.0 in omega arith

module _ (M : Dynamics) (keeps : Keeps M) (pd : 0 < M.dim) (k : ℕ) where
  low_step : (c : RunState) → Has M.dim k c → Related (low M.dim k) (step M c) (step M c)
  unfolding step
  low_step c s =
      let a = M.advance c.motion.steps c.motion.state in
      let vs = map a.1 c.motion.directions in
      let t = c.motion.time ⊕ M.step_size in
      let sz : Sized M.dim vs = map_sized M.dim a.1 (keeps c.motion.steps c.motion.state) c.motion.directions s.0 in
      let n : length vs ≡ k = length-map c.motion.directions a.1 ∙ s.1 in
      low_tested M.dim k pd (first_not_finite a.0) (first_not_finite (concat vs)) (finite t) c (stepped c a.0 vs t) (sz, n)
      (subst (λ (m : ℕ). Below m (first_not_finite (concat vs))) (length_concat M.dim vs sz ∙ ap (λ (m : ℕ). m * M.dim) n) (first_not_finite_below (concat vs)))

  low_reorthonormalise : (c : RunState) → Has M.dim k c → Related (low M.dim k) (reorthonormalise M c) (reorthonormalise M c)
  unfolding reorthonormalise
  low_reorthonormalise c s =
      let b = orthonormalise M.lengths [] c.motion.directions in
      let w : Whole k b = subst (λ (n : ℕ). Whole n b) s.1 (orthonormalise_whole M.lengths [] c.motion.directions) in
      low_collapsed M.dim k b.collapse c b (orthonormalise_sized M.lengths M.dim [] c.motion.directions s.0, w.0) w.1

  low_law : Invariant (low M.dim k) M M
  unfolding count_faint accumulate
  low_law =
      record {
        on_step = λ c e r. rw r.1 (inr (low_step c r.0));
        on_reorthonormalise = λ c e r. rw r.1 (inr (low_reorthonormalise c r.0));
        on_duration = λ c e r. duration_sim (low M.dim k) M c e r (other M.dim k 15 0 c.totals.finished c.motion.steps (omega arith) (omega arith));
        on_faint = λ c e r. (r.0, ap (count_faint M) r.1);
        on_accumulate = λ c e r. (r.0, ap accumulate r.1);
        on_none = tt;
        on_row = λ c e rs ss r q. tt;
      }

start_prefix : (P : Problem) (k K : ℕ) → k ≤ K → start_of P k ≡ prefix_of k (start_of P K)
unfolding initial
start_prefix P k K h =
    rw (drawn_directions_take P.generator P.dynamics.dim k K P.seed h, take_replicate zero⁺ k K h, take_replicate {A = ℕ} 0 k K h, take-nil {A = Float} k) refl

-- ---- the answer

answer_leading : (M : Dynamics) (n k K : ℕ) → k ≤ K → (rs ss : List Row) (x y : Status) → ss ≡ map (leading_row k) rs → Related (prefix M.dim k) x y
    → leading k (answer M n K rs x) ≡ answer M n k ss y
unfolding answer
answer_leading M n k K h rs ss (ok c) (ok e) q s = rw (q, s.1) (simp map_take)
answer_leading M n k K h rs ss (ok c) (refused b) q s = absurd s
answer_leading M n k K h rs ss (refused a) (ok e) q s = absurd s
answer_leading M n k K h rs ss (refused a) (refused b) q s = rw (q, s, take-take)

late_answer : (M : Dynamics) (n k K : ℕ) (rs : List Row) (x y : Status) → Excluded (prefix M.dim k) x y → RefusedFrom M.dim k (answer M n K rs x)
unfolding answer
late_answer M n k K rs (ok c) y (inl l) = absurd l
late_answer M n k K rs (refused r) y (inl l) = l
late_answer M n k K rs x (ok c) (inr l) = absurd l
late_answer M n k K rs x (refused r) (inr l) = absurd l

low_answer : (P : Problem) (k : ℕ) (t : Course) → SimilarCourses (low P.dynamics.dim k) t t → ¬ RefusedFrom P.dynamics.dim k (answer P.dynamics P.windows k t.rows t.end)
unfolding answer
low_answer P k t s = go t.end s
  where
    go : (x : Status) → Excluded (low P.dynamics.dim k) x x ⊎ (Unit {0} × Related (low P.dynamics.dim k) x x) → ¬ RefusedFrom P.dynamics.dim k (answer P.dynamics P.windows k t.rows x)
    go (ok c) s = λ b. b
    go (refused r) (inl (inl l)) = absurd l
    go (refused r) (inl (inr l)) = absurd l
    go (refused r) (inr l) = l.1

-- ---- the whole run

refused_leading : (d k : ℕ) (a : RunAnswer) → RefusedFrom d k a → RefusedFrom d k (leading k a)
refused_leading d k (ended rows x) l = l
refused_leading d k (stopped rows r f) l = l

module _ (P : Problem) (S : Keeps P.dynamics) (pd : 0 < P.dynamics.dim) (k K : ℕ) (h : k ≤ K) where
  two_courses : SimilarCourses (prefix P.dynamics.dim k) (course_of P K) (course_of P k)
  unfolding initial
  two_courses =
      similar_course (prefix P.dynamics.dim k) P.dynamics P.dynamics (prefix_law P.dynamics S pd k) P.warm_up_steps P.warm_up_windows P.steps P.windows
      (start_of P K) (start_of P k) (drawn_directions_sized P.generator P.dynamics.dim K P.seed, start_prefix P k K h)

  one_course : SimilarCourses (low P.dynamics.dim k) (course_of P k) (course_of P k)
  unfolding initial
  one_course =
      similar_course (low P.dynamics.dim k) P.dynamics P.dynamics (low_law P.dynamics S pd k) P.warm_up_steps P.warm_up_windows P.steps P.windows
      (start_of P k) (start_of P k) ((drawn_directions_sized P.generator P.dynamics.dim k P.seed, drawn_directions_length P.generator P.dynamics.dim k P.seed), refl)

  core : (leading k (run_past none P K) ≡ run_past none P k) ↔ ¬ RefusedFrom P.dynamics.dim k (run_past none P K)
  unfolding run_past
  core = (to, from two_courses)
    where
      t : Course
      t = course_of P K

      u : Course
      u = course_of P k

      to : leading k (answer P.dynamics P.windows K t.rows t.end) ≡ answer P.dynamics P.windows k u.rows u.end → ¬ RefusedFrom P.dynamics.dim k (answer P.dynamics P.windows K t.rows t.end)
      to e l = low_answer P k u one_course (subst (RefusedFrom P.dynamics.dim k) e (refused_leading P.dynamics.dim k (answer P.dynamics P.windows K t.rows t.end) l))

      from : SimilarCourses (prefix P.dynamics.dim k) t u → ¬ RefusedFrom P.dynamics.dim k (answer P.dynamics P.windows K t.rows t.end)
          → leading k (answer P.dynamics P.windows K t.rows t.end) ≡ answer P.dynamics P.windows k u.rows u.end
      from (inl l) n = absurd (n (late_answer P.dynamics P.windows k K t.rows t.end u.end l))
      from (inr s) n = answer_leading P.dynamics P.windows k K h t.rows u.rows t.end u.end s.0 s.1

  by_test : (r : Refusal) → (r.number ≢ 14) × (r.number ≢ 17)
      → (leading k (run_past (some r) P K) ≡ run_past (some r) P k) ↔ ¬ RefusedFrom P.dynamics.dim k (run_past (some r) P K)
  unfolding run_past
  by_test r p = (λ _. other P.dynamics.dim k r.number r.place 0 0 p.0 p.1, λ _. rw take-take)

-- ---- the tests

undirected_first : (ts : List Test) → NoDirection ts → Undirected (first_failing ts)
unfolding first_failing
undirected_first [] h = tt
undirected_first (t ∷ ts) h = go t.passes (undirected_first ts h.2)
  where
    go : (b : Bool) → Undirected (first_failing ts) → Undirected (cond b (first_failing ts) (some t.refusal))
    go true p = p
    go false p = (h.0, h.1)

-- 13, which alone depends on the outputs
abbrev too_short : Problem → ℕ → OutputLengths → List Test
too_short P K o = output_tests K P.dynamics.dim P.windows o

abbrev pub Thirteen : Option Refusal → Type 0
Thirteen none = Unit {0}
Thirteen (some r) = r.number ≡ 13

pub too_short_is_13 : (K d windows : ℕ) (o : OutputLengths) → Thirteen (first_failing (output_tests K d windows o))
unfolding first_failing
too_short_is_13 K d windows o = go (leb (windows * (1 + 2 * K)) o.rows) (leb K o.exponents) (leb d o.state)
  where
    go : (a b c : Bool) → Thirteen (first_failing (test a 13 0 ∷ test b 13 1 ∷ test c 13 2 ∷ []))
    go false b c = refl
    go true false c = refl
    go true true false = refl
    go true true true = tt

-- for 1 ≤ K ≤ d neither 1 nor 12 fails
tests_fit : (P : Problem) (K : ℕ) (o : OutputLengths) → 0 < K → K ≤ P.dynamics.dim
    → first_failing (run_tests P K o) ≡ (first_failing P.tests else first_failing (too_short P K o))
unfolding run_tests
tests_fit P K o h g =
    sym (skip (test (ltb 0 K) 1 0) ((P.tests ++ count_tests K P.dynamics.dim) ++ too_short P K o) (lt-ltb 0 K h) refl)
    ∙ ap first_failing (append_assoc P.tests (count_tests K P.dynamics.dim) (too_short P K o))
    ∙ first_append P.tests (count_tests K P.dynamics.dim ++ too_short P K o)
    ∙ ap (λ (s : Option Refusal). first_failing P.tests else s) (sym (skip (test (leb K P.dynamics.dim) 12 0) (too_short P K o) (le-leb K P.dynamics.dim g) refl))

module _ (P : Problem) (S : Keeps P.dynamics) (pd : 0 < P.dynamics.dim) (k K : ℕ) (h : k ≤ K) where
  past_tests : (e : Option Refusal) → Undirected e → (leading k (run_past e P K) ≡ run_past e P k) ↔ ¬ RefusedFrom P.dynamics.dim k (run_past e P K)
  unfolding run_past
  past_tests (some r) p = by_test P S pd k K h r p
  past_tests none p = core P S pd k K h

  by_tests : (e s t : Option Refusal) → Undirected e → Thirteen s → Thirteen t
      → number (run_past (e else s) P k) ≢ 13 → number (run_past (e else t) P K) ≢ 13
      → (leading k (run_past (e else t) P K) ≡ run_past (e else s) P k) ↔ ¬ RefusedFrom P.dynamics.dim k (run_past (e else t) P K)
  unfolding ◌else◌ run_past
  by_tests (some r) s t p hs ht ns nt = past_tests (some r) p
  by_tests none (some r) t p hs ht ns nt = absurd (ns hs)
  by_tests none none (some r) p hs ht ns nt = absurd (nt ht)
  by_tests none none none p hs ht ns nt = past_tests none p

-- of two runs with outputs that are long enough
pub leading_fitting : (P : Problem) → NoDirection P.tests → Keeps P.dynamics → (k K : ℕ) (o O : OutputLengths) → 1 ≤ k → k ≤ K → K ≤ P.dynamics.dim
    → none ≡ first_failing (too_short P k o) → none ≡ first_failing (too_short P K O)
    → (leading k (run P K O) ≡ run P k o) ↔ ¬ RefusedFrom P.dynamics.dim k (run P K O)
unfolding run
leading_fitting P N S k K o O hk h hK eo eO =
    rw (tests_fit P k o hk (omega arith), tests_fit P K O (omega arith) hK, ← eo, ← eO, else_none (first_failing P.tests))
    (past_tests P S (omega arith) k K h (first_failing P.tests) (undirected_first P.tests N))

-- Demand 3 over any dynamics, of the run P past the tests of R.
pub leading_run : (R P : Problem) → NoDirection R.tests → Keeps P.dynamics → R.dynamics.dim ≡ P.dynamics.dim → (k K : ℕ) (o O : OutputLengths) → 1 ≤ k → k ≤ K → K ≤ P.dynamics.dim
    → (let a = run_past (first_failing (run_tests R k o)) P k in
    let A = run_past (first_failing (run_tests R K O)) P K in
    number a ≢ 13 → number A ≢ 13 → (leading k A ≡ a) ↔ ¬ RefusedFrom P.dynamics.dim k A)
leading_run R P N S d k K o O hk h hK =
    let pd : 0 < P.dynamics.dim = omega arith in
    let pK : 0 < K = omega arith in
    let kd : k ≤ R.dynamics.dim = omega arith in
    let Kd : K ≤ R.dynamics.dim = omega arith in
    rw (tests_fit R k o hk kd, tests_fit R K O pK Kd)
    (by_tests P S pd k K h (first_failing R.tests) (first_failing (too_short R k o)) (first_failing (too_short R K O))
    (undirected_first R.tests N) (too_short_is_13 k _ _ o) (too_short_is_13 K _ _ O))

-- ---- document 01's run

pub problem_undirected : (total : ℕ) (i : Input) → NoDirection (problem_within total i).tests
unfolding problem_within
problem_undirected total i = omega arith

pub problem_keeps : (i : Input) → Keeps (problem i).dynamics
unfolding problem dynamics
problem_keeps i n x v e = direction_length i.system i.matrix i.step_size x v ∙ e

pub leading_estimate : LeadingSpectrum
unfolding estimate run problem dynamics
leading_estimate i k K o O = leading_run (problem i) (problem i) (problem_undirected i.windows i) (problem_keeps i) refl k K o O
