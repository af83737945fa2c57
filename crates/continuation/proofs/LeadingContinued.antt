-- Two calls read as the one run, past the tests of the second; so they are this run, and have demand 3.
use Prim.Native.Nat.{ℕ, ◌+◌, ◌-◌, ◌≤◌}
use native.Mathlib.Omega.{arith}
use mathlib.Core.Path.{◌≡◌, refl, sym, ap, ◌∙◌}
use mathlib.Core.Logic.{◌≢◌}
use mathlib.Core.List.{List, ◌++◌}
use mathlib.Core.Option.{Option, none, some}
use borrow.Author.Tests.{lt-ltb}
use lib.ListN.{length, length-append}
use lib.Seq.{take_all}
use Rattle.error.specs.Tests.{first_failing, ◌else◌}
use Rattle.error.specs.declared.Refusal.{Refusal}
use Rattle.error.proofs.Tests.{first_append}
use Rattle.system.specs.System.{dim}
use Rattle.benettin.specs.Run.{Dynamics, Problem, RunState, Status, ok, refused, Row, RunAnswer, ended, stopped, course_of, answer, output_tests, input_tests, run_tests, run_past, run}
use Rattle.benettin.specs.declared.OutputLengths.{OutputLengths}
use Rattle.benettin.specs.Estimate.{Input, dynamics, problem_within, problem, estimate}
use Rattle.benettin.specs.LeadingSpectrum.{number}
use Rattle.benettin.specs.LeadingOutputs.{rows_from, read_by, read}
use Rattle.benettin.specs.Outputs.{Estimated, Call, Meets, lent, estimated, outputs_from, outputs}
use Rattle.benettin.proofs.LeadingSpectrum.{Thirteen, too_short_is_13, leading_run, problem_undirected, problem_keeps}
use Rattle.benettin.proofs.Sizes.{Holds, Rows, measured_rows}
use Rattle.benettin.proofs.Reading.{Fits, counted_from, refused_fits, passed_fits, dynamics_keeps, read_back, reads}
use Rattle.continuation.specs.Continuation.{with_windows, later_tests, went_on, Continues, Stood, resumed_past, resumed}
use Rattle.continuation.specs.LeadingContinued.{beyond, behind, read_both, Ended, OneRun, LeadingContinued}
use Rattle.continuation.proofs.GoingOn.{rest, stood_has, one_course, going_on}

-- what a call that is answered so leaves
abbrev left : ℕ → Call → RunAnswer → Estimated
left n c = outputs n c.rows c.exponents c.final_state

-- ---- the first call

abbrev rows_in : RunAnswer → List Row
rows_in (ended rows x) = rows
rows_in (stopped rows r f) = rows

-- a run that was not refused is answered where it stood
not_refused : (n : ℕ) (c : Call) (r : Option Refusal) (P : Problem) (K : ℕ) → (left n c (run_past r P K)).refusal ≡ none
    → (s : RunState) × ((course_of P K).end ≡ ok s) × (run_past r P K ≡ answer P.dynamics P.windows K (course_of P K).rows (ok s))
unfolding run_past outputs_from answer
not_refused n c (some r) P K e = let z : ◌≡◌ {A = ℕ} 0 1 = cc in absurd (omega arith)
not_refused n c none P K e = go (course_of P K).end e
  where
    given : Status → RunAnswer
    given = answer P.dynamics P.windows K (course_of P K).rows

    go : (x : Status) → (left n c (given x)).refusal ≡ none → (s : RunState) × (x ≡ ok s) × (given x ≡ given (ok s))
    go (ok s) e = (s, refl, refl)
    go (refused r) e = let z : ◌≡◌ {A = ℕ} 0 1 = cc in absurd (omega arith)

-- where it stood, and its rows
first_call : (i : Input) (K : ℕ) (c : Call) → Meets i K c → c.after.refusal ≡ none → (s : RunState) × Stood i K s × (rows_from K c.after.rows 0 i.windows ≡ (course_of (problem i) K).rows)
unfolding estimated estimate run outputs_from answer
first_call i K c m n =
    let s = not_refused i.windows c (first_failing (run_tests (problem i) K (lent c))) (problem i) K (sym (ap (λ (x : Estimated). x.refusal) m) ∙ n) in
    let w : c.after.windows ≡ i.windows = ap (λ (x : Estimated). x.windows) (m ∙ ap (left i.windows c) s.2) in
    let e = sym (ap (λ (r : Option Refusal). read_by r (dim i.system) K c.after) n) ∙ reads i K c m ∙ s.2 in
    (s.0, s.1, ap (rows_from K c.after.rows 0) (sym w) ∙ ap rows_in e)

-- ---- the second call

beyond_left : (a b : ℕ) (g : Call) (A : RunAnswer) → beyond a (left (a + b) g A) ≡ left b g (counted_from a A)
unfolding outputs_from
beyond_left a b g (ended rs x) = let z : a + b - a ≡ b = omega arith in rw z
beyond_left a b g (stopped rs r f) = refl

-- the rows rs before those of an answer for the windows behind them
module _ (M : Dynamics) (a n K : ℕ) (g : Call) (rs ts : List Row) (l : length rs ≡ a) where
  behind_answer : (H : RunState → Type 0) (x : Status) → Holds H (a + length ts) x → (let A = answer M n K ts x in behind (left n g A).windows rs (counted_from a A) ≡ answer M n K (rs ++ ts) x)
  unfolding answer outputs_from
  behind_answer H (ok c) h = refl
  behind_answer H (refused r) h = cc (take_all r.finished (rs ++ ts) (omega (arith, length-append rs ts, h.0)))

module _ (a : ℕ) (i : Input) (K : ℕ) (c : RunState) (h : Stood (with_windows a i) K c) (g : Call) where
  rest_rows : Rows (length i.state) K a i.windows (rest i c)
  unfolding problem
  rest_rows = measured_rows (problem i).dynamics (dynamics_keeps i.system i.matrix i.step_size i.steps) (length i.state) K i.steps i.windows a c (stood_has (with_windows a i) K c h).0

  rest_fits : (r : Option Refusal) → r ≡ first_failing (later_tests a i K (lent g)) → Fits (dim i.system) K i.windows (lent g) (counted_from a (resumed_past r a i K c))
  unfolding resumed_past
  rest_fits (some r) e = refused_fits _ _ K (lent g) a (problem i) r e
  rest_fits none e = passed_fits _ _ K (lent g) a (problem i).dynamics _ (rest i c) e rest_rows

  rest_behind : (r : Option Refusal)
      → (let A = resumed_past r a i K c in
      behind (left (a + i.windows) g A).windows (course_of (problem (with_windows a i)) K).rows (counted_from a A) ≡ run_past r (problem (with_windows (a + i.windows) i)) K)
  unfolding resumed_past run_past outputs_from problem
  rest_behind (some r) = refl
  rest_behind none = rw (one_course a i K c h) (behind_answer (problem i).dynamics a (a + i.windows) K g _ (rest i c).rows (stood_has (with_windows a i) K c h).1 _ (rest i c).end rest_rows.end)

-- Both calls read as the one run, past the tests of the second.
reads_both : (a : ℕ) (i : Input) (K : ℕ) (c g : Call) → Ended a i K c → Continues a i K g
    → read_both a (dim i.system) K c g ≡ run_past (first_failing (later_tests a i K (lent g))) (problem (with_windows (a + i.windows) i)) K
unfolding went_on resumed
reads_both a i K c g e m =
    let d = dim i.system in
    let s = first_call (with_windows a i) K c e.0 e.1 in
    let r = first_failing (later_tests a i K (lent g)) in
    let A = resumed_past r a i K s.0 in
    ap (λ (x : Estimated). behind x.windows (rows_from K c.after.rows 0 a) (read d K (beyond a x))) (m ∙ ap (left _ g) (sym (going_on a i K (lent g) s.0 s.1)))
    ∙ rw s.2
    (ap (behind _ _)
    (ap (read d K) (beyond_left a i.windows g A) ∙ read_back d K i.windows g.rows g.exponents g.final_state (counted_from a A) (rest_fits a i K s.0 s.1 g r refl))
    ∙ rest_behind a i K s.0 s.1 g r)

-- ---- the tests of the second are those of the one run, 13 apart

unless_13 : (P : Problem) (K : ℕ) (e s : Option Refusal) → Thirteen s → number (run_past (e else s) P K) ≢ 13 → run_past (e else s) P K ≡ run_past e P K
unfolding ◌else◌ run_past
unless_13 P K (some r) s t h = refl
unless_13 P K none none t h = refl
unless_13 P K none (some r) t h = absurd (h t)

later_first : (a : ℕ) (i : Input) (K : ℕ) (o : OutputLengths) → 1 ≤ i.windows
    → first_failing (later_tests a i K o) ≡ (first_failing (input_tests (problem (with_windows (a + i.windows) i)) K) else first_failing (output_tests K (dim i.system) i.windows o))
unfolding run_tests input_tests problem dynamics
later_first a i K o h = rw (lt-ltb 0 i.windows h, lt-ltb 0 (a + i.windows) (omega arith)) (first_append _ _)

pub one_run : OneRun
unfolding estimate run run_tests
one_run a i K c g o h e m n N =
    let P = problem (with_windows (a + i.windows) i) in
    let f = first_failing (input_tests P K) in
    let x = reads_both a i K c g e m ∙ ap (λ (r : Option Refusal). run_past r P K) (later_first a i K (lent g) h) in
    let y = ap (λ (r : Option Refusal). run_past r P K) (first_append (input_tests P K) (output_tests K P.dynamics.dim P.windows o)) in
    x ∙ unless_13 P K f _ (too_short_is_13 K _ _ (lent g)) (rw x at n) ∙ sym (y ∙ unless_13 P K f _ (too_short_is_13 K _ _ o) (rw y at N))

-- ---- demand 3

pub leading_continued : LeadingContinued
unfolding problem
leading_continued a i k K c g e h hk hkK hK m n M N =
    let j = with_windows (a + i.windows) i in
    rw (reads_both a i k c g m n, reads_both a i K e h M N)
    (leading_run (problem_within (a + i.windows) i) (problem j) (problem_undirected (a + i.windows) i) (problem_keeps j) refl k K (lent g) (lent h) hk hkK hK)
