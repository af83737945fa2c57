-- Going on from where a run stood is the one run of all windows, its rows from there on.
use Prim.Native.Nat.{ℕ, ◌+◌}
use native.Mathlib.Omega.{arith}
use mathlib.Core.Path.{◌≡◌, refl, ◌∙◌, subst}
use mathlib.Core.List.{List, ◌++◌}
use mathlib.Core.Option.{Option, none, some}
use lib.ListN.{length, drop}
use lib.Seq.{drop_at, drop-nil}
use Rattle.error.specs.Tests.{first_failing}
use Rattle.error.specs.declared.Refusal.{Refusal}
use Rattle.benettin.specs.Run.{Dynamics, RunState, Status, ok, refused, Row, Course, initial, measured, course_of, answer, run_past}
use Rattle.benettin.specs.Estimate.{Input, problem}
use Rattle.benettin.proofs.Sizes.{Has}
use Rattle.benettin.proofs.Reading.{estimate_rows}
use Rattle.continuation.specs.Continuation.{with_windows, later_tests, later, continued, Stood, resumed_past, resumed, GoingOn}
use Rattle.continuation.proofs.Compose.{joined, course_add}

-- the windows of i from c on
abbrev pub rest : Input → RunState → Course
rest i c = let P = problem i in measured P.dynamics P.steps P.windows c

-- a run that was not refused has a row for each window
pub stood_has : (i : Input) (K : ℕ) (c : RunState) → Stood i K c → Has (length i.state) K i.windows c × (length (course_of (problem i) K).rows ≡ i.windows)
stood_has i K c h =
    let d = length i.state in
    let t = course_of (problem i) K in
    let p : Has d K (0 + length t.rows) c × (length t.rows ≡ i.windows) = rw h at (estimate_rows i K).end in
    let n : 0 + length t.rows ≡ i.windows = omega (arith, p.1) in
    (subst (λ (m : ℕ). Has d K m c) n p.0, p.1)

-- the one run has the rows of the first windows, and then those from c on
pub one_course : (a : ℕ) (i : Input) (K : ℕ) (c : RunState) → Stood (with_windows a i) K c
    → course_of (problem (with_windows (a + i.windows) i)) K ≡ record { rows = (course_of (problem (with_windows a i)) K).rows ++ (rest i c).rows; end = (rest i c).end }
unfolding problem initial joined
one_course a i K c h = let P = problem i in course_add P.dynamics P.steps P.windows P.warm_up_steps P.warm_up_windows a _ ∙ rw h

later_answer : (M : Dynamics) (a n K : ℕ) (rows : List Row) (x : Status) → later a (answer M n K rows x) ≡ answer M n K (drop a rows) x
unfolding answer
later_answer M a n K rows (ok c) = refl
later_answer M a n K rows (refused r) = refl

past : (r : Option Refusal) (a : ℕ) (i : Input) (K : ℕ) (c : RunState) → Stood (with_windows a i) K c → resumed_past r a i K c ≡ later a (run_past r (problem (with_windows (a + i.windows) i)) K)
unfolding resumed_past run_past problem
past (some r) a i K c h = rw drop-nil
past none a i K c h = rw (one_course a i K c h, later_answer, drop_at _ (rest i c).rows a (stood_has (with_windows a i) K c h).1)

pub going_on : GoingOn
unfolding resumed continued
going_on a i K o c = past (first_failing (later_tests a i K o)) a i K c
