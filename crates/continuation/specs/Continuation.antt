-- Document 02, c): a run that goes on from where a shorter one stood. Definitions only.
use Rattle.std.specs.Prelude.{ℕ, ◌+◌, ◌≡◌, List, drop, Float}
use Rattle.std.proofs.Math.Option.{Option, none, some}
use Rattle.error.specs.Tests.{Test, first_failing}
use Rattle.error.specs.declared.Refusal.{Refusal}
use Rattle.benettin.specs.Run.{RunState, ok, RunAnswer, ended, stopped, course_of, measured, answer, run_tests, run_past}
use Rattle.benettin.specs.declared.OutputLengths.{OutputLengths}
use Rattle.benettin.specs.Estimate.{Input, problem_within, problem}
use Rattle.benettin.specs.Outputs.{Estimated, Call, outputs_from, outputs, lengths_of}

-- the same run with n measured windows
abbrev pub with_windows : ℕ → Input → Input
with_windows n i = record i { windows = n }

-- 1 to 13 of the run i, which goes on after a windows: 4 tests its own windows, 5 tests a and those, and 13 counts rows for its own
abbrev pub later_tests : ℕ → Input → ℕ → OutputLengths → List Test
later_tests a i K o = run_tests (problem_within (a + i.windows) i) K o

-- without the rows of the first a windows
abbrev pub later : ℕ → RunAnswer → RunAnswer
later a (ended rows x) = ended (drop a rows) x
later a (stopped rows r f) = stopped (drop a rows) r f

-- Going on for the windows of i after a of them: the one run of all of them, its rows from the a-th on.
unfoldable pub continued : ℕ → Input → ℕ → OutputLengths → RunAnswer
unfolding problem run_tests run_past first_failing
continued a i K o = later a (run_past (first_failing (later_tests a i K o)) (problem (with_windows (a + i.windows) i)) K)

-- what is answered and left in the outputs: the counts and times of all a + b windows, and the later rows from place 0 on
unfoldable pub went_on : ℕ → Input → ℕ → List Float → List Float → List Float → Estimated
unfolding continued outputs_from
went_on a i K rows exponents final = outputs (a + i.windows) rows exponents final (continued a i K (lengths_of rows exponents final))

-- what a call for K rates that goes on after a windows meets
abbrev pub Continues : ℕ → Input → ℕ → Call → Type 0
Continues a i K c = c.after ≡ went_on a i K c.rows c.exponents c.final_state

-- ---- the same from where the run stood

-- c is where the run i for K rates stood at its end
abbrev pub Stood : Input → ℕ → RunState → Type 0
Stood i K c = (course_of (problem i) K).end ≡ ok c

unfoldable pub resumed_past : Option Refusal → ℕ → Input → ℕ → RunState → RunAnswer
unfolding run_past measured answer
resumed_past (some r) a i K c = run_past (some r) (problem i) K
resumed_past none a i K c =
    let P = problem i in
    let t = measured P.dynamics P.steps P.windows c in
    answer P.dynamics (a + P.windows) K t.rows t.end

-- Going on from c, whatever it is, after a windows.
unfoldable pub resumed : ℕ → Input → ℕ → OutputLengths → RunState → RunAnswer
unfolding resumed_past run_tests first_failing
resumed a i K o c = resumed_past (first_failing (later_tests a i K o)) a i K c

-- From where the run of a windows stood, that is the one run. proofs/GoingOn.antt proves it.
abbrev pub GoingOn : Type 0
GoingOn = (a : ℕ) (i : Input) (K : ℕ) (o : OutputLengths) (c : RunState) → Stood (with_windows a i) K c → resumed a i K o c ≡ continued a i K o
