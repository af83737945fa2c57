-- continuation::validate_later
use Prim.Native.Nat.{ℕ}
use mathlib.Core.Path.{◌≡◌, ap, ◌∙◌}
use lib.Dec.{leb}
use Rattle.error.specs.Tests.{first_failing}
use Rattle.benettin.specs.Run.{input_tests, run_tests}
use Rattle.benettin.specs.declared.OutputLengths.{OutputLengths}
use Rattle.benettin.specs.Estimate.{Input, limit, problem_within}
use Rattle.continuation.proofs.validate_later.Goals as goal

-- of all windows the tests read only whether they are within the limit
by_limit : (t u : ℕ) (i : Input) (K : ℕ) (o : OutputLengths) → leb t limit ≡ leb u limit → run_tests (problem_within t i) K o ≡ run_tests (problem_within u i) K o
unfolding run_tests input_tests problem_within
by_limit t u i K o e = rw e

pub returns : goal.returns
returns c = c.validate.ensures ∙ ap first_failing (by_limit _ _ _ _ _ c.total_windows-total.ensures)
