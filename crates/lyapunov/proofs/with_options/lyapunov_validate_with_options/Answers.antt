-- lyapunov::with_options::lyapunov_validate_with_options
use borrow.Author.Rules.{rules}
use Rattle.benettin.specs.Estimate.{problem}
use Rattle.lyapunov.proofs.with_options.lyapunov_validate_with_options.Goals as goal

pub returns : goal.returns
unfolding problem
returns c = search rules
