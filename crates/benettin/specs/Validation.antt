-- What is known of a run that passed the tests 1 to 13, its windows the last of `total`. Definitions only.
use Rattle.std.specs.Prelude.{ℕ, ◌+◌, ◌*◌, ◌≤◌, ◌≡◌, true}
use Rattle.std.specs.Float.Ieee.Scale.{finite}
use Rattle.system.specs.System.{dim}
use Rattle.rk4.specs.Tests.{Passed}
use Rattle.benettin.specs.declared.OutputLengths.{OutputLengths}
use Rattle.benettin.specs.Estimate.{Input, limit}

pub record Ready (total : ℕ) (i : Input) (K : ℕ) (o : OutputLengths) : Type 0 where
  pub step : Passed i.system i.matrix i.state K i.step_size
  pub clock : finite i.time ≡ true
  pub directions : K ≤ dim i.system
  pub steps_limit : i.steps ≤ limit
  pub windows_limit : total ≤ limit
  pub warm_up_limit : i.warm_up ≤ limit
  pub warm_up_steps_limit : i.warm_up_steps ≤ limit
  pub rows : i.windows * (1 + 2 * K) ≤ o.rows
  pub exponents : K ≤ o.exponents
  pub state : dim i.system ≤ o.state
