-- totals::as_float
use mathlib.Core.Path.{refl}
use Rattle.benettin.specs.Run as Run
use Rattle.totals.proofs.as_float.Goals as goal

pub returns : goal.returns
unfolding Run.as_float
returns c = refl
