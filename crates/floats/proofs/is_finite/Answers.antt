-- floats::is_finite
use lib.Ieee.{nan_bits}
use Rattle.floats.proofs.Finite.{tested_below, tested_not_below}
use Rattle.floats.proofs.is_finite.Goals as goal

pub float_from_bits-top : goal.float_from_bits-top
unfolding nan_bits
float_from_bits-top c = tt

pub returns-then-x-top : goal.returns-then-x-top
returns-then-x-top c = tested_below c.args.x c.if-x-top.true

pub returns-else-x-top : goal.returns-else-x-top
returns-else-x-top c = tested_not_below c.args.x c.if-x-top.false
