-- floats::to_bits
use Rattle.floats.proofs.Rank.{nan_bits}
use Rattle.floats.proofs.Ordinary.{equal_no_nan}
use Rattle.floats.proofs.to_bits.Goals as goal

pub float_to_bits-result : goal.float_to_bits-result
float_to_bits-result c = equal_no_nan c.args.x c.if-x.false

pub returns-then-x : goal.returns-then-x
returns-then-x c = nan_bits c.args.x c.if-x.true
