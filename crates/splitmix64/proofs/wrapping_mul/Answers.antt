-- splitmix64::wrapping_mul
use Rattle.splitmix64.proofs.Product.{wrapped}
use Rattle.splitmix64.proofs.wrapping_mul.Goals as goal

pub returns : goal.returns
returns c = wrapped c.args.a c.args.b
