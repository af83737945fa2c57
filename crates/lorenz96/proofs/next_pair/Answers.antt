-- lorenz96::next_pair
use Rattle.lorenz96.proofs.Ring.{following}
use Rattle.lorenz96.proofs.next_pair.Goals as goal

pub returns : goal.returns
returns c = following c.args.cells c.args.x.now c.args.i _ c.wrapped-k.ensures c.requires.2
