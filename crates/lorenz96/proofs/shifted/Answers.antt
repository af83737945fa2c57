-- lorenz96::shifted
use Rattle.lorenz96.proofs.Ring.{around_next}
use Rattle.lorenz96.proofs.shifted.Goals as goal

pub returns : goal.returns
returns c n v i h a e = around_next n v i _ _ h a e
