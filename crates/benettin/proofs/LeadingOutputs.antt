-- Demand 3 of what two calls answer and leave: each reads as its run, and the runs have it.
use Rattle.benettin.specs.LeadingOutputs.{LeadingOutputs}
use Rattle.benettin.specs.Outputs.{lent}
use Rattle.benettin.proofs.LeadingSpectrum.{leading_estimate}
use Rattle.benettin.proofs.Reading.{reads}

pub leading_outputs : LeadingOutputs
leading_outputs i k K c e hk h hK m M = rw (reads i k c m, reads i K e M) (leading_estimate i k K (lent c) (lent e) hk h hK)
