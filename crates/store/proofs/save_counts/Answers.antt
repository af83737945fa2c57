-- store::save_counts
use native.Mathlib.Omega.{arith}
use Rattle.store.proofs.Laid.{counts_laid}
use Rattle.store.proofs.save_counts.Goals as goal

pub returns : goal.returns
returns c = rw c.copy_from_slice.ensures.after (counts_laid c.args.counts.now _ _ _ _ _ (omega arith) c.requires (omega arith))
