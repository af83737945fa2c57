-- store::beside::save_beside
use native.Mathlib.Omega.{arith}
use Prim.Native.Nat.{◌+◌}
use lib.ListN.{length}
use Rattle.floats.proofs.Fill.{copied_front, copied_whole}
use Rattle.store.proofs.LaidBeside.{beside_is}
use Rattle.store.proofs.beside.save_beside.Goals as goal

pub returns : goal.returns
returns c =
    let a = c.args in
    beside_is _ _ _ c.requires (omega arith) (omega arith) a.number
    (copied_whole a.state.now _ (length a.state.now) c.copy_pairs.ensures (omega arith) (omega arith))
    (copied_front a.progress.now.sums _ a.k c.copy_pairs-2.ensures (omega arith))
    (copied_front a.norms.now _ (a.k + a.k) c.copy_pairs-3.ensures (omega arith)) c.save_counts.ensures
