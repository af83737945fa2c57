-- store::save
use Rattle.std.proofs.Common.{arith, ◌+◌, ◌*◌, ◌∙◌, refl, length}
use Rattle.floats.proofs.Fill.{copied_whole}
use Rattle.floats.proofs.Parts.{put_is}
use Rattle.store.proofs.Laid.{few_entries}
use Rattle.store.proofs.LaidBeside.{beside, saved_is}
use Rattle.store.proofs.save.Goals as goal

pub returns : goal.returns
returns c =
    let a = c.args in
    let S = c.requires in
    let few = few_entries a.k (length a.state.now) S.held.few S.held.entries in
    let e = put_is a.floats.now (321 * a.slot + 16) (length a.tangents.now) a.tangents.now (omega (arith, few, S.held.tangents, S.slot)) refl in
    c.save_beside.ensures ∙ saved_is a.number _ _ a.tangents.now _ (beside S) S.held.tangents (rw (copied_whole a.tangents.now _ (length a.tangents.now) c.copy_pairs.ensures (omega arith) (omega arith)) e)
