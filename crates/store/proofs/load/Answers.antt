-- store::load
use Rattle.std.proofs.Common.{◌≡◌, ◌+◌, ◌-◌, ◌*◌, length, arith, ◌∙◌}
use Rattle.floats.specs.Vector.{part}
use Rattle.floats.proofs.Fill.{copied_whole}
use Rattle.floats.proofs.Sets.{part_length}
use Rattle.store.proofs.Laid.{few_entries}
use Rattle.store.proofs.LaidBeside.{loaded_is}
use Rattle.store.proofs.load.Goals as goal

pub returns : goal.returns
returns c =
    let a = c.args in
    let R = c.requires in
    let s = 321 * a.slot + 16 in
    let n = length a.tangents.now in
    let F = a.floats.now in
    let z : s + n - s ≡ a.k * length a.state.now = omega (arith, R.tangents) in
    let l : length (part s (s + n - s) F) ≡ n =
    rw z (part_length s (a.k * length a.state.now) F (omega (arith, R.slot, few_entries a.k (length a.state.now) R.few R.entries)) ∙ omega (arith, R.tangents)) in
    let t : c.copy_pairs.new.out ≡ part s (a.k * length a.state.now) F =
    copied_whole (part s (s + n - s) F) a.tangents.now n c.copy_pairs.ensures (omega arith) (omega (arith, l)) ∙ rw z in
    rw t (loaded_is _ a.norms.now _ (record { slot = R.slot; entries = R.entries; few = R.few }) R.used (omega arith, omega arith) c.load_vectors.ensures.0 c.load_vectors.ensures.1 c.faint_at.ensures c.progress_at.ensures)
