-- store::beside::load_vectors
use Rattle.std.proofs.Common.{◌≡◌, ◌+◌, ◌-◌, ◌*◌, length, drop, arith, ◌∙◌}
use lib.Seq.{take-take}
use Rattle.floats.specs.Vector.{part}
use Rattle.floats.proofs.Fill.{copied_whole}
use Rattle.floats.proofs.Sets.{part_length}
use Rattle.store.proofs.beside.load_vectors.Goals as goal

pub returns : goal.returns
returns c =
    let a = c.args in
    let s = 321 * a.slot in
    let d = length a.state.now in
    let F = a.floats.now in
    let z : s + d - s ≡ d = omega arith in
    let y : s + 288 + (a.k + a.k) - (s + 288) ≡ a.k + a.k = omega arith in
    let l : length (part s (s + d - s) F) ≡ d = rw z (part_length s d F (omega (arith, c.requires.slot, c.requires.entries))) in (
      copied_whole (part s (s + d - s) F) a.state.now d c.copy_pairs.ensures (omega arith) (omega (arith, l)) ∙ rw z,
      c.copy_pairs-2.ensures ∙ rw (y, take-take (a.k + a.k) (a.k + a.k) (drop (s + 288) F) (omega arith)),
    )
