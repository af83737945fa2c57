-- rk4::narrow::advance_vector
use Rattle.std.proofs.Common.{◌≡◌, ◌∙◌, take}
use Rattle.floats.specs.Vector.{chunks}
use Rattle.matrix.specs.Matrix.{times}
use Rattle.rk4.proofs.Held.{padded_front, copied_front}
use Rattle.rk4.proofs.narrow.advance_vector.Goals as goal

pub returns : goal.returns
returns c m e t =
    let a = c.args in
    let few = c.requires.0 in
    let front : take a.d c.zero_padded-x1.result ≡ a.v.now = padded_front a.v.now c.requires.2 few c.zero_padded-x1.ensures in
    copied_front a.v.now c.requires.2 few _ _ c.copy_front.ensures
    ∙ c.advance-advanced.ensures.moves a.d (λ _. times (chunks a.d a.d m)) few (λ stage x r s n p. p m e t)
    ∙ rw front
