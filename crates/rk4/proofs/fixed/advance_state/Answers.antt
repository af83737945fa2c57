-- rk4::fixed::advance_state
use Rattle.std.proofs.Common.{◌≡◌, ◌∙◌, take}
use Rattle.system.specs.System.{dim, field}
use Rattle.system.proofs.Cases.{fixed_dimension}
use Rattle.system.proofs.Front.{field_front}
use Rattle.rk4.proofs.Advance.{state_moved}
use Rattle.rk4.proofs.Held.{padded_front, copied_front}
use Rattle.rk4.proofs.fixed.advance_state.Goals as goal

pub returns : goal.returns
returns c m =
    let a = c.args in
    let d = dim a.system in
    let few = fixed_dimension a.system c.requires.0 in
    let front : take d c.zero_padded-x1.result ≡ a.state.now = padded_front a.state.now c.requires.1 few c.zero_padded-x1.ensures in
    let e = c.advance-advanced.ensures in (
      copied_front a.state.now c.requires.1 few _ _ c.copy_front.ensures ∙ e.moves d (λ _. field a.system m) few (λ stage x r s n p. field_front a.system m x.now r (p m)) ∙ rw front (state_moved a.system m a.h a.state.now),
      e.points d (field a.system m) few (λ stage x r s n p. field_front a.system m x.now r (p m)) ∙ rw front,
    )
