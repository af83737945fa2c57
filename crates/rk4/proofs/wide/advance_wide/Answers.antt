-- rk4::wide::advance_wide
use Rattle.std.proofs.Common.{◌≡◌, ◌∙◌, [], ◌∷◌, take, rules}
use lib.Ieee.{of_bits}
use Rattle.stepper.specs.Stepper.{moved, rk4}
use Rattle.stepper.proofs.FourStages.{Staged, four_stages, four_points}
use Rattle.system.specs.System.{dim, field}
use Rattle.rk4.specs.Stages.{along}
use Rattle.rk4.proofs.Advance.{advances, state_moved}
use Rattle.rk4.proofs.Held.{loaded_front, stored_front}
use Rattle.rk4.proofs.wide.advance_wide.Goals as goal

pub returns : goal.returns
unfolding of_bits
returns c m e =
    let a = c.args in
    let d = dim a.system in
    let f = field a.system m in
    let front : take d c.copy_pairs.new.out ≡ a.state.now = loaded_front a.state.now c.requires.0 _ c.copy_pairs.ensures in
    let stages : Staged d 16 a.h c.copy_pairs.new.out f f f f _ _ _ _ _ _ _ =
    record {
      within = c.requires.1;
      derivative₁ = c.vector_field.ensures.1 m e;
      point₂ = c.combine_stage-x2.ensures;
      derivative₂ = c.vector_field-2.ensures.1 m e;
      point₃ = c.combine_stage-x3.ensures;
      derivative₃ = c.vector_field-3.ensures.1 m e;
      point₄ = c.combine_stage-x4.ensures;
      derivative₄ = c.vector_field-4.ensures.1 m e;
    } in
    let points = c.copy_pairs.new.out ∷ c.combine_stage-x2.result ∷ c.combine_stage-x3.result ∷ c.combine_stage-x4.result ∷ [] in
    advances _ m _ _ _ _ _ points _ _ c.requires.0
    (stored_front a.state.now c.requires.0 _ _ c.copy_pairs-2.ensures ∙ four_stages stages _ c.rk4_update-next.ensures ∙ rw front (state_moved a.system m a.h a.state.now))
    (four_points stages ∙ rw front)
    (c.for_each_vector.ensures (moved (rk4 a.h) (along a.system m points)) (λ v w n q. search rules))
