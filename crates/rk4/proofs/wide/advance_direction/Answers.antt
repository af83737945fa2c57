-- rk4::wide::advance_direction
use Rattle.std.proofs.Common.{◌≡◌, ◌∙◌, List, Float, Bor, map, take, ap, rules}
use lib.Ieee.{of_bits}
use Rattle.stepper.specs.Stepper.{moved, rk4}
use Rattle.stepper.proofs.FourStages.{Staged, four_stages}
use Rattle.system.specs.System.{dim}
use Rattle.rk4.specs.Stages.{along}
use Rattle.rk4.proofs.Held.{loaded_front, stored_front, four_places}
use Rattle.rk4.proofs.wide.advance_direction.Goals as goal

pub returns : goal.returns
unfolding of_bits
returns c m e =
    let a = c.args in
    let d = dim a.system in
    let front : take d c.copy_pairs.new.out ≡ a.t.now = loaded_front a.t.now c.requires.0 _ c.copy_pairs.ensures in
    let stages : Staged d 16 a.h c.copy_pairs.new.out _ _ _ _ _ _ _ _ _ _ _ =
    record {
      within = c.requires.1;
      derivative₁ = c.jacobian_vector_product.ensures.1 m e;
      point₂ = c.combine_stage-t2.ensures;
      derivative₂ = c.jacobian_vector_product-2.ensures.1 m e;
      point₃ = c.combine_stage-t3.ensures;
      derivative₃ = c.jacobian_vector_product-3.ensures.1 m e;
      point₄ = c.combine_stage-t4.ensures;
      derivative₄ = c.jacobian_vector_product-4.ensures.1 m e;
    } in
    stored_front a.t.now c.requires.0 _ _ c.copy_pairs-2.ensures
    ∙ four_stages stages _ c.rk4_update-next.ensures
    ∙ ap (moved (rk4 a.h) _) front
    ∙ ap (λ (xs : List (Bor (List Float))). moved (rk4 a.h) (along a.system m (map (λ x. x.now) xs)) a.t.now) (four_places _ a.points.now (search rules))
