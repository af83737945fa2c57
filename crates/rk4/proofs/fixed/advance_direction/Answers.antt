-- rk4::fixed::advance_direction
use Rattle.std.proofs.Common.{◌≡◌, List, Float, ap, ◌∙◌, take, get_or, [], rules}
use Rattle.system.specs.System.{dim, tangent}
use Rattle.system.proofs.Cases.{fixed_dimension}
use Rattle.system.proofs.Front.{tangent_front}
use Rattle.stepper.specs.Stepper.{moved, rk4}
use Rattle.rk4.specs.Stages.{along}
use Rattle.rk4.proofs.Held.{four_places, padded_front, copied_front}
use Rattle.rk4.proofs.fixed.advance_direction.Goals as goal

pub returns : goal.returns
returns c m =
    let a = c.args in
    let d = dim a.system in
    let few = fixed_dimension a.system c.requires.0 in
    let front : take d c.zero_padded-t1.result ≡ a.t.now = padded_front a.t.now c.requires.1 few c.zero_padded-t1.ensures in
    copied_front a.t.now c.requires.1 few _ _ c.copy_front.ensures
    ∙ c.advance-advanced.ensures.moves d (λ i. tangent a.system m (take d (get_or a.points.now i []))) few (λ stage x r s n p. tangent_front a.system m (get_or a.points.now stage []) x.now r (p m))
    ∙ rw front (ap (λ (xs : List (List Float)). moved (rk4 a.h) (along a.system m xs) a.t.now) (four_places [] a.points.now (search rules)))
