-- stepper::advance
use Rattle.std.proofs.Common.{ℕ, ◌≤◌, List, Float, arith, rules}
use lib.Ieee.{of_bits}
use Rattle.stepper.specs.Stages.{Derives}
use Rattle.stepper.proofs.FourStages.{Staged, four_stages, four_points}
use Rattle.stepper.proofs.advance.Goals as goal
use Rattle.stepper.proofs.advance.Goals.{After-drop-derivative}

staged : (g : _) (c : After-drop-derivative g) (d : ℕ) (f : ℕ → List Float → List Float) → d ≤ g.row.WIDTH → Derives d f (goal.D-post g c.args.derivative)
    → Staged d g.row.WIDTH c.args.h c.args.x1 (f 0) (f 1) (f 2) (f 3) c.combine_stage-x2.result c.combine_stage-x3.result c.combine_stage-x4.result c.derivative-k1.result c.derivative-k2.result c.derivative-k3.result c.derivative-k4.result
unfolding of_bits
staged g c d f few derives =
    record {
      within = few;
      derivative₁ = derives 0 _ _ (omega arith) (search rules) c.derivative-k1.ensures;
      point₂ = c.combine_stage-x2.ensures;
      derivative₂ = derives 1 _ _ (omega arith) (search rules) c.derivative-k2.ensures;
      point₃ = c.combine_stage-x3.ensures;
      derivative₃ = derives 2 _ _ (omega arith) (search rules) c.derivative-k3.ensures;
      point₄ = c.combine_stage-x4.ensures;
      derivative₄ = derives 3 _ _ (omega arith) (search rules) c.derivative-k4.ensures;
    }

pub returns : goal.returns
returns g c = record {
  moves = λ d f few derives. four_stages (staged g c d f few derives) _ c.rk4_update-next.ensures;
  points = λ d f few derives. four_points (staged g c d (λ _. f) few derives);
}
