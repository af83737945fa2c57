-- stepper::combine_stage
use Rattle.std.proofs.Common.{◌∷◌, arith}
use Rattle.stepper.specs.Stepper.{combine_stage}
use Rattle.stepper.proofs.Entrywise.{front_written}
use Rattle.stepper.proofs.combine_stage.Goals as goal

pub returns : goal.returns
returns g c ks =
    let l = c.loop-i in
    front_written (combine_stage c.args.scale) (c.args.k ∷ ks) c.args.v g.row.WIDTH l.out (omega arith) (omega arith) (λ i h. l.invariant.1 i (omega arith))
