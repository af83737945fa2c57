-- rk4::narrow::advance_by_columns
use Rattle.std.proofs.Common.{rules}
use Rattle.floats.specs.Vector.{chunks}
use Rattle.matrix.specs.Matrix.{times}
use Rattle.stepper.specs.Stepper.{moved, rk4}
use Rattle.rk4.specs.Stages.{alike}
use Rattle.rk4.proofs.Advance.{linear_advances}
use Rattle.rk4.proofs.narrow.advance_by_columns.Goals as goal

pub returns : goal.returns
returns c =
    let a = c.args in
    let m = a.matrix.now in
    linear_advances _ _ _ _ _ _ _ _ (c.advance_vector.ensures _ c.requires.2 c.transpose.ensures.1)
    (c.for_each_vector.ensures (moved (rk4 a.h) (alike (times (chunks a.d a.d m)))) (λ v w n q. search rules))
