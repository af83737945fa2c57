-- rk4::fixed::advance_fixed
use Rattle.std.proofs.Common.{rules}
use Rattle.stepper.specs.Stepper.{moved, rk4}
use Rattle.rk4.specs.Stages.{along}
use Rattle.rk4.proofs.Advance.{advances}
use Rattle.rk4.proofs.fixed.advance_fixed.Goals as goal

pub returns : goal.returns
returns c m =
    let a = c.args in
    let p = c.advance_state-points in
    let e = p.ensures m in
    advances a.system m a.h _ _ a.count _ p.result _ _ c.requires.1 e.0 e.1 (c.for_each_vector.ensures (moved (rk4 a.h) (along a.system m p.result)) (λ v w n q. search rules))
