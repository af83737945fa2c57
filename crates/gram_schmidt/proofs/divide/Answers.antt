-- gram_schmidt::divide
use native.Mathlib.Omega.{arith}
use Rattle.std.proofs.lemmas.List.{get_or_default}
use Rattle.std.proofs.lemmas.List.Edits.{map_over_more}
use Rattle.floats.specs.Arithmetic.{◌⊘◌}
use Rattle.gram_schmidt.proofs.divide.Goals as goal

pub loop-x-preserved : goal.loop-x-preserved
loop-x-preserved c =
    let l = c.loop-x in
    map_over_more (λ x. x ⊘ c.args.by) c.args.s.now l.x-items l.x-index _ (omega arith) l.invariant (get_or_default l.x-items l.x-index _ _ (omega arith))
