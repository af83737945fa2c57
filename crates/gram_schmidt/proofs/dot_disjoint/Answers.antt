-- gram_schmidt::dot_disjoint
use native.Mathlib.Omega.{arith}
use mathlib.Core.Path.{refl, sym, ◌∙◌}
use lib.Ieee.{of_bits}
use Rattle.floats.proofs.Vector.{dot_next, dot_end}
use Rattle.gram_schmidt.proofs.dot_disjoint.Goals as goal

pub loop-i-init : goal.loop-i-init
unfolding of_bits
loop-i-init c = refl

pub loop-i-preserved : goal.loop-i-preserved
loop-i-preserved c =
    c.loop-i.invariant ∙ dot_next c.loop-i.s c.args.a.now c.args.b.now c.loop-i.i (omega arith) (omega arith)

pub returns : goal.returns
returns c = sym (c.loop-i.invariant ∙ dot_end c.loop-i.s c.args.a.now _ c.loop-i.i (omega arith))
