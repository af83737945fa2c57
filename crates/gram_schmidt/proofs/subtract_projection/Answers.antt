-- gram_schmidt::subtract_projection
use native.Mathlib.Nat.{add-zero, sub-zero}
use native.Mathlib.Omega.{arith}
use mathlib.Core.Path.{◌≡◌, refl, sym, ap, ◌∙◌}
use lib.Ieee.{of_bits}
use Rattle.floats.specs.Vector.{dot_from, part}
use Rattle.gram_schmidt.specs.GramSchmidt.{euclidean}
use Rattle.gram_schmidt.proofs.Loops.{subtracting, subtract_next, subtract_end, summing_next, summing_end}
use Rattle.gram_schmidt.proofs.subtract_projection.Goals as goal

pub loop-i-init : goal.loop-i-init
unfolding of_bits
loop-i-init c = (refl, simp (add-zero, sub-zero))

pub loop-i-preserved : goal.loop-i-preserved
loop-i-preserved c =
    let l = c.loop-i in
    let ar = c.args in
    let done = l.invariant.0 ∙ subtract_next ar.p ar.basis ar.target ar.d l.values l.i (omega arith) (omega arith) (omega arith) in (
      done,
      l.invariant.1 ∙ summing_next ar.p ar.next ar.basis ar.target ar.d l.values _ l.product l.i (omega arith) (omega arith) (omega arith) done,
    )

pub returns : goal.returns
returns c =
    let l = c.loop-i in
    let ar = c.args in
    let done : subtracting ar.p ar.basis ar.target ar.d ar.values.now 0 ≡ l.values = l.invariant.0 ∙ subtract_end ar.p ar.basis ar.target ar.d l.values l.i (omega arith) (omega arith) in (
      sym done ∙ rw add-zero,
      sym (l.invariant.1 ∙ summing_end ar.next ar.target ar.d _ l.product l.i (omega arith))
          ∙ ap (λ zs. dot_from euclidean.start (part ar.next ar.d zs) (part ar.target ar.d zs)) done,
    )
