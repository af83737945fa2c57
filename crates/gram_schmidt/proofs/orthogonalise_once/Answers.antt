-- gram_schmidt::orthogonalise_once
use native.Mathlib.Omega.{arith}
use native.Mathlib.Nat.{suc-mul, zero-mul, sub-zero}
use Prim.Native.Nat.{ℕ, zero, suc, ◌≤◌, ◌+◌, ◌-◌, ◌*◌}
use mathlib.Core.Path.{◌≡◌, sym, ◌∙◌}
use Rattle.gram_schmidt.specs.GramSchmidt.{euclidean}
use Rattle.gram_schmidt.proofs.Loops.{orthogonalise_next, orthogonalise_end}
use Rattle.gram_schmidt.proofs.orthogonalise_once.Goals as goal

before : (p d : ℕ) → 1 ≤ p → p * d - d ≡ (p - 1) * d
before zero d h = absurd (omega arith)
before (suc p) d h = let e : suc p - 1 ≡ p = omega arith in rw (e, suc-mul) (omega arith)

pub loop-p-preserved : goal.loop-p-preserved
loop-p-preserved c =
    let l = c.loop-p in
    let a = c.args in
    let s = c.subtract_projection-c in
    let here : l.p + 1 - 1 ≡ l.p = omega arith in
    let back : l.p - 1 + 1 ≡ l.p = omega arith in
    let next = orthogonalise_next euclidean.start a.d a.v l.values (omega arith) (l.p - 1) l.c s.new.values (omega arith) l.invariant.1 (rw (← before l.p a.d (omega arith)) s.ensures.0) in
    (rw here (l.invariant.0 ∙ (rw back at next)), rw here s.ensures.1)

pub returns : goal.returns
returns c =
    let l = c.loop-p in
    let a = c.args in
    let s = c.subtract_projection in
    let end : l.p ≡ a.v = omega arith in
    let next = orthogonalise_next euclidean.start a.d a.v l.values (omega arith) (l.p - 1) l.c s.new.values (omega arith) l.invariant.1 (rw (← before l.p a.d (omega arith), end) s.ensures.0) in
    (sym (l.invariant.0 ∙ next ∙ orthogonalise_end euclidean.start a.d a.v s.new.values (omega arith) (l.p - 1 + 1) (omega arith)) ∙ simp (zero-mul, sub-zero), s.ensures.1)
