-- ln::ln
use mathlib.Core.Path.{◌≡◌, refl, sym, ap, ◌∙◌, subst}
use mathlib.Core.Bool.{Bool, true, false, ◌&&◌}
use lib.Dec.{T}
use lib.IntN.{negsuc}
use lib.Ieee.{Float, inf, fin, binary64, nan_bits, of_bits, le, lt}
use Rattle.ln.specs.Logarithm.{log, normal, given}
use Rattle.error.specs.Refusal.{value}
use Rattle.floats.proofs.Finite.{infinity_is}
use Rattle.ln.proofs.ln.Goals as goal

-- the code's constant
least_is : of_bits binary64 0x0010_0000_0000_0000 ≡ fin false 1 (negsuc 1021)
unfolding of_bits
least_is = refl

-- `normal z` by the two tests
tested : (z : Float) (a b : Bool) → le (of_bits binary64 0x0010_0000_0000_0000) z ≡ a → lt z (of_bits binary64 0x7ff0_0000_0000_0000) ≡ b → normal z ≡ (a && b)
tested z a b p q = ap (λ (t : Bool). t && lt z (inf false)) (ap (λ (y : Float). le y z) (sym least_is) ∙ p) ∙ ap (λ (t : Bool). a && t) (ap (lt z) (sym infinity_is) ∙ q)

first : (z : Float) → le (of_bits binary64 0x0010_0000_0000_0000) z ≡ false → normal z ≡ false
first z p = ap (λ (t : Bool). t && lt z (inf false)) (ap (λ (y : Float). le y z) (sym least_is) ∙ p)

pub float_from_bits-t-2 : goal.float_from_bits-t-2
unfolding nan_bits
float_from_bits-t-2 c = tt

pub float_from_bits-t-4 : goal.float_from_bits-t-4
unfolding nan_bits
float_from_bits-t-4 c = tt

pub normal_ln-requires : goal.normal_ln-requires
normal_ln-requires c = subst T (sym (tested c.args.z true true c.if-z.true c.if-z-2.true)) tt

pub returns-then-z-2 : goal.returns-then-z-2
returns-then-z-2 c =
    let z = c.args.z in
    ap value c.normal_ln.ensures ∙ ap (λ (t : Bool). given t (log z)) (sym (tested z true true c.if-z.true c.if-z-2.true))

pub returns-else-z-2 : goal.returns-else-z-2
returns-else-z-2 c =
    let z = c.args.z in
    ap (λ (t : Bool). given t (log z)) (sym (tested z true false c.if-z.true c.if-z-2.false))

pub returns-else-z : goal.returns-else-z
returns-else-z c =
    let z = c.args.z in
    ap (λ (t : Bool). given t (log z)) (sym (first z c.if-z.false))
