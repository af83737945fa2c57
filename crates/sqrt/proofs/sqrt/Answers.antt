-- sqrt::sqrt
use mathlib.Core.Path.{sym, ap, ◌∙◌, subst}
use native.Mathlib.Omega.{arith}
use lib.Dec.{T}
use lib.Ieee.{binary64, fits}
use lib.Ieee.Bits.{of_bits-to_bits}
use Rattle.sqrt.specs.SquareRoot.{root}
use Rattle.sqrt.proofs.Special.{nan_root, negative_root, own_root}
use Rattle.floats.proofs.Ordinary.{equal_no_nan}
use Rattle.sqrt.proofs.sqrt.Goals as goal
use Rattle.sqrt.proofs.sqrt.Goals.{Start}

held : (c : Start) → T (fits binary64 c.args.x)
held c = subst T (sym c.well_formed.0.1) tt

pub returns-then-x : goal.returns-then-x
returns-then-x c = negative_root c.args.x c.if-x.true

pub float_to_bits-b : goal.float_to_bits-b
float_to_bits-b c = equal_no_nan c.args.x c.if-x-2.false

pub returns-then-b-lt-INFINITY_BITS : goal.returns-then-b-lt-INFINITY_BITS
returns-then-b-lt-INFINITY_BITS c = c.pattern_root.ensures ∙ ap root (of_bits-to_bits binary64 c.args.x (held (goal.at.returns-then-b-lt-INFINITY_BITS c).Start))

pub returns-then-x-2 : goal.returns-then-x-2
returns-then-x-2 c = nan_root c.args.x c.if-x-2.true

pub returns-else-b-lt-INFINITY_BITS : goal.returns-else-b-lt-INFINITY_BITS
returns-else-b-lt-INFINITY_BITS c = own_root c.args.x (held (goal.at.returns-else-b-lt-INFINITY_BITS c).Start) (λ h. c.if-b-lt-INFINITY_BITS.false) c.if-x.false

pub returns-else-b-gt0 : goal.returns-else-b-gt0
returns-else-b-gt0 c = own_root c.args.x (held (goal.at.returns-else-b-gt0 c).Start) (λ h. omega (arith, c.if-b-gt0.false)) c.if-x.false
