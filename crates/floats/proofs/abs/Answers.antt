-- floats::abs
use mathlib.Core.Path.{sym, subst}
use lib.Dec.{T}
use Rattle.floats.proofs.Magnitude.{magnitude_negative, magnitude_zero, magnitude_positive}
use Rattle.floats.proofs.abs.Goals as goal

pub returns-then-x : goal.returns-then-x
returns-then-x c = magnitude_negative c.args.x c.if-x.true

pub returns-then-x-2 : goal.returns-then-x-2
returns-then-x-2 c = magnitude_zero c.args.x (subst T (sym c.well_formed.0.1) tt) c.if-x-2.true

pub returns : goal.returns
returns c = magnitude_positive c.args.x c.if-x.false c.if-x-2.false
