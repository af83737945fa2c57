-- ln::series
use mathlib.Core.Path.{refl}
use lib.Ieee.{nan_bits}
use Rattle.ln.specs.Logarithm.{series}
use Rattle.ln.proofs.series.Goals as goal

pub float_from_bits-l1 : goal.float_from_bits-l1
unfolding nan_bits
float_from_bits-l1 c = tt

pub float_from_bits-l2 : goal.float_from_bits-l2
unfolding nan_bits
float_from_bits-l2 c = tt

pub float_from_bits-l3 : goal.float_from_bits-l3
unfolding nan_bits
float_from_bits-l3 c = tt

pub float_from_bits-l4 : goal.float_from_bits-l4
unfolding nan_bits
float_from_bits-l4 c = tt

pub float_from_bits-l5 : goal.float_from_bits-l5
unfolding nan_bits
float_from_bits-l5 c = tt

pub float_from_bits-l6 : goal.float_from_bits-l6
unfolding nan_bits
float_from_bits-l6 c = tt

pub float_from_bits-l7 : goal.float_from_bits-l7
unfolding nan_bits
float_from_bits-l7 c = tt

pub float_from_bits-high : goal.float_from_bits-high
unfolding nan_bits
float_from_bits-high c = tt

pub float_from_bits-low : goal.float_from_bits-low
unfolding nan_bits
float_from_bits-low c = tt

pub returns : goal.returns
unfolding series
returns c = refl
