-- rk4::arrays::for_each_vector
use Rattle.std.proofs.Common.{List, Float}
use Rattle.rk4.specs.Stages.{Computes}
use Rattle.rk4.proofs.Directions.{Replaced}
use Rattle.rk4.proofs.arrays.for_each_vector.Given as goal

abbrev pub invariant-loop-j : goal.invariant-loop-j
invariant-loop-j g l = (G : List Float → List Float) → Computes l.d G (goal.F-post g l.advance) → Replaced G l.d l.j l.fn.vectors l.vectors
