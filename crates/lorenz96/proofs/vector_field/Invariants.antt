-- lorenz96::vector_field
use Prim.Native.Nat.{◌*◌}
use mathlib.Core.Path.{◌≡◌}
use lib.ListN.{length}
use Rattle.lorenz96.specs.Ring.{ring, cell_field}
use Rattle.lorenz96.proofs.Ring.{At, Written}
use Rattle.lorenz96.proofs.vector_field.Given as goal

abbrev pub invariant-loop-pair : goal.invariant-loop-pair
invariant-loop-pair l =
    record {
      long : length l.out ≡ 16;
      written : Written (cell_field l.cells l.forcing (ring l.cells l.x)) (2 * l.pair) l.out;
      state : At l.cells l.x (2 * l.pair) l.s l.after;
    }
