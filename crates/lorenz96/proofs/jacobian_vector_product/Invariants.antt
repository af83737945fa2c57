-- lorenz96::jacobian_vector_product
use Prim.Native.Nat.{◌*◌}
use mathlib.Core.Path.{◌≡◌}
use lib.ListN.{length}
use Rattle.lorenz96.specs.Ring.{ring, cell_tangent}
use Rattle.lorenz96.proofs.Ring.{At, Written}
use Rattle.lorenz96.proofs.jacobian_vector_product.Given as goal

abbrev pub invariant-loop-pair : goal.invariant-loop-pair
invariant-loop-pair l =
    record {
      long : length l.out ≡ 16;
      written : Written (cell_tangent l.cells (ring l.cells l.x) (ring l.cells l.t)) (2 * l.pair) l.out;
      state : At l.cells l.x (2 * l.pair) l.s l.s_after;
      direction : At l.cells l.t (2 * l.pair) l.u l.u_after;
    }
