-- rk4::advance_values
use native.Mathlib.Omega.{arith}
use Rattle.rk4.proofs.Advance.{leaves, matched_leaves, Fitting, linear_fits, columns_held, ring_cells}
use Rattle.rk4.proofs.advance_values.Goals as goal
use Rattle.rk4.proofs.advance_values.Goals.{In-Linear}

-- what fits a linear system
fitting : (c : In-Linear) → let ar = c.args in Fitting c.in-Linear.d ar.matrix.now ar.state.now ar.tangents.now ar.count
fitting c = linear_fits c.in-Linear.is c.args.tangents.now c.requires.0 c.requires.1

-- a ring
pub returns-in-Lorenz96 : goal.returns-in-Lorenz96
returns-in-Lorenz96 c =
    let e = c.in-Lorenz96.is in
    matched_leaves e (c.advance_wide.ensures _ (ring_cells e c.requires.0))

pub returns-then-d-le8 : goal.returns-then-d-le8
returns-then-d-le8 c = matched_leaves c.in-Linear.is c.advance_narrow.ensures

pub returns-else-d-le8 : goal.returns-else-d-le8
returns-else-d-le8 c =
    matched_leaves c.in-Linear.is (c.advance_wide-else-d-le8.ensures _ (columns_held (fitting (goal.at.returns-else-d-le8 c).In-Linear) c.transpose.ensures.1 (omega (arith, (fitting (goal.at.returns-else-d-le8 c).In-Linear).within, c.transpose.ensures.0))))

pub returns-in_default : goal.returns-in_default
returns-in_default c = leaves (c.advance_fixed.ensures _)
