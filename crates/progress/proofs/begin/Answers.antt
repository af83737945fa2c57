-- progress::begin
use Rattle.std.proofs.Common.{sym}
use Rattle.error.proofs.Tests.{handed_on}
use Rattle.progress.proofs.Draws.{begun_14, begun_15, begun}
use Rattle.progress.proofs.begin.Goals as goal

pub returns-in_err-initialize_basis : goal.returns-in_err-initialize_basis
returns-in_err-initialize_basis c =
    rw (handed_on c.from_residual.result c.from_residual.ensures.1) (begun_14 c.requires _ c.told-norms c.in_err-initialize_basis.ensures)

pub returns-then-is_finite : goal.returns-then-is_finite
returns-then-is_finite c = rw c.new.ensures (begun c.requires _ c.told-norms c.in_ok-initialize_basis.ensures (rw c.duration.ensures at (sym c.if-is_finite.ensures)))

pub returns-else-is_finite : goal.returns-else-is_finite
returns-else-is_finite c = rw c.from.ensures (begun_15 c.requires _ c.told-norms c.in_ok-initialize_basis.ensures (rw c.duration.ensures at (sym c.if-is_finite.ensures)))
