-- progress::measured_window
use Rattle.totals.specs.Ending.{most}
use Rattle.progress.proofs.Windows.{measured_done}
use Rattle.progress.proofs.measured_window.Goals as goal

pub record_window-requires : goal.record_window-requires
record_window-requires c =
    let F = c.requires.0 in
    record { few = F.passed.count; steps = F.steps; row = c.requires.1; bounded = c.in_ok-window.ensures.bounded most most F.bounded }

pub returns : goal.returns
returns c = measured_done c.args.row.now c.in_ok-window.ensures c.record_window.ensures
