-- progress::record::record_window
use Rattle.progress.proofs.Windows.{recorded_is}
use Rattle.progress.proofs.record.record_window.Goals as goal

pub returns : goal.returns
returns c =
    let R = c.requires in
    let u = c.duration-duration in
    let w = c.as_float in
    recorded_is c.told-norms R.few R.bounded.sums _ _ u.result w.result c.add_logs.ensures u.ensures w.ensures c.write_row.ensures
