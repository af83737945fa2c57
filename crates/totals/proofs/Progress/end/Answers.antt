-- totals::Progress::end
use Rattle.totals.proofs.Ending.{end_done}
use Rattle.totals.proofs.Progress.end.Goals as goal

pub returns : goal.returns
returns c =
    end_done c.requires _ c.duration.result c.as_float.result c.write_rates.new.row c.copy_from_slice.new.self
    c.duration.ensures c.as_float.ensures c.write_rates.ensures c.copy_from_slice.ensures.after
