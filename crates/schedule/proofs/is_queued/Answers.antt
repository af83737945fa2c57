-- schedule::is_queued
use Rattle.std.proofs.Common.{◌∙◌}
use Rattle.schedule.proofs.Names.{member_is}
use Rattle.schedule.proofs.is_queued.Goals as goal

pub returns : goal.returns
returns c = c.contains.ensures.value ∙ member_is c.args.name c.args.names.now
