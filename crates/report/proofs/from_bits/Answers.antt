-- report::from_bits
use Rattle.floats.proofs.Pattern.{no_nan_pattern}
use Rattle.report.proofs.Decoding.{nan_pattern}
use Rattle.report.proofs.from_bits.Goals as goal

pub float_from_bits-result : goal.float_from_bits-result
float_from_bits-result c = no_nan_pattern c.args.pattern c.if-pattern-gt-INFINITY_BITS.false

pub returns-then-pattern-gt-INFINITY_BITS : goal.returns-then-pattern-gt-INFINITY_BITS
returns-then-pattern-gt-INFINITY_BITS c = nan_pattern c.args.pattern c.if-pattern-gt-INFINITY_BITS.true
