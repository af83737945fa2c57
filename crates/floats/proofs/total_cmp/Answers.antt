-- floats::total_cmp
use Rattle.floats.proofs.Rank.{rank_clear, rank_set}
use Rattle.floats.proofs.total_cmp.Goals as goal

pub returns-then-b-lt-SIGN_BIT : goal.returns-then-b-lt-SIGN_BIT
returns-then-b-lt-SIGN_BIT c = rank_clear c.args.x c.to_bits-b.result c.to_bits-b.ensures c.if-b-lt-SIGN_BIT.true

pub returns-else-b-lt-SIGN_BIT : goal.returns-else-b-lt-SIGN_BIT
returns-else-b-lt-SIGN_BIT c = rank_set c.args.x c.to_bits-b.result c.to_bits-b.ensures c.if-b-lt-SIGN_BIT.false
