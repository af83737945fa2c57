-- report::decode
use mathlib.Core.Path.{ap, ◌∙◌}
use mathlib.Core.List.{map}
use lib.Seq.{take_all}
use Rattle.report.proofs.Decoding.{float_of, decoded_is}
use Rattle.report.proofs.decode.Goals as goal

pub returns : goal.returns
returns c =
    let all = take_all c.loop-pattern.pattern-index _ c.loop-pattern-test.false in
    c.loop-pattern.invariant ∙ ap (map float_of) (all ∙ c.as_chunks.ensures.front) ∙ decoded_is _ c.args.bytes.now
