-- dispatch::front::turn_in
use Rattle.std.proofs.Common.{arith, ap, ◌∙◌, length}
use Rattle.totals.specs.Progress.{carried}
use Rattle.store.proofs.Laid.{few_entries}
use Rattle.dispatch.proofs.Turns.{makes_window, leaves, puts_back, on_returns, ends, refused_returns, last_returns}
use Rattle.dispatch.proofs.front.turn_in.Goals as goal

pub overflow_mul-count : goal.overflow_mul-count
overflow_mul-count c =
    let p = c.requires.passed in
    omega (arith, few_entries c.args.settings.config.top_k (length c.args.state.now) p.count (omega (arith, p.state, p.dimension_within)))

pub make_window-made-requires : goal.make_window-made-requires
make_window-made-requires c =
    makes_window c.requires c.progress_at-progress.ensures

pub leave-requires : goal.leave-requires
leave-requires c =
    let y = c.requires.passed.state in
    leaves c.requires c.progress_at-progress.ensures c.make_window-made.ensures (c.make_window-made.auto.state ∙ y) c.told-floats _ y

pub returns-in-Err : goal.returns-in-Err
returns-in-Err c =
    let y = c.requires.passed.state in
    refused_returns c.requires c.progress_at-progress.ensures c.make_window-made.ensures (c.make_window-made.auto.state ∙ y) c.told-floats _ y c.leave.ensures (ap (carried c.make_window-made.new.progress) c.in-Err.is)

pub put_back-requires : goal.put_back-requires
put_back-requires c =
    puts_back c.requires c.progress_at-progress.ensures c.make_window-made.ensures (c.make_window-made.auto.state ∙ c.requires.passed.state) c.told-floats (ap (carried c.make_window-made.new.progress) c.in_default.is)

pub returns-then-progress-config : goal.returns-then-progress-config
returns-then-progress-config c =
    let R = c.requires in
    let L = c.progress_at-progress.ensures in
    let W = c.make_window-made.ensures in
    on_returns R L W (c.make_window-made.auto.state ∙ R.passed.state) c.told-floats (ap (carried c.make_window-made.new.progress) c.in_default.is) c.put_back.ensures c.if-progress-config.true

pub leave-requires-2 : goal.leave-requires-2
leave-requires-2 c =
    let y = c.requires.passed.state in
    leaves c.requires c.progress_at-progress.ensures c.make_window-made.ensures (c.make_window-made.auto.state ∙ y) c.told-floats _ y

pub end-estimate-requires : goal.end-estimate-requires
end-estimate-requires c =
    ends c.requires c.progress_at-progress.ensures c.make_window-made.ensures (c.make_window-made.auto.state ∙ c.requires.passed.state) c.told-floats (ap (carried c.make_window-made.new.progress) c.in_default.is)

pub returns : goal.returns
returns c =
    let y = c.requires.passed.state in
    last_returns c.requires c.progress_at-progress.ensures c.make_window-made.ensures (c.make_window-made.auto.state ∙ y) c.told-floats _ y c.leave-2.ensures (ap (carried c.make_window-made.new.progress) c.in_default.is) c.if-progress-config.false c.end-estimate.ensures
