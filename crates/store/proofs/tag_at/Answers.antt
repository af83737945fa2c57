-- store::tag_at
use Rattle.std.proofs.Common.{arith, ◌≡◌, ◌+◌, ◌-◌, ◌*◌, ◌∙◌}
use Rattle.store.specs.Slots.{tag_at}
use Rattle.store.proofs.tag_at.Goals as goal

pub returns : goal.returns
unfolding tag_at
returns c =
    let z : 19 * c.args.slot + 3 + 16 - (19 * c.args.slot + 3) ≡ 16 = omega arith in
    c.sound_tag.ensures ∙ rw z
