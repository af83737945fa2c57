-- schedule::is_sound
use Rattle.std.proofs.Common.{◌∙◌, ne_eqb, arith}
use Rattle.schedule.specs.Schedule.{sound_at}
use Rattle.schedule.proofs.is_sound.Goals as goal

pub returns : goal.returns
unfolding sound_at
returns c =
    let t = ne_eqb c.tag_at.result 0 (λ z. omega (arith, z)) in
    c.is_unfinished.ensures ∙ rw (c.settings_at-set.ensures, c.windows_at.ensures c.args.floats.now, ← c.tag_at.ensures, t)
