-- splitmix64::mix
use Rattle.std.proofs.Common.{ℕ, ◌*◌, ◌%◌, ◌^◌, ap, ◌∙◌}
use Rattle.splitmix64.specs.Mix.{xor_shifted, mix}
use Rattle.splitmix64.proofs.mix.Goals as goal

pub returns : goal.returns
unfolding mix xor_shifted
returns c =
    let m = c.wrapping_mul-a in
    ap (xor_shifted 31) (c.wrapping_mul-b.ensures ∙ ap (λ (a : ℕ). xor_shifted 27 a * 0x94d049bb133111eb % 2 ^ 64) m.ensures)
