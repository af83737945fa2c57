-- splitmix64::unit
use Rattle.std.proofs.Common.{◌/◌, ◌^◌, ◌<◌, pos, ◌-ℤ◌, arith}
use Rattle.splitmix64.specs.Mix.{unit}
use Rattle.splitmix64.proofs.Exact.{divided, offset_small, offset_back}
use Rattle.splitmix64.proofs.unit.Goals as goal

pub returns : goal.returns
unfolding unit
returns c =
    let n = c.args.output / 2 ^ 11 in
    let h : n < 2 ^ 53 = omega arith in
    rw (offset_back n h) (divided (pos n -ℤ pos (2 ^ 52)) (offset_small n h))
