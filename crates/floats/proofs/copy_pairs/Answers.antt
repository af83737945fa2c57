-- floats::copy_pairs
use Rattle.std.proofs.Common.{◌≡◌, ◌+◌, ◌-◌, ◌*◌, arith}
use Rattle.floats.proofs.Fill.{fill_step}
use Rattle.floats.proofs.copy_pairs.Goals as goal

pub loop-pair-preserved : goal.loop-pair-preserved
loop-pair-preserved g c =
    let l = c.loop-pair in
    let from = c.args.from.now in
    let old = c.args.out.now in
    let one = fill_step from old l.out (2 * l.pair) _ _ l.invariant c.index-from-i.is (omega (arith, c.requires)) (omega (arith, c.requires)) in
    let q : 2 * l.pair + 1 + 1 ≡ 2 * (l.pair + 1) = omega arith in
    rw q at (fill_step from old _ (2 * l.pair + 1) _ _ one c.index-from-i-in-loop-pair.is (omega (arith, c.requires)) (omega (arith, c.requires)))

pub returns-then-n-eq1 : goal.returns-then-n-eq1
returns-then-n-eq1 g c =
    let l = c.loop-pair in
    let n = c.args.n in
    let k : 2 * l.pair ≡ n - 1 = omega arith in
    let q : n - 1 + 1 ≡ n = omega arith in
    rw q at (fill_step c.args.from.now c.args.out.now l.out (n - 1) _ _ (rw k at l.invariant) c.index-from-n.is (omega (arith, c.requires)) (omega (arith, c.requires)))
