-- sqrt::pattern_root
use mathlib.Core.Path.{◌≡◌, sym, subst}
use Prim.Native.Nat.{ℕ, ◌-◌, ◌*◌, ◌/◌, ◌%◌, ◌^◌, ◌≤◌, ◌<◌}
use native.Mathlib.Omega.{arith}
use lib.Count.{count_leading_zeros}
use lib.Ieee.{binary64, of_bits}
use lib.Ieee.Bits.{of_bits-fits}
use Rattle.sqrt.specs.SquareRoot.{Scaled}
use Rattle.sqrt.proofs.Answer.{Shifted, shifted, scaled_normal, scaled_subnormal}
use Rattle.sqrt.proofs.pattern_root.Goals as goal

-- at a pattern with the exponent's field 0, t is the pattern
module _ (b : ℕ) (some : 0 < b) (e : b / 2 ^ 52 ≡ 0) where
  t_is : b % 2 ^ 52 ≡ b
  t_is = omega arith

  shifted_t : Shifted (b % 2 ^ 52) (count_leading_zeros 64 (b % 2 ^ 52))
  shifted_t = shifted (b % 2 ^ 52) (omega arith) (omega arith)

pub overflow_sub-z : goal.overflow_sub-z
overflow_sub-z c = let k = shifted_t c.args.b c.requires.0 c.if-e-eq0.true in k.enough

pub scaled_root-requires : goal.scaled_root-requires
scaled_root-requires c =
    let k = shifted_t c.args.b c.requires.0 c.if-e-eq0.true in (
      subst (λ (n : ℕ). 2 ^ 52 ≤ n) (sym k.exact) k.lo,
      subst (λ (n : ℕ). n < 2 ^ 53) (sym k.exact) k.hi,
      omega (arith, k.small),
      omega (arith, k.small),
    )

pub returns-then-e-eq0 : goal.returns-then-e-eq0
returns-then-e-eq0 c =
    let b = c.args.b in
    let t = b % 2 ^ 52 in
    let z = count_leading_zeros 64 t - 11 in
    let some = c.requires.0 in
    let e = c.if-e-eq0.true in
    let k = shifted_t b some e in
    let n = t_is b some e in
    c.scaled_root.ensures (of_bits binary64 b) (of_bits-fits binary64 b)
    (subst (λ (y : ℕ). Scaled y (1022 - z) (of_bits binary64 b)) (sym k.exact) (subst (λ (y : ℕ). Scaled (t * 2 ^ z) (1022 - z) (of_bits binary64 y)) n (scaled_subnormal t z (omega arith) k.small)))

pub returns-else-e-eq0 : goal.returns-else-e-eq0
returns-else-e-eq0 c =
    let b = c.args.b in
    c.scaled_root-else-e-eq0.ensures (of_bits binary64 b) (of_bits-fits binary64 b) (scaled_normal b c.requires.1 c.if-e-eq0.false)
