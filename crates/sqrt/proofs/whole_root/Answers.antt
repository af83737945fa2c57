-- sqrt::whole_root
use mathlib.Core.Path.{◌≡◌, subst}
use Prim.Native.Nat.{ℕ, ◌+◌, ◌-◌, ◌*◌, ◌/◌, ◌^◌, ◌≤◌, ◌<◌}
use native.Mathlib.Nat.{mul-le-mul_left, div-lt_iff_lt-mul}
use native.Mathlib.Omega.{arith}
use Rattle.sqrt.proofs.Newton.{newton_above, sq_pos}
use Rattle.sqrt.proofs.whole_root.Goals as goal

-- the significand, doubled where odd is 1, has 53 or 54 digits
doubled : (a odd : ℕ) → 2 ^ 52 ≤ a → a < 2 ^ 53 → odd ≤ 1 → (2 ^ 52 ≤ a * (1 + odd)) × (a * (1 + odd) < 2 ^ 54)
doubled a odd h k l = let u = mul-le-mul_left {m = 1 + odd} {n = 2} a (omega arith) in let v = mul-le-mul_left {m = 1} {n = 1 + odd} a (omega arith) in (omega arith, omega arith)

-- what Newton's step adds to the guess g
quotient : (n g : ℕ) → n < 2 ^ 54 → 2 ^ 25 ≤ g → n / g < 2 ^ 29
quotient n g h k = (div-lt_iff_lt-mul {k = g} {x = n} {y = 2 ^ 29} (omega arith)).1 (omega arith)

below_square : (n r : ℕ) → n < r * r → n < (r - 1 + 1) * (r - 1 + 1)
below_square n r h =
    let p = sq_pos n r h in
    let e : r ≡ r - 1 + 1 = omega arith in
    subst (λ (z : ℕ). n < z * z) e h

pub loop-r-init : goal.loop-r-init
loop-r-init c =
    let n = c.args.a * (1 + c.args.odd) in
    let g = c.guess-g.result in
    let d = doubled c.args.a c.args.odd c.requires.0 c.requires.1 c.requires.2 in
    (newton_above n g (omega arith), omega (arith, quotient n g d.1 c.guess-g.ensures.0))
