-- There is one closest value: two values that are both `Closest` to the root of x are the same.
use mathlib.Core.Path.{◌≡◌, sym, ap, ◌∙◌}
use mathlib.Core.Bool.{true, false}
use Prim.Native.Nat.{ℕ, zero, suc, ◌*◌, ◌≤◌, ◌<◌}
use native.Mathlib.Nat.{le_antisymm, mul_comm, add_comm, lt_of_not-le}
use native.Mathlib.Omega.{arith}
use native.Mathlib.Decide.{dec_le}
use lib.Ieee.{Float, nan, inf, fin}
use lib.Ieee.Positive.{num, den}
use Rattle.floats.proofs.OneForm.{same_value, lt_of}
use Rattle.sqrt.specs.SquareRoot.{sum_square, four_times, Closest}
use Rattle.sqrt.specs.OneRoot.{RootUnique}

-- ---- not one above the other
clash : (a b c d : ℕ) → a < b → c < d → d ≡ a → c ≡ b → ⊥
clash a b c d h k e f = omega arith

not_under : (x r q : Float) → Closest x r → Closest x q → num r * den q < num q * den r → ⊥
not_under x r q a b h =
    let l = lt_of r q a.finite b.finite h in
    clash (four_times x r q) (sum_square x r q) (sum_square x q r) (four_times x q r) (a.below q b.held b.finite l) (b.above r a.held a.finite l)
    (ap (λ (z : ℕ). 4 * num x * (z * z)) (mul_comm (den q) (den r)))
    (ap (λ (z : ℕ). z * z * den x) (add_comm (num q * den r) (num r * den q)))

pub only_one : (x r q : Float) → Closest x r → Closest x q → r ≡ q
only_one x r q a b =
    same_value r q a.held b.held a.finite b.finite
    (le_antisymm (not_lt (num q * den r) (num r * den q) (not_under x q r b a)) (not_lt (num r * den q) (num q * den r) (not_under x r q a b)))
  where
    not_lt : (a b : ℕ) → (a < b → ⊥) → b ≤ a
    not_lt a b h = elim (dec_le b a) [ yes g ↦ g | no g ↦ absurd (h (lt_of_not-le g)) ]

-- `IsRoot x` says what r is
pub root_unique : RootUnique
root_unique nan r q a b = a ∙ sym b
root_unique (inf true) r q a b = a ∙ sym b
root_unique (inf false) r q a b = a ∙ sym b
root_unique (fin true zero e) r q a b = a ∙ sym b
root_unique (fin false zero e) r q a b = a ∙ sym b
root_unique (fin true (suc m) e) r q a b = a ∙ sym b
root_unique (fin false (suc m) e) r q a b = only_one (fin false (suc m) e) r q a b
