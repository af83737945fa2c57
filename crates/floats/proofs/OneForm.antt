-- One value of the format has one form: two values with the sign clear that are the same number are the same.
use mathlib.Core.Path.{◌≡◌, sym, ap, ◌∙◌}
use mathlib.Core.Bool.{true, false}
use Prim.Native.Nat.{ℕ, ◌*◌, ◌/◌, ◌<◌}
use native.Mathlib.Nat.{mul_right_comm}
use lib.Dec.{T, lt→ltb}
use lib.Ieee.{Float, nan, inf, fin, binary64, up, down, fits, lt, of_bits}
use lib.Ieee.Fits.{down_pos}
use lib.Ieee.Bits.{of_bits-to_bits}
use lib.Ieee.Nearest.{div_same}
use lib.Ieee.Positive.{num, den}
use Rattle.floats.specs.Magnitude.{sign_clear}
use Rattle.floats.proofs.Units.{U}
use Rattle.floats.proofs.Pattern.{units_pattern, pattern_of}

pub same_value : (r q : Float) → T (fits binary64 r) → T (fits binary64 q) → T (sign_clear r) → T (sign_clear q) → num r * den q ≡ num q * den r → r ≡ q
same_value nan q f g p t e = absurd p
same_value (inf s) q f g p t e = absurd p
same_value (fin true m d) q f g p t e = absurd p
same_value (fin false m d) nan f g p t e = absurd t
same_value (fin false m d) (inf s) f g p t e = absurd t
same_value (fin false m d) (fin true n c) f g p t e = absurd t
same_value (fin false m d) (fin false n c) f g p t e =
    let k : m * up d * U / down d ≡ n * up c * U / down c =
    div_same (m * up d * U) (down d) (n * up c * U) (down c) (down_pos d) (down_pos c)
    (mul_right_comm (m * up d) U (down c) ∙ ap (λ (z : ℕ). z * U) e ∙ mul_right_comm (n * up c) (down d) U) in
    sym (of_bits-to_bits binary64 (fin false m d) f) ∙ ap (of_bits binary64) (pattern_of m d ∙ ap units_pattern k ∙ sym (pattern_of n c)) ∙ of_bits-to_bits binary64 (fin false n c) g

-- ---- the order of two such values
pub lt_of : (r q : Float) → T (sign_clear r) → T (sign_clear q) → num r * den q < num q * den r → T (lt r q)
unfolding lt
lt_of nan q p t h = absurd p
lt_of (inf s) q p t h = absurd p
lt_of (fin true m d) q p t h = absurd p
lt_of (fin false m d) nan p t h = absurd t
lt_of (fin false m d) (inf s) p t h = absurd t
lt_of (fin false m d) (fin true n c) p t h = absurd t
lt_of (fin false m d) (fin false n c) p t h = lt→ltb (m * up d * down c) (n * up c * down d) h
