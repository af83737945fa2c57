-- Document 01, "Window": where the squared length is not below 2 ^ -960, squares that sank cost under 2 ^ -110 of it. Over whole numbers; proofs/Underflow.antt shows it.
use Rattle.std.specs.Prelude.{ℕ, ◌+◌, ◌-◌, ◌*◌, ◌/◌, ◌^◌, ◌≤◌, ◌<◌, ◌≡◌, refl, Bool, true, false, cond, List, [], ◌∷◌, T, ltb, ℤ, negsuc, length, Float}
use Rattle.std.specs.Float.{nan, inf, fin, binary64}
use Rattle.std.specs.Float.Ieee.{up, down, fits, add, mul, round}
use Rattle.std.specs.Float.Ieee.Scale.{finite}
use Rattle.floats.specs.Arithmetic.{◌⊗◌, faint_limit}
use Rattle.floats.specs.Vector.{dot_from}
use Rattle.gram_schmidt.specs.GramSchmidt.{euclidean}

-- the magnitude of a finite value in units of the smallest one, 2 ^ -1074, as a whole number
abbrev pub in_units : Float → ℕ
in_units nan = 0
in_units (inf s) = 0
in_units (fin s m e) = m * up e * 2 ^ 1074 / down e

-- for a value of the format the division is exact
abbrev pub UnitsExact : Type 0
UnitsExact = (s : Bool) (m : ℕ) (e : ℤ) → let x = fin s m e in T (fits binary64 x) → m * up e * 2 ^ 1074 ≡ in_units x * down e

-- ---- squares, in units of 2 ^ -2148
abbrev pub exact_square : Float → ℕ
exact_square x = in_units x * in_units x

abbrev pub rounded_square : Float → ℕ
rounded_square x = in_units (x ⊗ x) * 2 ^ 1074

abbrev pub distance : ℕ → ℕ → ℕ
distance a b = (a - b) + (b - a)

-- What rounding costs a square that sank: one below 2 ^ -1022, the least normal value. A NaN or an infinity counts as no loss, and the bound excludes both, since a sum with one is not finite.
unfoldable pub lost : Float → ℕ
lost x = cond (ltb (exact_square x) (2 ^ 1126)) (distance (rounded_square x) (exact_square x)) 0

unfoldable pub lost_squares : List Float → ℕ
lost_squares [] = 0
lost_squares (x ∷ v) = lost x + lost_squares v

-- of the squared length that the orthonormaliser reports by euclidean lengths, for a direction of any system
abbrev pub UnderflowBound : Type 0
UnderflowBound =
    (v : List Float) → length v ≤ 16 → let q = euclidean.report v in finite q ≡ true → euclidean.faint q ≡ false → 2 ^ 110 * lost_squares v < in_units q * 2 ^ 1074

-- ---- an example: (2 ^ -480, -2 ^ -538, 5 * 2 ^ -539), of squared length 2 ^ -960
-- The second square, 1/4 unit, is rounded to 0, and the third, 25/16 units, to 2: together they lose 11/16 of a unit.
abbrev direction : List Float
direction = fin false 1 (negsuc 479) ∷ fin true 1 (negsuc 537) ∷ fin false 5 (negsuc 538) ∷ []

pub example : (euclidean.report direction ≡ faint_limit) × (lost_squares direction ≡ 11 * 2 ^ 1070)
unfolding dot_from lost lost_squares add mul round
example = (refl, refl)
