-- The operations of binary64, each rounded to nearest, and constants by name. Definitions only.
use Rattle.std.specs.Prelude.{ℕ, true, false, pos, negsuc, Float}
use Rattle.std.specs.Float.{fin, binary64}
use Rattle.std.specs.Float.Ieee.{add, sub, mul, div, neg, of_int, of_bits}

infixl 70 ◌⊕◌ ◌⊖◌
infixl 75 ◌⊗◌ ◌⊘◌
abbrev pub ◌⊕◌ : Float → Float → Float
x ⊕ y = add binary64 x y

abbrev pub ◌⊖◌ : Float → Float → Float
x ⊖ y = sub binary64 x y

abbrev pub ◌⊗◌ : Float → Float → Float
x ⊗ y = mul binary64 x y

abbrev pub ◌⊘◌ : Float → Float → Float
x ⊘ y = div binary64 x y

-- the value of a bit pattern
abbrev pub bits : ℕ → Float
bits = of_bits binary64

-- a whole number as a float, rounded, and its negative
abbrev pub whole : ℕ → Float
whole n = of_int binary64 (pos n)

abbrev pub minus : ℕ → Float
minus n = neg (whole n)

-- +0.0 and -0.0
abbrev pub zero⁺ : Float
zero⁺ = fin false 0 (pos 0)

abbrev pub zero⁻ : Float
zero⁻ = fin true 0 (pos 0)

abbrev pub one : Float
one = fin false 1 (pos 0)

abbrev pub two : Float
two = fin false 1 (pos 1)

abbrev pub minus_two : Float
minus_two = fin true 1 (pos 1)

abbrev pub six : Float
six = fin false 3 (pos 1)

abbrev pub half : Float
half = fin false 1 (negsuc 0)

-- 2 ^ -1022, the least positive normal value
abbrev pub least_normal : Float
least_normal = fin false 1 (negsuc 1021)

-- 2 ^ -960
abbrev pub faint_limit : Float
faint_limit = fin false 1 (negsuc 959)
