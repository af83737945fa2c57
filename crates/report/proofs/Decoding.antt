-- Floats from bytes: a number of eight bytes, the float of a pattern, and all of them.
use mathlib.Core.Path.{◌≡◌, refl, sym, ◌∙◌}
use mathlib.Core.Bool.{true, false≢true}
use mathlib.Core.List.{List, ◌∷◌, map}
use Prim.Native.Nat.{ℕ, zero, suc, ◌%◌, ◌^◌, ◌<◌}
use native.Mathlib.Omega.{arith}
use lib.ListN.{take, drop}
use lib.Ieee.{Float, nan, inf, fin, binary64, of_bits, div, is_nan}
use lib.Ieee.Bits.{nan_bits_is, nan_bits_above}
use borrow.Author.Tests.{lt-ltb}
use Rattle.std.specs.Int.{from_le_bytes, w64}
use Rattle.std.specs.Simd.{first_chunks}
use Rattle.floats.proofs.Zero.{zero_by_zero}
use Rattle.report.specs.Bytes.{little_endian, decoded}

-- ---- a number of eight bytes
eight_bytes : (bs : List ℕ) → from_le_bytes w64 (take 8 bs) ≡ little_endian (take 8 bs)
unfolding little_endian
eight_bytes (a ∷ b ∷ c ∷ d ∷ e ∷ f ∷ g ∷ h ∷ bs) = omega arith
eight_bytes bs = omega arith

-- ---- the float of a pattern
only_nan : (x : Float) → is_nan x ≡ true → x ≡ nan
unfolding is_nan
only_nan nan h = refl
only_nan (inf s) h = absurd (false≢true h)
only_nan (fin s m e) h = absurd (false≢true h)

pub nan_pattern : (u : ℕ) → 0x7ff0_0000_0000_0000 < u % 2 ^ 63 → div binary64 (of_bits binary64 0) (of_bits binary64 0) ≡ of_bits binary64 u
nan_pattern u h = zero_by_zero ∙ sym (only_nan (of_bits binary64 u) (sym (nan_bits_is binary64 u) ∙ nan_bits_above binary64 u ∙ lt-ltb 0x7ff0_0000_0000_0000 (u % 2 ^ 63) h))

-- ---- all floats
-- the float of eight bytes
abbrev pub float_of : List ℕ → Float
float_of bs = of_bits binary64 (from_le_bytes w64 bs)

pub decoded_is : (n : ℕ) (bs : List ℕ) → map float_of (first_chunks 8 n bs) ≡ decoded n bs
unfolding decoded
decoded_is zero bs = refl
decoded_is (suc n) bs = let h = decoded_is n (drop 8 bs) in let e = eight_bytes bs in cc
