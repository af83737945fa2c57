-- Document 01, "Logarithm": of a positive normal binary64 value, operation by operation. Definitions only.
use Rattle.std.specs.Prelude.{Bool, true, false, ◌&&◌, ◌≡◌, ℕ, ◌+◌, ◌*◌, ◌/◌, ◌%◌, ◌^◌, ◌≤◌, ◌<◌, ℤ, pos, ◌-ℤ◌, Float}
use Rattle.std.specs.Float.{inf, binary64}
use Rattle.std.specs.Float.Ieee.{up, down, to_bits, of_int, le, lt}
use Rattle.std.specs.Float.Ieee.Positive.{num, den}
use Rattle.error.specs.Refusal.{Answer, value, refused, refuse}
use Rattle.floats.specs.Arithmetic.{◌⊕◌, ◌⊖◌, ◌⊗◌, ◌⊘◌, bits, least_normal}

-- positive, normal and finite
abbrev pub normal : Float → Bool
normal z = le least_normal z && lt z (inf false)

-- ---- z = m * 2 ^ k, with the high 32 bits of m from 3fe6a09e up to below 3ff6a09e

pub record Split (z m : Float) (k : ℤ) : Type 0 where
  pub least : 0x3fe6a09e ≤ to_bits binary64 m / 2 ^ 32
  pub most : to_bits binary64 m / 2 ^ 32 < 0x3ff6a09e
  pub whole : num z * den m * down k ≡ num m * up k * den z

-- the bits of z and an offset, so that the field of the exponent grows by 1 where the range of m ends: 95f62 is 3ff00000 - 3fe6a09e
abbrev pub offset_bits : Float → ℕ
offset_bits z = to_bits binary64 z + 0x95f62 * 2 ^ 32

-- the m and the k of z
unfoldable pub significand : Float → Float
significand z = bits (offset_bits z % 2 ^ 52 + 0x3fe6a09e * 2 ^ 32)

unfoldable pub power : Float → ℤ
power z = pos (offset_bits z / 2 ^ 52) -ℤ pos 1023

-- ---- the operations, in their order

unfoldable pub series : Float → Float → Float
series m k =
    let f = m ⊖ bits 0x3ff0000000000000 in
    let q = bits 0x3fe0000000000000 ⊗ f ⊗ f in
    let s = f ⊘ (bits 0x4000000000000000 ⊕ f) in
    let z2 = s ⊗ s in
    let w = z2 ⊗ z2 in
    let t1 = w ⊗ (bits 0x3fd999999997fa04 ⊕ w ⊗ (bits 0x3fcc71c51d8e78af ⊕ w ⊗ bits 0x3fc39a09d078c69f)) in
    let t2 = z2 ⊗ (bits 0x3fe5555555555593 ⊕ w ⊗ (bits 0x3fd2492494229359 ⊕ w ⊗ (bits 0x3fc7466496cb03de ⊕ w ⊗ bits 0x3fc2f112df3e5244))) in
    let R = t2 ⊕ t1 in
    s ⊗ (q ⊕ R) ⊕ k ⊗ bits 0x3dea39ef35793c76 ⊖ q ⊕ f ⊕ k ⊗ bits 0x3fe62e42fee00000

unfoldable pub log : Float → Float
unfolding significand power series
log z = series (significand z) (of_int binary64 (power z))

-- 24 for anything that is not positive, normal and finite
abbrev pub given : Bool → Float → Answer Float
given true y = value y
given false y = refused (refuse 24 0)

abbrev pub logarithm : Float → Answer Float
logarithm z = given (normal z) (log z)
