-- ln::normal_ln
use mathlib.Core.Path.{sym, ap, ◌∙◌, subst}
use Prim.Native.Nat.{◌+◌, ◌*◌, ◌/◌, ◌%◌, ◌^◌, ◌<◌}
use native.Mathlib.Omega.{arith}
use lib.Dec.{T}
use lib.IntN.{ℤ}
use lib.Ieee.{binary64, fits, to_bits, of_int}
use Rattle.floats.proofs.Ordinary.{ordinary_pattern}
use Rattle.ln.specs.Logarithm.{log, series, significand}
use Rattle.floats.proofs.Pattern.{no_nan_under}
use Rattle.ln.proofs.Normal.{normal_ordinary, exponent_back}
use borrow.Author.Rules.{rules}
use Rattle.ln.proofs.normal_ln.Goals as goal
use Rattle.ln.proofs.normal_ln.Goals.{Start}

held : (c : Start) → T (fits binary64 c.args.z)
held c = subst T (sym c.well_formed.0.1) tt

pattern_lt : (c : Start) → to_bits binary64 c.args.z < 0x7ff0_0000_0000_0000
pattern_lt c = (ordinary_pattern (held c) (normal_ordinary c.args.z c.requires)).1

field_lt : (c : Start) → (to_bits binary64 c.args.z + 0x95f62 * 2 ^ 32) / 2 ^ 52 < 2048
field_lt c = let h = pattern_lt c in omega arith

pub overflow_add-b : goal.overflow_add-b
overflow_add-b c = let h = pattern_lt (goal.at.overflow_add-b c).Start in omega arith

pub float_from_bits-m : goal.float_from_bits-m
float_from_bits-m c = no_nan_under ((to_bits binary64 c.args.z + 0x95f62 * 2 ^ 32) % 2 ^ 52 + 0x3fe6a09e * 2 ^ 32) (omega arith)

pub overflow_cast-k : goal.overflow_cast-k
overflow_cast-k c = let h = field_lt (goal.at.overflow_cast-k c).Start in search rules

pub overflow_sub-k : goal.overflow_sub-k
overflow_sub-k c = let h = field_lt (goal.at.overflow_sub-k c).Start in search rules

pub returns : goal.returns
unfolding log
returns c =
    let z = c.args.z in
    c.series.ensures ∙ ap (λ (k : ℤ). series (significand z) (of_int binary64 k)) (exponent_back ((to_bits binary64 z + 0x95f62 * 2 ^ 32) / 2 ^ 52) (field_lt (goal.at.returns c).Start))
