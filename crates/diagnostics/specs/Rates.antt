-- The answers to a list of exponents: a value, or a refusal. Definitions only.
use Rattle.std.specs.Prelude.{cond, List, ltb, eqb, length, Float}
use Rattle.std.proofs.Math.Option.{Option, none, some, map}
use Rattle.error.specs.declared.Refusal.{Refusal}
use Rattle.error.specs.Refusal.{Answer, value, refused, refuse}
use Rattle.floats.specs.Finite.{first_not_finite}
use Rattle.diagnostics.specs.Dimension.{kaplan_yorke}
use Rattle.diagnostics.specs.Entropy.{kolmogorov_sinai}

-- 20 none, 21 over 256, 22 not finite with the first index
unfoldable pub refused_for : List Float → Option Refusal
unfolding first_not_finite
refused_for xs =
    cond (eqb (length xs) 0) (some (refuse 20 0))
    (cond (ltb 256 (length xs)) (some (refuse 21 0))
    (map (refuse 22) (first_not_finite xs)))

-- the value, unless something is refused
abbrev pub unless : Option Refusal → Float → Answer Float
unless none x = value x
unless (some r) x = refused r

unfoldable pub dimension : List Float → Answer Float
unfolding refused_for kaplan_yorke
dimension xs = unless (refused_for xs) (kaplan_yorke xs)

unfoldable pub entropy : List Float → Answer Float
unfolding refused_for kolmogorov_sinai
entropy xs = unless (refused_for xs) (kolmogorov_sinai xs)
