-- The sign of a float, and what is left without it. Definitions only.
use Rattle.std.specs.Prelude.{Bool, true, false, Float}
use Rattle.std.specs.Float.{nan, inf, fin}

-- |x|
abbrev pub magnitude : Float → Float
magnitude nan = nan
magnitude (inf s) = inf false
magnitude (fin s m e) = fin false m e

-- x is finite and its sign is clear
abbrev pub sign_clear : Float → Bool
sign_clear nan = false
sign_clear (inf s) = false
sign_clear (fin true m e) = false
sign_clear (fin false m e) = true
