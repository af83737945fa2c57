-- Document 01, "Orthonormalise": a collapse means a squared length of 0 or one that is not finite. proofs/Degenerate.antt proves it.
use Rattle.std.specs.Prelude.{◌≡◌, Bool, not, ◌||◌, List, Float}
use Rattle.std.specs.Float.Ieee.{eq}
use Rattle.std.specs.Float.Ieee.Scale.{finite}
use Rattle.floats.specs.Arithmetic.{zero⁺}
use Rattle.gram_schmidt.specs.Orthonormalise.{collapsed}
use Rattle.gram_schmidt.specs.GramSchmidt.{euclidean}

-- 0, or not finite
abbrev pub degenerate : Float → Bool
degenerate q = not (finite q) || eq q zero⁺

-- of every cleared direction w, by euclidean lengths: what the orthonormaliser tests, of the root, is that of the squared length
abbrev pub CollapseMeaning : Type 0
CollapseMeaning = (w : List Float) → collapsed (euclidean.norm w) ≡ degenerate (euclidean.report w)
