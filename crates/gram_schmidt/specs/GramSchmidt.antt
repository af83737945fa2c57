-- Document 01, "Orthonormalise", called alone: its tests 7 and 13, then 14, and what the two slices hold afterwards. Definitions only.
use Rattle.std.specs.Prelude as code
use Rattle.std.specs.Prelude.{ℕ, ◌*◌, ◌/◌, cond, List, [], map, eqb, ltb, length, Float, Result, Some, None}
use Rattle.std.proofs.Math.Option.{Option, none, some}
use Rattle.std.proofs.lemmas.List.Edits.{sets}
use Rattle.std.specs.Float.Ieee.{lt}
use Rattle.error.specs.Refusal.{refuse, reported}
use Rattle.error.specs.declared.Refusal.{Refusal}
use Rattle.error.specs.declared.LyapunovError.{LyapunovError}
use Rattle.floats.specs.Arithmetic.{◌⊘◌, zero⁻, faint_limit}
use Rattle.floats.specs.Vector.{dot_from, part, chunks, concat}
use Rattle.sqrt.specs.SquareRoot.{root}
use Rattle.ln.specs.Logarithm.{log}
use Rattle.gram_schmidt.specs.Orthonormalise.{Lengths, Basis, orthonormalise, orthogonalise_twice, collapsed}

-- ---- lengths

-- the sum of the squares, from z
abbrev pub squared_length : Float → List Float → Float
squared_length z w = dot_from z w w

-- Lengths by the root of the squared length, with every sum from z. A direction is faint where its squared length is below 2 ^ -960.
abbrev pub euclidean_from : Float → Lengths
euclidean_from z =
    record {
      start = z;
      norm = λ w. root (squared_length z w);
      report = squared_length z;
      log = log;
      faint = λ q. lt q faint_limit;
    }

-- the zero that the code's sums start from: document 02, d)
abbrev pub sum_start : Float
sum_start = zero⁻

-- what the code has
abbrev pub euclidean : Lengths
euclidean = euclidean_from sum_start

-- ---- one direction

-- direction v of a slice, cleared twice of those before it
abbrev pub cleared : Lengths → ℕ → ℕ → List Float → List Float
cleared L d v xs = orthogonalise_twice L.start (chunks d v xs) (part (v * d) d xs)

-- its logarithm and its report, unless it collapsed
abbrev pub normalised : Lengths → List Float → code.Option (Float × Float)
normalised L w = cond (collapsed (L.norm w)) None (Some (L.log (L.norm w), L.report w))

-- its entries divided by its norm, unless it collapsed
abbrev pub divided : Lengths → List Float → List Float
divided L w = cond (collapsed (L.norm w)) w (map (λ x. x ⊘ L.norm w) w)

-- ---- all of them

-- the answer, and what the two slices hold
pub record Orthonormalised : Type 0 where
  pub refusal : Option Refusal
  pub tangents : List Float
  pub norms : List Float

abbrev pub holds : Option Refusal → List Float → List Float → Orthonormalised
holds r xs o = record { refusal = r; tangents = xs; norms = o }

abbrev pub collapse_refusal : Option ℕ → Option Refusal
collapse_refusal none = none
collapse_refusal (some v) = some (refuse 14 v)

-- The directions are written from the start, the logarithms from the start of the second slice, and the reports from place n. Leftover entries stay.
unfoldable pub stored : ℕ → List Float → List Float → Basis → Orthonormalised
unfolding concat
stored n xs norms b = holds (collapse_refusal b.collapse) (sets xs 0 (concat b.directions)) (sets (sets norms n b.reports) 0 b.logs)

-- of the slice xs as directions of d entries, with norms for their logarithms and reports
unfoldable pub orthonormalised : Lengths → List Float → ℕ → List Float → Orthonormalised
unfolding stored orthonormalise chunks
orthonormalised L xs d norms =
    let n = length xs / d in
    cond (eqb d 0) (holds (some (refuse 7 0)) xs norms)
    (cond (ltb (length norms) (2 * n)) (holds (some (refuse 13 0)) xs norms)
    (stored n xs norms (orthonormalise L [] (chunks d n xs))))

-- what the code's answer and its slices stand for
abbrev pub observed : Result Unit LyapunovError → List Float → List Float → Orthonormalised
observed r xs o = holds (reported r) xs o
