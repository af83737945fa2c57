-- Document 02, d): dot products and squared lengths start at -0.0 where they started at +0.0. What that decides, of the definitions that the contracts cite. Proved in proofs/Basis.antt and proofs/Runs.antt.
use Rattle.std.specs.Prelude.{ℕ, zero, suc, ◌≡◌, refl, true, false, List, [], ◌∷◌, map, Float}
use Rattle.std.specs.Float.{nan, inf, fin}
use Rattle.std.specs.Float.Ieee.{neg, of_int, round}
use Rattle.floats.specs.Arithmetic.{whole, minus, zero⁺, zero⁻}
use Rattle.gram_schmidt.specs.Orthonormalise.{Lengths, Basis, orthonormalise}
use Rattle.gram_schmidt.specs.GramSchmidt.{euclidean_from, euclidean}
use Rattle.benettin.specs.Run.{Dynamics, Problem, run}
use Rattle.benettin.specs.declared.OutputLengths.{OutputLengths}
use Rattle.benettin.specs.Estimate.{Input, problem, estimate}

-- a float without the sign of its zero
abbrev pub plain : Float → Float
plain nan = nan
plain (inf s) = inf s
plain (fin s zero e) = fin false zero e
plain (fin s (suc m) e) = fin s (suc m) e

-- -0.0, -3, +0.0, 5 and -infinity
pub example : map plain (zero⁻ ∷ minus 3 ∷ zero⁺ ∷ whole 5 ∷ inf true ∷ []) ≡ zero⁺ ∷ minus 3 ∷ zero⁺ ∷ whole 5 ∷ inf true ∷ []
unfolding neg of_int round
example = refl

-- directions without the signs of their zeros, with the numbers beside them
abbrev pub plain_basis : Basis → Basis
plain_basis b = record { directions = map (map plain) b.directions; logs = b.logs; reports = b.reports; collapse = b.collapse }

-- of any directions: what differs by the other start is the sign of a zero
abbrev pub OnlySigns : Type 0
OnlySigns = (vs : List (List Float)) → plain_basis (orthonormalise euclidean [] vs) ≡ plain_basis (orthonormalise (euclidean_from zero⁺) [] vs)

-- a problem, with lengths taken otherwise
abbrev pub with_lengths : Lengths → Dynamics → Dynamics
with_lengths L M = record { dim = M.dim; advance = M.advance; lengths = L; step_size = M.step_size; duration = M.duration }

abbrev pub measured_by : Lengths → Problem → Problem
measured_by L P =
    record {
      dynamics = with_lengths L P.dynamics;
      warm_up_steps = P.warm_up_steps;
      steps = P.steps;
      warm_up_windows = P.warm_up_windows;
      windows = P.windows;
      start = P.start;
      time = P.time;
      generator = P.generator;
      seed = P.seed;
      tests = P.tests;
    }

-- of any run, refused and collapsed ones too: nothing differs
abbrev pub SameRuns : Type 0
SameRuns = (i : Input) (K : ℕ) (o : OutputLengths) → estimate i K o ≡ run (measured_by (euclidean_from zero⁺) (problem i)) K o
