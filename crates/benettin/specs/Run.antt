-- A run of Benettin's method, from the drawn directions to the rates, over any dynamics: how a step advances, how lengths are taken, and what is drawn are parameters. Definitions only.
use Rattle.std.specs.Prelude.{ℕ, zero, suc, ◌+◌, ◌*◌, Bool, true, false, cond, List, [], ◌∷◌, ◌++◌, map, leb, ltb, take, replicate, Float}
use Rattle.std.proofs.Math.Option.{Option, none, some}
use Rattle.std.specs.Float.Ieee.Scale.{finite}
use Rattle.error.specs.Tests.{Test, test, first_failing}
use Rattle.error.specs.declared.Refusal.{Refusal}
use Rattle.floats.specs.Arithmetic.{◌⊕◌, ◌⊗◌, ◌⊘◌, zero⁺, whole}
use Rattle.floats.specs.Finite.{first_not_finite}
use Rattle.floats.specs.Vector.{concat, zip}
use Rattle.gram_schmidt.specs.Orthonormalise.{Lengths, Basis, orthonormalise}
use Rattle.benettin.specs.declared.OutputLengths.{OutputLengths}

-- ---- what a run is handed, apart from K and the outputs

pub record Dynamics : Type 0 where
  pub dim : ℕ
  -- from the number of steps made and the state: the next state, and the one map that takes every direction along
  pub advance : ℕ → List Float → List Float × (List Float → List Float)
  pub lengths : Lengths
  pub step_size : Float
  -- D, the duration of a measured window
  pub duration : Float

-- the next state, and the draw at a state
pub record Generator : Type 0 where
  pub next : ℕ → ℕ
  pub draw : ℕ → Float

pub record Problem : Type 0 where
  pub dynamics : Dynamics
  -- the steps of a warm-up window and of a measured one, and how many windows of each sort
  pub warm_up_steps : ℕ
  pub steps : ℕ
  pub warm_up_windows : ℕ
  pub windows : ℕ
  pub start : List Float
  pub time : Float
  pub generator : Generator
  pub seed : ℕ
  -- the tests 2 to 11, 25 and 29, which depend on neither K nor the outputs
  pub tests : List Test

-- ---- a run under way

-- what the steps move; `steps` counts those that passed every test
pub record Motion : Type 0 where
  pub state : List Float
  pub directions : List (List Float)
  pub time : Float
  pub steps : ℕ

-- what the last orthonormalisation reported of each direction
pub record Norms : Type 0 where
  pub logs : List Float
  pub reports : List Float

-- the measured windows finished, the sums of the logarithms, and the faint counts: document 01's own term for the number of windows in which a direction's squared length was below 2 ^ -960
pub record Totals : Type 0 where
  pub finished : ℕ
  pub sums : List Float
  pub faint : List ℕ

pub record RunState : Type 0 where
  pub motion : Motion
  pub norms : Norms
  pub totals : Totals

abbrev pub with_totals : RunState → Totals → RunState
with_totals c t = record { motion = c.motion; norms = c.norms; totals = t }

pub record RunRefusal : Type 0 where
  pub number : ℕ
  pub place : ℕ
  pub finished : ℕ
  pub steps : ℕ

pub data Status : Type 0 where
  ok : RunState → Status
  refused : RunRefusal → Status

abbrev pub refused_at : ℕ → ℕ → RunState → RunRefusal
refused_at number place c = record { number = number; place = place; finished = c.totals.finished; steps = c.motion.steps }

infixl 20 ◌then◌
unfoldable pub ◌then◌ : Status → (RunState → Status) → Status
ok c then f = f c
refused r then f = refused r

-- ---- a step: the state is tested (16), then the directions (17), then the time (18)

unfoldable pub tested : Option ℕ → Option ℕ → Bool → RunState → RunState → Status
tested (some i) q b c n = refused (refused_at 16 i c)
tested none (some i) b c n = refused (refused_at 17 i c)
tested none none false c n = refused (refused_at 18 0 c)
tested none none true c n = ok n

abbrev pub stepped : RunState → List Float → List (List Float) → Float → RunState
stepped c x vs t = record { motion = record { state = x; directions = vs; time = t; steps = suc c.motion.steps }; norms = c.norms; totals = c.totals }

unfoldable pub step : Dynamics → RunState → Status
unfolding tested first_not_finite concat
step M c =
    let a = M.advance c.motion.steps c.motion.state in
    let x = a.0 in
    let vs = map a.1 c.motion.directions in
    let t = c.motion.time ⊕ M.step_size in
    tested (first_not_finite x) (first_not_finite (concat vs)) (finite t) c (stepped c x vs t)

unfoldable pub steps : Dynamics → ℕ → RunState → Status
unfolding step ◌then◌
steps M zero c = ok c
steps M (suc n) c = step M c then steps M n

-- ---- a window: all its steps, then one orthonormalisation, which may collapse (14)

abbrev pub with_basis : RunState → Basis → RunState
with_basis c b =
    let m = c.motion in
    record { motion = record { state = m.state; directions = b.directions; time = m.time; steps = m.steps }; norms = record { logs = b.logs; reports = b.reports }; totals = c.totals }

unfoldable pub unless_collapsed : Option ℕ → RunState → Basis → Status
unless_collapsed (some i) c b = refused (refused_at 14 i c)
unless_collapsed none c b = ok (with_basis c b)

unfoldable pub reorthonormalise : Dynamics → RunState → Status
unfolding unless_collapsed orthonormalise
reorthonormalise M c = let b = orthonormalise M.lengths [] c.motion.directions in unless_collapsed b.collapse c b

-- one more, if the report is faint
abbrev pub faint_or_not : Lengths → ℕ → Float → ℕ
faint_or_not L n q = cond (L.faint q) (suc n) n

unfoldable pub count_faint : Dynamics → RunState → RunState
unfolding zip
count_faint M c =
    let t = c.totals in
    with_totals c (record { finished = t.finished; sums = t.sums; faint = zip (faint_or_not M.lengths) t.faint c.norms.reports })

-- `window` is document 01's term: n steps between two orthonormalisations
unfoldable pub window : Dynamics → ℕ → RunState → Status
unfolding steps reorthonormalise count_faint ◌then◌
window M n c = steps M n c then reorthonormalise M then (λ e. ok (count_faint M e))

-- `warm_up` is document 01's term: n windows of s steps that report nothing
unfoldable pub warm_up : Dynamics → ℕ → ℕ → RunState → Status
unfolding window ◌then◌
warm_up M s zero c = ok c
warm_up M s (suc n) c = window M s c then warm_up M s n

-- ---- measured windows

pub record Row : Type 0 where
  pub end_time : Float
  pub locals : List Float
  pub runnings : List Float

-- a count as a float
unfoldable pub as_float : ℕ → Float
as_float n = whole n

-- each sum takes the logarithm, and one more window is finished
unfoldable pub accumulate : RunState → RunState
unfolding zip
accumulate c =
    let t = c.totals in
    with_totals c (record { finished = suc t.finished; sums = zip (◌⊕◌) t.sums c.norms.logs; faint = t.faint })

-- `local` and `running` are document 01's terms, of the window alone and of all measured ones so far: logarithm / D, and sum / (D * (w + 1))
unfoldable pub row : Dynamics → RunState → Row
unfolding as_float
row M c =
    record {
      end_time = c.motion.time;
      locals = map (λ x. x ⊘ M.duration) c.norms.logs;
      runnings = map (λ x. x ⊘ (M.duration ⊗ as_float c.totals.finished)) c.totals.sums;
    }

-- the rows of the measured windows that were finished, and how it ended
pub record Course : Type 0 where
  pub rows : List Row
  pub end : Status

unfoldable pub with_row : Dynamics → Status → (RunState → Course) → Course
unfolding row accumulate
with_row M (refused r) f = record { rows = []; end = refused r }
with_row M (ok c) f = let e = accumulate c in let t = f e in record { rows = row M e ∷ t.rows; end = t.end }

-- n measured windows of s steps
unfoldable pub measured : Dynamics → ℕ → ℕ → RunState → Course
unfolding window with_row
measured M s zero c = record { rows = []; end = ok c }
measured M s (suc n) c = with_row M (window M s c) (measured M s n)

-- ---- the draw

unfoldable pub generator_after : (ℕ → ℕ) → ℕ → ℕ → ℕ
generator_after next zero s = s
generator_after next (suc n) s = generator_after next n (next s)

-- n draws from the state s
unfoldable pub draws : Generator → ℕ → ℕ → List Float
draws G zero s = []
draws G (suc n) s = G.draw (G.next s) ∷ draws G n (G.next s)

-- n directions of d draws each: direction 0 is filled first, then direction 1, and on
unfoldable pub drawn_directions : Generator → ℕ → ℕ → ℕ → List (List Float)
unfolding draws generator_after
drawn_directions G d zero s = []
drawn_directions G d (suc n) s = draws G d s ∷ drawn_directions G d n (generator_after G.next d s)

-- the drawn directions with nothing done: K directions of d entries, from the state x, the time and the seed
unfoldable pub initial : Generator → ℕ → List Float → Float → ℕ → ℕ → RunState
unfolding drawn_directions
initial G d x time seed K =
    record {
      motion = record { state = x; directions = drawn_directions G d K seed; time = time; steps = 0 };
      norms = record { logs = []; reports = [] };
      totals = record { finished = 0; sums = replicate K zero⁺; faint = replicate K 0 };
    }

-- ---- the run: the basis is orthonormalised (14), then D is tested (15), then the warm-up and the measured windows run

unfoldable pub check_duration : Dynamics → RunState → Status
check_duration M c = cond (finite M.duration) (ok c) (refused (refused_at 15 0 c))

-- the basis orthonormalised and D tested
unfoldable pub begin : Dynamics → RunState → Status
unfolding reorthonormalise check_duration ◌then◌
begin M c = reorthonormalise M c then check_duration M

-- to the first measured window, over n warm-up windows of s steps
unfoldable pub warmed_up : Dynamics → ℕ → ℕ → RunState → Status
unfolding begin warm_up ◌then◌
warmed_up M s n c = begin M c then warm_up M s n

unfoldable pub measured_from : Dynamics → ℕ → ℕ → Status → Course
unfolding measured
measured_from M s n (ok c) = measured M s n c
measured_from M s n (refused r) = record { rows = []; end = refused r }

-- w warm-up windows of u steps, and n measured ones of s
unfoldable pub course : Dynamics → ℕ → ℕ → ℕ → ℕ → RunState → Course
unfolding warmed_up measured_from
course M u w s n c = measured_from M s n (warmed_up M u w c)

-- for K rates: from where, and the course
abbrev pub start_of : Problem → ℕ → RunState
start_of P K = initial P.generator P.dynamics.dim P.start P.time P.seed K

abbrev pub course_of : Problem → ℕ → Course
course_of P K = course P.dynamics P.warm_up_steps P.warm_up_windows P.steps P.windows (start_of P K)

-- ---- the answer

pub record Spectrum : Type 0 where
  pub exponents : List Float
  pub faint : List ℕ
  pub state : List Float
  pub final_time : Float
  pub measured_time : Float
  pub steps : ℕ

-- a run that ends, and one that is refused, with its faint counts; both with the rows of their finished measured windows
pub data RunAnswer : Type 0 where
  ended : List Row → Spectrum → RunAnswer
  stopped : List Row → RunRefusal → List ℕ → RunAnswer

-- the faint counts of a refused run: sixteen zeros, of which a run for K rates has the first K
abbrev pub no_faint : ℕ → List ℕ
no_faint K = take K (replicate 16 0)

-- of n measured windows and K rates: exponents sum / (D * windows), measured time D * windows
unfoldable pub answer : Dynamics → ℕ → ℕ → List Row → Status → RunAnswer
unfolding as_float
answer M n K rows (ok c) =
    let m = M.duration ⊗ as_float n in
    ended rows (record { exponents = map (λ x. x ⊘ m) c.totals.sums; faint = c.totals.faint; state = c.motion.state; final_time = c.motion.time; measured_time = m; steps = c.motion.steps })
answer M n K rows (refused r) = stopped rows r (no_faint K)

-- the lengths of the three outputs
abbrev pub lengths : ℕ → ℕ → ℕ → OutputLengths
lengths rows exponents state = record { rows = rows; exponents = exponents; state = state }

-- 1: K is not 0
abbrev pub top_k_tests : ℕ → List Test
top_k_tests K = test (ltb 0 K) 1 0 ∷ []

-- 12: K is at most d
abbrev pub count_tests : ℕ → ℕ → List Test
count_tests K d = test (leb K d) 12 0 ∷ []

-- 13: no output is too short, 0 rows of 1 + 2 * K floats, 1 exponents, 2 final state
abbrev pub output_tests : ℕ → ℕ → ℕ → OutputLengths → List Test
output_tests K d windows o = test (leb (windows * (1 + 2 * K)) o.rows) 13 0 ∷ test (leb K o.exponents) 13 1 ∷ test (leb d o.state) 13 2 ∷ []

-- 1 to 12, 25 and 29, which do not depend on the outputs
unfoldable pub input_tests : Problem → ℕ → List Test
input_tests P K = top_k_tests K ++ P.tests ++ count_tests K P.dynamics.dim

-- 1 to 13, in number order, with 29 behind 4 and 25 behind 8
unfoldable pub run_tests : Problem → ℕ → OutputLengths → List Test
unfolding input_tests
run_tests P K o = input_tests P K ++ output_tests K P.dynamics.dim P.windows o

unfoldable pub run_past : Option Refusal → Problem → ℕ → RunAnswer
unfolding initial course answer
run_past (some r) P K = stopped [] (record { number = r.number; place = r.place; finished = 0; steps = 0 }) (no_faint K)
run_past none P K = let t = course_of P K in answer P.dynamics P.windows K t.rows t.end

unfoldable pub run : Problem → ℕ → OutputLengths → RunAnswer
unfolding first_failing run_tests run_past
run P K o = run_past (first_failing (run_tests P K o)) P K
