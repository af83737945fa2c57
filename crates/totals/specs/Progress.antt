-- A run under way as the code holds it, and the state of the definition that it stands for. A reader may skip it. Definitions only.
use Rattle.std.specs.Prelude.{ℕ, ◌+◌, List, take, drop, replicate, Float, Result, Ok, Err}
use Rattle.error.specs.Refusal.{refusal}
use Rattle.error.specs.declared.LyapunovError.{LyapunovError}
use Rattle.floats.specs.Arithmetic.{zero⁺}
use Rattle.floats.specs.Vector.{chunks}
use Rattle.gram_schmidt.specs.GramSchmidt.{euclidean}
use Rattle.benettin.specs.Run.{Motion, Norms, Totals, RunState, Status, ok, refused, faint_or_not}
use Rattle.benettin.specs.declared.RefusedRun.{RefusedRun}
use Rattle.totals.specs.declared.Progress.{Progress}

-- ---- what is held

-- what the slices of a run and its progress hold
pub record Held : Type 0 where
  pub state : List Float
  pub tangents : List Float
  pub norms : List Float
  pub progress : Progress

abbrev pub held : List Float → List Float → List Float → Progress → Held
held x t norms p = record { state = x; tangents = t; norms = norms; progress = p }

-- k directions of d entries, one after the other in t
abbrev pub motion : ℕ → ℕ → List Float → List Float → Float → ℕ → Motion
motion d k x t time steps = record { state = x; directions = chunks d k t; time = time; steps = steps }

-- the logarithms, then the squared lengths
abbrev pub norms_of : ℕ → List Float → Norms
norms_of k norms = record { logs = take k norms; reports = take k (drop k norms) }

abbrev pub totals : ℕ → Progress → Totals
totals k p = record { finished = p.windows; sums = take k p.sums; faint = take k p.faint }

abbrev pub joined : Motion → Norms → Totals → RunState
joined m n t = record { motion = m; norms = n; totals = t }

abbrev pub run_state : ℕ → ℕ → Held → RunState
run_state d k H = let p = H.progress in joined (motion d k H.state H.tangents p.time p.steps) (norms_of k H.norms) (totals k p)

-- how a run goes on that is refused so
abbrev pub refused_as : RefusedRun → Status
refused_as r = let e = refusal r.error in refused (record { number = e.number; place = e.place; finished = r.windows; steps = r.steps })

-- how a run goes on, by what the code answers of its progress
abbrev pub status : ℕ → ℕ → List Float → List Float → List Float → Result Progress RefusedRun → Status
status d k x t norms (Ok p) = ok (run_state d k (held x t norms p))
status d k x t norms (Err r) = refused_as r

-- the same where the code leaves its progress in place: p, unless the run is refused
abbrev pub carried : Progress → Result Unit RefusedRun → Result Progress RefusedRun
carried p (Ok u) = Ok p
carried p (Err r) = Err r

-- ---- what is done to it

-- nothing done yet
abbrev pub fresh : Float → Progress
fresh time = record { windows = 0; steps = 0; time = time; faint = replicate 16 0; sums = replicate 16 zero⁺ }

-- p after so many steps more, at another time
abbrev pub after_steps : Progress → Float → ℕ → Progress
after_steps p time made = record p { steps = p.steps + made; time = time }

abbrev pub with_faint : Progress → List ℕ → Progress
with_faint p f = record p { faint = f }

-- p with one measured window more
abbrev pub with_sums : Progress → List Float → Progress
with_sums p s = record p { windows = p.windows + 1; sums = s }

-- a count, with one more if the squared length is faint
abbrev pub counted : ℕ → Float → ℕ
counted = faint_or_not euclidean

abbrev pub refused_run : LyapunovError → ℕ → ℕ → RefusedRun
refused_run e finished steps = record { error = e; windows = finished; steps = steps }
