-- What holds of every unfinished run: it passes its tests, has a measured window left, and has room in a slot, which it leaves sound.
use Prim.Native.Nat.{ℕ, suc, ◌+◌, ◌*◌, ◌≤◌, ◌<◌}
use native.Mathlib.Omega.{arith}
use mathlib.Core.Path.{◌≡◌, refl, sym, subst, ◌∙◌}
use mathlib.Core.Bool.{Bool, true, false}
use mathlib.Core.List.{List, []}
use mathlib.Core.Option.{Option, none, some}
use borrow.Author.Tests.{ltb-true}
use lib.Dec.{ltb}
use lib.ListN.{length}
use lib.Ieee.{Float}
use lib.Ieee.Scale.{finite}
use Rattle.error.specs.Tests.{first_failing}
use Rattle.error.specs.declared.Refusal.{Refusal}
use Rattle.error.proofs.Tests.{behind, both_passed}
use Rattle.system.specs.System.{dim}
use Rattle.system.specs.declared.System.{System}
use Rattle.system_validation.specs.Tests.{dimension_tests, time_tests}
use Rattle.system_validation.proofs.Tests.{dimension_passed}
use Rattle.rk4.proofs.Advance.{direction_length}
use Rattle.benettin.specs.Run.{Dynamics, RunState, Status, ok, refused, Course, accumulate, window, with_row, measured}
use Rattle.benettin.specs.Estimate.{Input, limit, setting_tests, set_up_tests, state_tests, dynamics, problem, problem_within}
use Rattle.benettin.specs.Outputs.{sixteen}
use Rattle.benettin.proofs.Either.{Either}
use Rattle.benettin.proofs.LeadingSpectrum.{Keeps}
use Rattle.benettin.proofs.Made.{MadeLogs, Any, begin_made, window_made, accumulate_made, start_made}
use Rattle.benettin.proofs.Reading.{dynamics_keeps}
use Rattle.benettin.proofs.RunTests.{settings_passed, count_passed, set_up, start_passed}
use Rattle.benettin.proofs.Sizes.{Has, HasLogs, Holds, start_has, begin_has, window_has, accumulate_has}
use Rattle.turns.specs.Turn.{hand_in_tests, Job, begun, job, HandedIn, taken, turned_down, taken_at, drawn, handed_in_past, handed_in, Slices, motion, warming, window_by, warmed_by, onward, Turned, under_way, over, left_by, turned_by, turn}
use Rattle.schedule.specs.Schedule.{job_tests}
use Rattle.store.proofs.Bounds.{Sound}
use Rattle.store.proofs.Memory.{Fits, sixteen_at_most}

pub record Under (j : Job) : Type 0 where
  pub passed : none ≡ first_failing (job_tests j)
  pub windows : j.now.totals.finished < j.windows
  pub warmed : j.warmed ≤ j.warm_up
  pub has : HasLogs (dim j.system) j.rates j.now.totals.finished j.now
  pub made : MadeLogs (dim j.system) j.rates (begun j * limit) (begun j) j.now

-- ---- it has room in a slot, and is sound there

record Limits (j : Job) : Type 0 where
  steps : j.steps ≤ limit
  warm_up_steps : j.warm_up_steps ≤ limit
  windows : j.windows ≤ limit
  warm_up : j.warm_up ≤ limit
  entries : dim j.system ≤ 16
  few : j.rates ≤ 16

limits : (j : Job) → Under j → Limits j
limits j U =
    let a = both_passed (setting_tests j.rates j.step_size j.steps j.windows j.windows j.warm_up j.warm_up_steps) _ U.passed in
    let b = both_passed (dimension_tests j.system) _ a.1 in
    let s = settings_passed j.rates j.step_size j.steps j.windows j.windows j.warm_up j.warm_up_steps a.0 in
    let d = dimension_passed j.system b.0 in
    let k = count_passed j.rates (dim j.system) b.1 in
    record { steps = s.4; warm_up_steps = s.7; windows = s.5; warm_up = s.6; entries = d.1; few = omega (arith, k, d.1) }

pub under_fits : (j : Job) → Under j → Fits (dim j.system) j.rates j.now.totals.finished j.now
under_fits j U = let l = limits j U in record { entries = l.entries; few = l.few; has = U.has; sized = U.made.made.directions }

pub under_sound : (j : Job) → Under j → Sound j.now.totals.finished j.now.motion.steps (sixteen j.now.totals.faint) j.now.motion.time
under_sound j U =
    let l = limits j U in
    let m = U.made.made in
    let b : begun j ≤ 2 * limit = omega (arith, U.windows, U.warmed, l.windows, l.warm_up) in
    record {
      windows = omega (arith, U.windows, l.windows);
      steps = omega (arith, m.steps, b);
      faint = sixteen_at_most (2 * limit) j.now.totals.faint (λ k. omega (arith, m.faint k, b));
      clock = m.clock;
    }

-- ---- a run that is handed in

keeps : (S : System) (m : List Float) (h : Float) (n : ℕ) → Keeps (dynamics S m h n)
unfolding dynamics
keeps S m h n k x v e = direction_length S m h x v ∙ e

abbrev pub UnderHanded : HandedIn → Type 0
UnderHanded (taken j) = Under j
UnderHanded (turned_down r) = Unit {0}

module _ (i : Input) (K : ℕ) where
  abbrev S : System
  S = i.system

  abbrev Drawn : RunState → Type 0
  Drawn = MadeLogs (dim S) K 0 0

  abbrev M₀ : Dynamics
  M₀ = dynamics S [] i.step_size i.steps

  drawn_has : Holds (Has (length i.state) K 0) 0 (drawn i K)
  unfolding problem problem_within
  drawn_has = begin_has M₀ (dynamics_keeps S [] i.step_size i.steps) (length i.state) K 0 _ (start_has (problem i) K)

  drawn_made : finite i.time ≡ true → Either Drawn Any (drawn i K)
  unfolding dynamics problem problem_within
  drawn_made f = begin_made M₀ (keeps S [] i.step_size i.steps) K _ (start_made (problem i) K f)

  -- the tests of the run are blocks of those of the hand-in
  module _ (p : none ≡ first_failing (hand_in_tests i K)) where
    job_passed : (c : RunState) → none ≡ first_failing (job_tests (job i K c))
    job_passed c =
        let a = both_passed (set_up_tests i.windows i K) _ p in
        let b = both_passed (setting_tests K i.step_size i.steps i.windows i.windows i.warm_up i.warm_up_steps) _ a.0 in
        let d = both_passed (time_tests i.time) _ b.1 in
        let k = both_passed (state_tests S i.state) _ a.1 in
        behind _ _ b.0 (behind (dimension_tests S) _ d.1 k.1)

    taken_under : (x : Status) → Holds (Has (length i.state) K 0) 0 x → Either Drawn Any x → UnderHanded (taken_at i K x)
    taken_under (ok c) h m =
        let a = both_passed (set_up_tests i.windows i K) _ p in
        let z : 0 ≡ 0 + c.totals.finished = sym h.finished ∙ omega arith in
        record {
          passed = job_passed c;
          windows = omega (arith, h.finished, (set_up i.windows i K a.0).windows);
          warmed = omega arith;
          has =
              record {
                has = record { finished = refl; state = h.state ∙ (start_passed S i.state K a.1).0; directions = h.directions; sums = h.sums; faint = h.faint };
                logs = m.logs;
                reports = m.reports;
              };
          made = subst (λ (w : ℕ). MadeLogs (dim S) K (w * limit) w c) z m;
        }
    taken_under (refused r) h m = tt

    past_under : UnderHanded (handed_in_past none i K)
    past_under = taken_under (drawn i K) drawn_has (drawn_made (set_up i.windows i K (both_passed (set_up_tests i.windows i K) _ p).0).clock)

  by_tests : (o : Option Refusal) → o ≡ first_failing (hand_in_tests i K) → UnderHanded (handed_in_past o i K)
  by_tests (some r) e = tt
  by_tests none e = past_under e

  pub hand_in_under : UnderHanded (handed_in i K)
  unfolding handed_in
  hand_in_under = by_tests (first_failing (hand_in_tests i K)) refl

-- ---- a turn

-- the same run, elsewhere
abbrev pub moved_to : Job → ℕ → RunState → Job
moved_to j w c = record j { warmed = w; now = c }

-- where it is under way still, only where it stands has changed
abbrev pub UnderTurned : Job → Turned → Type 0
UnderTurned j (under_way k z) = Under k × (k ≡ moved_to j k.warmed k.now)
UnderTurned j (over x) = Unit {0}

module _ (j : Job) (m : List Float) (z : Slices) (U : Under j) where
  abbrev M : Dynamics
  M = motion j m

  abbrev d : ℕ
  d = dim j.system

  abbrev done : ℕ
  done = j.now.totals.finished

  abbrev Next : ℕ → RunState → Type 0
  Next w = MadeLogs d j.rates (w * limit) w

  -- after a window of n steps
  next_has : (n : ℕ) → Holds (HasLogs d j.rates done) done (window M n j.now)
  next_has n = window_has M (dynamics_keeps j.system m j.step_size j.steps) d j.rates done n j.now U.has.has

  next_made : (n : ℕ) → n ≤ limit → Either (Next (suc (begun j))) Any (window M n j.now)
  unfolding dynamics
  next_made n few = window_made M (keeps j.system m j.step_size j.steps) j.rates n few (begun j) j.now U.made

  -- one window more, of either sort
  on_under : (b : Bool) (n : ℕ) (c : RunState) → HasLogs d j.rates n c → Next (suc (begun j)) c → warmed_by b j.warmed ≤ j.warm_up → suc (begun j) ≡ warmed_by b j.warmed + n
      → c.totals.finished < j.windows → warming j ≡ b → Under (onward j c)
  on_under b n c h t w e l f =
      let y : suc (begun j) ≡ warmed_by b j.warmed + c.totals.finished = omega (arith, e, h.has.finished) in
      subst (λ (a : Bool). Under (moved_to j (warmed_by a j.warmed) c)) (sym f)
      (record {
        passed = U.passed;
        windows = l;
        warmed = w;
        has = record { has = record { finished = refl; state = h.has.state; directions = h.has.directions; sums = h.has.sums; faint = h.has.faint }; logs = h.logs; reports = h.reports };
        made = subst (λ (a : ℕ). Next a c) y t;
      })

  left_under : (b : Bool) (t : Course) (c : RunState) → ltb c.totals.finished j.windows ≡ b → (c.totals.finished < j.windows → Under (onward j c)) → UnderTurned j (left_by b j m z t c)
  left_under true t c e h = (h (ltb-true _ _ e), refl)
  left_under false t c e h = tt

  warm_up_under : (x : Status) → Holds (HasLogs d j.rates done) done x → Either (Next (suc (begun j))) Any x → warming j ≡ true → UnderTurned j (turned_by x j m z (record { rows = []; end = x }))
  warm_up_under (ok c) h t f =
      left_under (ltb c.totals.finished j.windows) _ c refl (λ l. on_under true done c h t (omega (arith, ltb-true j.warmed j.warm_up f)) (omega arith) l f)
  warm_up_under (refused r) h t f = tt

  measured_under : (x : Status) → Holds (HasLogs d j.rates done) done x → Either (Next (suc (begun j))) Any x → warming j ≡ false
      → UnderTurned j (turned_by (with_row M x (measured M j.steps 0)).end j m z (with_row M x (measured M j.steps 0)))
  unfolding with_row measured dynamics
  measured_under (ok c) h t f =
      let w = suc (begun j) in
      left_under (ltb (accumulate c).totals.finished j.windows) _ (accumulate c) refl
      (λ l. on_under false (suc done) (accumulate c) (accumulate_has d j.rates done c h) (accumulate_made M (keeps j.system m j.step_size j.steps) j.rates j.steps (limits j U).steps w c t) U.warmed (omega arith) l f)
  measured_under (refused r) h t f = tt

  by_warming : (b : Bool) → warming j ≡ b → UnderTurned j (turned_by (window_by b j m).end j m z (window_by b j m))
  unfolding measured
  by_warming true f = let n = j.warm_up_steps in warm_up_under (window M n j.now) (next_has n) (next_made n (limits j U).warm_up_steps) f
  by_warming false f = let n = j.steps in measured_under (window M n j.now) (next_has n) (next_made n (limits j U).steps) f

  pub turn_under : UnderTurned j (turn j m z)
  unfolding turn
  turn_under = by_warming (warming j) refl
