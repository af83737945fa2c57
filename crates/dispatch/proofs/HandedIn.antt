-- What the tests of a hand-in decide.
use Prim.Native.Nat.{ℕ, ◌+◌, ◌*◌, ◌≤◌, ◌<◌}
use native.Mathlib.Omega.{arith}
use mathlib.Core.Path.{◌≡◌, sym, ap, ap₂, ◌∙◌}
use mathlib.Core.Bool.{true}
use mathlib.Core.List.{List}
use mathlib.Core.Option.{Option, none, some}
use lib.ListN.{length, get_or}
use lib.Seq.{sets, get_or-drop}
use lib.Ieee.{Float}
use lib.Ieee.Scale.{finite}
use Rattle.std.specs.Prelude.{Result, Ok, Err}
use Rattle.error.specs.Refusal.{refusal}
use Rattle.error.specs.Tests.{first_failing}
use Rattle.error.specs.declared.Refusal.{Refusal}
use Rattle.error.proofs.Tests.{both_passed}
use Rattle.floats.proofs.Sets.{drop_behind}
use Rattle.system.specs.System.{dim}
use Rattle.benettin.specs.Run.{Status}
use Rattle.benettin.specs.Estimate.{Input, limit, set_up_tests, start_tests}
use Rattle.benettin.specs.declared.RefusedRun.{RefusedRun}
use Rattle.benettin.proofs.RunTests.{set_up, start_passed}
use Rattle.totals.specs.Progress.{held, run_state, status}
use Rattle.totals.specs.declared.Progress.{Progress}
use Rattle.store.specs.Slots as Slots
use Rattle.store.specs.Slots.{saved}
use Rattle.store.proofs.Laid.{few_entries}
use Rattle.turns.specs.Turn.{hand_in_tests, job, HandedIn, turned_down, taken_at, drawn, handed_in_past, handed_in}
use Rattle.turns.specs.Dispatcher.{named, rejected, least_free}
use Rattle.schedule.specs.Schedule.{Memory, memory, names_in, lengthened, laid_settings, laid_counts, taken_in}
use Rattle.dispatching.specs.Served.{served, admitted_in}
use Rattle.dispatch.specs.Replies.{drawn_in}

module _ (i : Input) (K : ℕ) where
  pub handed_refused : (r : Refusal) → some r ≡ first_failing (hand_in_tests i K) → handed_in i K ≡ turned_down r
  unfolding handed_in
  handed_refused r e = ap (λ (o : Option Refusal). handed_in_past o i K) (sym e)

  pub handed_passed : none ≡ first_failing (hand_in_tests i K) → handed_in i K ≡ drawn_in i K
  unfolding handed_in
  handed_passed e = ap (λ (o : Option Refusal). handed_in_past o i K) (sym e)

  module _ (M : Memory) where
    pub refused_in : {r : Refusal} → some r ≡ first_failing (hand_in_tests i K) → served M (rejected r) ≡ admitted_in (handed_in i K) M
    refused_in e = ap (λ (h : HandedIn). admitted_in h M) (sym (handed_refused _ e))

    pub past_tests : none ≡ first_failing (hand_in_tests i K) → admitted_in (drawn_in i K) M ≡ admitted_in (handed_in i K) M
    past_tests e = ap (λ (h : HandedIn). admitted_in h M) (sym (handed_passed e))

-- ---- past the tests

-- the counts of a new run leave the length of the queue
pub count_kept : (q : List ℕ) (n : ℕ) (vs : List ℕ) → 8 * n + length vs ≤ 64 → get_or (sets q (8 * n) vs) 64 0 ≡ get_or q 64 0
count_kept q n vs h =
    sym (get_or-drop 64 (sets q (8 * n) vs) 0 0) ∙ ap (λ (l : List ℕ). get_or l 0 0) (drop_behind 64 q (8 * n) vs h) ∙ get_or-drop 64 q 0 0

-- a run for K rates of d entries that passed
pub record Room (i : Input) (K : ℕ) : Type 0 where
  pub above : 0 < length i.state
  pub entries : length i.state ≤ 16
  pub few : K ≤ 16
  pub all : K * length i.state ≤ 256
  pub state : length i.state ≡ dim i.system
  pub steps : i.steps ≤ limit
  pub clock : finite i.time ≡ true

pub has_room : (i : Input) (K : ℕ) → none ≡ first_failing (hand_in_tests i K) → Room i K
has_room i K e =
    let p = both_passed (set_up_tests i.windows i K) (start_tests i.system i.state K) e in
    let s = set_up i.windows i K p.0 in
    let t = start_passed i.system i.state K p.1 in
    let d : length i.state ≤ 16 = omega (arith, t.0, s.dimension_within) in
    let k : K ≤ 16 = omega (arith, t.1, s.dimension_within) in
    record { above = omega (arith, t.0, s.dimension_above); entries = d; few = k; all = few_entries K (length i.state) k d; state = t.0; steps = s.steps_limit; clock = s.clock }

module _ (i : Input) (K : ℕ) (M : Memory) (x t ns : List Float) {r : Result Progress RefusedRun} (e : status (dim i.system) K x t ns r ≡ drawn i K) where
  -- the draw is refused
  pub drawn_refused : {ε : RefusedRun} → r ≡ Err ε → served M (rejected (refusal ε.error)) ≡ admitted_in (drawn_in i K) M
  drawn_refused f = ap (λ (s : Status). admitted_in (taken_at i K s) M) (sym (ap (status (dim i.system) K x t ns) f) ∙ e)

  -- or the run is taken
  pub taken_is : {R : Slots.Memory} {f : List Float} {q q' : List ℕ} (p : Progress) (name : ℕ) → r ≡ Ok p → name ≡ least_free (names_in M.queue)
      → (let c = run_state (dim i.system) K (held x t ns p) in R ≡ saved name name c M.runs → f ≡ laid_settings name (job i K c) M.settings → q ≡ laid_counts name (job i K c) M.queue → q' ≡ lengthened name q → served (memory R f q') (named name) ≡ admitted_in (drawn_in i K) M)
  unfolding taken_in
  taken_is {R} {f} {q} {q'} p name a n eR ef eq eq' =
      let c = run_state (dim i.system) K (held x t ns p) in
      ap (λ (r : Slots.Memory). served (memory r f q') (named name)) eR
      ∙ ap₂ (λ (g : List Float) (u : List ℕ). served (memory (saved name name c M.runs) g u) (named name)) ef (eq' ∙ ap (lengthened name) eq)
      ∙ ap (λ (n : ℕ). served (taken_in n (job i K c) M) (named n)) n
      ∙ ap (λ (s : Status). admitted_in (taken_at i K s) M) (sym (ap (status (dim i.system) K x t ns) a) ∙ e)
