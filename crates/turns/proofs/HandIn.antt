-- A run that is handed in comes to what it comes to alone.
use Prim.Native.Nat.{ℕ, ◌+◌, ◌-◌, ◌*◌, ◌<◌}
use native.Mathlib.Nat.{sub-zero}
use native.Mathlib.Omega.{arith}
use mathlib.Core.Path.{◌≡◌, refl, sym, ap, ◌∙◌}
use mathlib.Core.List.{List, [], ◌++◌}
use mathlib.Core.Option.{Option, none, some}
use lib.ListN.{length}
use lib.Ieee.{Float}
use Rattle.error.specs.Tests.{first_failing, ◌else◌}
use Rattle.error.specs.declared.Refusal.{Refusal}
use Rattle.error.proofs.Tests.{first_append, else_none, both_passed}
use Rattle.system.specs.System.{dim}
use Rattle.system_validation.specs.Tests.{matrix_tests}
use Rattle.benettin.specs.Run.{Dynamics, RunState, RunRefusal, Status, ok, refused, ◌then◌, Course, reorthonormalise, check_duration, begin, warm_up, measured_from, warmed_up, course, initial, answer, output_tests, input_tests, run_tests, run_past, run}
use Rattle.benettin.specs.Estimate.{Input, set_up_tests, start_tests, dynamics, problem, problem_within, splitmix64, estimate}
use Rattle.benettin.specs.Outputs.{Estimated, estimated, outputs, outputs_from, lengths_of, flat_rows}
use Rattle.benettin.proofs.Either.{Either, then_either, basis_either, duration_either}
use Rattle.benettin.proofs.RunTests.{input_by_blocks, set_up}
use Rattle.benettin.proofs.Sizes.{Has, start_has, begin_has}
use Rattle.benettin.proofs.Reading.{dynamics_keeps}
use Rattle.turns.specs.Turn.{hand_in_tests, Job, HandedIn, taken, turned_down, taken_at, drawn, handed_in_past, handed_in, Slices, slices, turn_tests}
use Rattle.turns.specs.Alone.{with_matrix, Fits, refused_at_once}
use Rattle.turns.proofs.Turn.{finish, Going}

abbrev pub finish_handed : ℕ → List Float → Slices → HandedIn → Estimated
finish_handed K m z (taken j) = finish j m z
finish_handed K m z (turned_down r) = refused_at_once r K z

abbrev pub GoingHanded : HandedIn → Type 0
GoingHanded (taken j) = Going j
GoingHanded (turned_down r) = Unit {0}

-- ---- 9 and 13 pass, so the tests are those of the hand-in

module _ (i : Input) (K : ℕ) (m : List Float) (z : Slices) (f : Fits i K m z) where
  abbrev P : Input
  P = with_matrix m i

  tests_same : first_failing (run_tests (problem P) K (lengths_of z.rows z.exponents z.final_state)) ≡ first_failing (hand_in_tests i K)
  unfolding run_tests problem problem_within dynamics ◌else◌
  tests_same =
      let o = output_tests K (dim i.system) i.windows (lengths_of z.rows z.exponents z.final_state) in
      let M = matrix_tests i.system m in
      let g = both_passed M o f in
      first_append (input_tests (problem P) K) o
      ∙ ap (λ (r : Option Refusal). first_failing (input_tests (problem P) K) else r) (sym g.1)
      ∙ else_none _
      ∙ ap first_failing (input_by_blocks i.windows P K)
      ∙ first_append (set_up_tests i.windows i K) (M ++ start_tests i.system i.state K)
      ∙ ap (λ (r : Option Refusal). first_failing (set_up_tests i.windows i K) else r) (first_append M (start_tests i.system i.state K) ∙ ap (λ (r : Option Refusal). r else first_failing (start_tests i.system i.state K)) (sym g.0))
      ∙ sym (first_append (set_up_tests i.windows i K) (start_tests i.system i.state K))

-- ---- the draw

-- a run that is refused there has made nothing
abbrev pub Nothing : RunRefusal → Type 0
Nothing r = (r.finished ≡ 0) × (r.steps ≡ 0)

abbrev pub Fresh : RunState → Type 0
Fresh c = (c.totals.finished ≡ 0) × (c.motion.steps ≡ 0)

begin_fresh : (M : Dynamics) (c : RunState) → Fresh c → Either Fresh Nothing (begin M c)
unfolding begin
begin_fresh M c h =
    then_either Nothing Fresh Fresh (reorthonormalise M c) (check_duration M) (basis_either Nothing Fresh c (λ _ _ _. h) M (λ _. h)) (λ e g. duration_either Nothing Fresh e (λ _ _ _. g) M g)

module _ (i : Input) (K : ℕ) (m : List Float) (z : Slices) where
  abbrev M : Dynamics
  M = dynamics i.system m i.step_size i.steps

  abbrev c₀ : RunState
  c₀ = initial splitmix64 (dim i.system) i.state i.time i.seed K

  -- no matrix is read
  drawn_same : drawn i K ≡ begin M c₀
  unfolding begin reorthonormalise check_duration dynamics
  drawn_same = refl

  abbrev out : Course → Estimated
  out t = outputs i.windows z.rows z.exponents z.final_state (answer M i.windows K t.rows t.end)

  -- from place p on, with so many windows of both sorts left
  abbrev from : RunState → ℕ → ℕ → ℕ → Estimated
  from c p w n =
      let t = measured_from M i.steps n (warm_up M i.warm_up_steps w c) in
      outputs_from p i.windows z.rows z.exponents z.final_state (answer M i.windows K t.rows t.end)

  started : (x : Status) → Either Fresh Nothing x → finish_handed K m z (taken_at i K x) ≡ out (measured_from M i.steps i.windows (x then warm_up M i.warm_up_steps i.warm_up))
  unfolding finish ◌then◌ measured_from answer outputs_from flat_rows
  started (ok c) h =
      let p : c.totals.finished * (1 + 2 * K) ≡ 0 = ap (λ (f : ℕ). f * (1 + 2 * K)) h.0 ∙ omega arith in
      let n : i.windows - c.totals.finished ≡ i.windows = ap (λ (f : ℕ). i.windows - f) h.0 ∙ sub-zero i.windows in
      λ t. from c (p t) (sub-zero i.warm_up t) (n t)
  started (refused r) h = rw (h.0, h.1)

  fresh : Either Fresh Nothing (begin M c₀)
  unfolding initial
  fresh = begin_fresh M c₀ (refl, refl)

  past : (o : Option Refusal) → finish_handed K m z (handed_in_past o i K) ≡ outputs i.windows z.rows z.exponents z.final_state (run_past o (problem (with_matrix m i)) K)
  unfolding run_past course warmed_up problem problem_within outputs_from
  past (some r) = refl
  past none = ap (λ (x : Status). finish_handed K m z (taken_at i K x)) drawn_same ∙ started (begin M c₀) fresh

pub drawn_fresh : (i : Input) (K : ℕ) → Either Fresh Nothing (drawn i K)
drawn_fresh i K = fresh i K [] (slices [] [] [])

pub hand_in_law : (i : Input) (K : ℕ) (m : List Float) (z : Slices) → Fits i K m z → finish_handed K m z (handed_in i K) ≡ estimated (with_matrix m i) K z.rows z.exponents z.final_state
unfolding handed_in estimated estimate run
hand_in_law i K m z f =
    past i K m z (first_failing (hand_in_tests i K))
    ∙ ap (λ (o : Option Refusal). outputs i.windows z.rows z.exponents z.final_state (run_past o (problem (with_matrix m i)) K)) (sym (tests_same i K m z f))

-- ---- a run that is taken is going

begun_has : (i : Input) (K : ℕ) → Either (Has (length i.state) K 0) (λ _. Unit {0}) (drawn i K)
unfolding problem problem_within
begun_has i K = go (drawn i K) (begin_has (dynamics i.system [] i.step_size i.steps) (dynamics_keeps i.system [] i.step_size i.steps) (length i.state) K 0 _ start)
  where
    start : Has (length i.state) K 0 (initial splitmix64 (dim i.system) i.state i.time i.seed K)
    start = start_has (problem i) K

    go : (x : Status) → Either (Has (length i.state) K 0) (λ r. (r.finished ≡ 0) × (0 < r.number)) x → Either (Has (length i.state) K 0) (λ _. Unit {0}) x
    go (ok c) h = h
    go (refused r) h = tt

taken_going : (i : Input) (K : ℕ) (x : Status) → 0 < i.windows → Either (Has (length i.state) K 0) (λ _. Unit {0}) x → GoingHanded (taken_at i K x)
taken_going i K (ok c) l h =
    record { windows = omega (arith, l, h.finished); has = record { finished = refl; state = refl; directions = h.directions; sums = h.sums; faint = h.faint } }
taken_going i K (refused r) l h = tt

past_going : (o : Option Refusal) (i : Input) (K : ℕ) → o ≡ first_failing (hand_in_tests i K) → GoingHanded (handed_in_past o i K)
past_going (some r) i K e = tt
past_going none i K e = taken_going i K (drawn i K) (set_up i.windows i K (both_passed (set_up_tests i.windows i K) _ e).0).windows (begun_has i K)

pub hand_in_going : (i : Input) (K : ℕ) → GoingHanded (handed_in i K)
unfolding handed_in
hand_in_going i K = past_going (first_failing (hand_in_tests i K)) i K refl

-- ---- what fits the run that is handed in fits its turns

abbrev pub FitsTurn : Job → List Float → Slices → Type 0
FitsTurn j m z = none ≡ first_failing (turn_tests j m z)

abbrev pub FitsHanded : List Float → Slices → HandedIn → Type 0
FitsHanded m z (taken j) = FitsTurn j m z
FitsHanded m z (turned_down r) = Unit {0}

pub hand_in_fits : (i : Input) (K : ℕ) (m : List Float) (z : Slices) → Fits i K m z → FitsHanded m z (handed_in i K)
unfolding handed_in
hand_in_fits i K m z f = go (first_failing (hand_in_tests i K))
  where
    at : (x : Status) → FitsHanded m z (taken_at i K x)
    at (ok c) = f
    at (refused r) = tt

    go : (o : Option Refusal) → FitsHanded m z (handed_in_past o i K)
    go (some r) = tt
    go none = at (drawn i K)
