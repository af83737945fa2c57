-- The turn of the run in front: that there is one, what its tests give, and what becomes of it after its window.
use Prim.Native.Nat.{ℕ, suc, ◌+◌, ◌*◌, ◌≤◌, ◌<◌}
use native.Mathlib.Omega.{arith}
use mathlib.Core.Path.{◌≡◌, refl, sym, ap, ap₂, subst, ◌∙◌}
use mathlib.Core.Bool.{Bool, true, false, cond, ◌&&◌, not}
use mathlib.Core.Logic.{◌≢◌}
use mathlib.Core.List.{List, ◌++◌}
use mathlib.Core.Option.{Option, none, some}
use borrow.Author.Tests.{eqb-false, ltb-true, leb-true, lt-ltb, le-ltb}
use lib.Dec.{ltb, eqb}
use lib.ListN.{length, take, drop, replicate, length-take, length-replicate}
use lib.Seq.{sets, length-sets}
use lib.Ieee.{Float}
use Rattle.std.specs.Prelude.{Result, Ok, Err}
use Rattle.std.proofs.lemmas.Result.{IfOk-at_ok}
use Rattle.error.specs.Refusal.{refusal}
use Rattle.error.specs.Tests.{first_failing}
use Rattle.error.specs.declared.LyapunovError.{LyapunovError}
use Rattle.error.specs.declared.Refusal.{Refusal}
use Rattle.error.proofs.Tests.{both_passed}
use Rattle.floats.specs.Arithmetic.{◌⊗◌, zero⁺}
use Rattle.floats.specs.Vector.{part}
use Rattle.floats.proofs.Sets.{part_length, sets_over}
use Rattle.system.specs.System.{dim}
use Rattle.system_validation.specs.Tests.{matrix_tests, dimension_tests}
use Rattle.system_validation.proofs.Tests.{dimension_passed, matrix_passed}
use Rattle.benettin.specs.Run.{RunState, Status, Course, as_float, lengths, answer, output_tests}
use Rattle.benettin.specs.Estimate.{limit, dynamics, config_tests}
use Rattle.benettin.specs.Outputs.{Estimated, flat_rows, observed, outputs_from}
use Rattle.benettin.specs.declared.RefusedRun.{RefusedRun}
use Rattle.benettin.specs.declared.SpectrumEstimate.{SpectrumEstimate}
use Rattle.benettin.proofs.Reading.{none_faint}
use Rattle.benettin.proofs.RunTests.{config_passed, count_passed, outputs_passed}
use Rattle.totals.specs.Progress.{held, run_state, status}
use Rattle.totals.specs.Ending.{Bounded, Ends, Ended}
use Rattle.totals.specs.declared.Progress.{Progress}
use Rattle.progress.specs.UnderWay.{Recorded}
use Rattle.progress.proofs.Bounds.{bounded_up}
use Rattle.store.specs.Slots as Slots
use Rattle.store.specs.Slots.{tag_at, windows_at, stood_at}
use Rattle.store.specs.Beside.{SavesBeside, progress_in, LoadedBeside}
use Rattle.store.proofs.Laid.{few_entries}
use Rattle.store.proofs.LaidBeside.{saved_is, loaded_is}
use Rattle.turns.specs.Turn.{Job, begun, Slices, slices, motion, warming, window_by, onward, place, ended_by, Turned, under_way, over, left_by, turned_by, turn}
use Rattle.turns.specs.Dispatcher.{take_turn, unfit, advanced, finished}
use Rattle.schedule.specs.Schedule.{Memory, memory, names_in, next_in, job_at, is_passed, sound_at, ready_at, front, put_back, taken_out}
use Rattle.schedule.specs.Promises.{settings_at, set_tests, unfinished_by}
use Rattle.schedule.specs.declared.Settings.{Settings}
use Rattle.schedule.proofs.Queue.{next_below}
use Rattle.dispatching.specs.Served.{Served, served, moved_in, given_in, turned_in, serve_in}
use Rattle.dispatch.specs.Replies.{TurnReturns}
use Rattle.dispatch.specs.Turns.{job_of, in_slot, job_in, MakesWindow, WindowMade, PutsBack, PutBack, Leaves, Left, TurnsIn, InFront}
use Rattle.dispatch.specs.declared.TurnTaken.{TurnTaken}
use Rattle.dispatch.specs.declared.TurnTaken.TheVariants.{Nobody, Unfit, UnderWay, Over}

-- ---- the run that is next

module _ (M : Memory) (j : ℕ) where
  ready : (b : Bool) (i : ℕ) → sound_at i M ≡ b → cond b (some i) none ≡ some j → (i ≡ j) × (sound_at j M ≡ true)
  ready true i f h = let z : i ≡ j = cc in (z, subst (λ (k : ℕ). sound_at k M ≡ true) z f)
  ready false i f h = let z : ◌≡◌ {A = ℕ} 0 1 = cc in absurd (omega arith)

  next_ready : (o : Option ℕ) → ready_at o M ≡ some j → (o ≡ some j) × (sound_at j M ≡ true)
  next_ready none h = let z : ◌≡◌ {A = ℕ} 0 1 = cc in absurd (omega arith)
  next_ready (some i) h = let r = ready (sound_at i M) i refl h in (ap some r.0, r.1)

  pub in_front : some j ≡ front M → InFront j M
  in_front e =
      let r = next_ready (next_in M.queue) (sym e) in
      let b = next_below (names_in M.queue) j r.0 in
      record { slot = b.0; names = b.1; sound = r.1 }

-- a turn is that of the run in front, where there is one
pub front_turn : (M : Memory) {n : Memory} {o : Option ℕ} (a : List Float) {z z' : Slices} {r : TurnTaken} → o ≡ front M → TurnReturns r z z' n (turned_in o a z M) → TurnReturns r z z' n (serve_in M (take_turn a z))
unfolding serve_in
front_turn M {n} {o} a {z} {z'} {r} e h = subst (λ (p : Option ℕ). TurnReturns r z z' n (turned_in p a z M)) e h

pub nobody_returns : {M : Memory} (a : List Float) {z : Slices} → TurnReturns Nobody z z M (turned_in none a z M)
nobody_returns a = record { served_is = refl; untouched = λ u. refl }

-- ---- what is known of an unfinished run

-- at most so many are taken of a list
pub taken_few : (d : ℕ) (l : List Float) → d ≤ 16 → length (take d l) ≤ 16
taken_few d l h = omega (arith, length-take d l, h)

record Parts (j : ℕ) (s : Settings) (R : Slots.Memory) : Type 0 where
  used : tag_at j R ≢ 0
  passed : none ≡ first_failing (set_tests s)
  left : windows_at j R < s.config.windows
  warmed : s.warmed ≤ s.config.transient_windows

both_true : (a b : Bool) → a && b ≡ true → (a ≡ true) × (b ≡ true)
both_true true b h = (refl, h)
both_true false b h = let z : ◌≡◌ {A = ℕ} 0 1 = cc in absurd (omega arith)

not_true : (b : Bool) → not b ≡ true → b ≡ false
not_true true h = let z : ◌≡◌ {A = ℕ} 0 1 = cc in absurd (omega arith)
not_true false h = refl

passed_is : (o : Option Refusal) → is_passed o ≡ true → none ≡ o
passed_is none h = refl
passed_is (some r) h = let z : ◌≡◌ {A = ℕ} 0 1 = cc in absurd (omega arith)

module _ {j : ℕ} {M : Memory} (A : InFront j M) where
  abbrev own : Settings
  own = settings_at j M.settings M.queue

  parts_at : not (eqb (tag_at j M.runs) 0) && unfinished_by own (windows_at j M.runs) ≡ true → Parts j own M.runs
  parts_at h =
      let a = both_true _ _ h in
      let b = both_true (is_passed (first_failing (set_tests own)) && ltb (windows_at j M.runs) own.config.windows) _ a.1 in
      let c = both_true (is_passed (first_failing (set_tests own))) _ b.0 in
      record {
        used = eqb-false _ _ (not_true _ a.0);
        passed = passed_is _ c.0;
        left = ltb-true _ _ c.1;
        warmed = leb-true _ _ b.1;
      }

  own_parts : Parts j own M.runs
  unfolding sound_at
  own_parts = parts_at A.sound

  module _ {s : Settings} (e : s ≡ own) where
    parts : Parts j s M.runs
    parts = subst (λ (t : Settings). Parts j t M.runs) (sym e) own_parts

    abbrev Limited : Type 0
    Limited = (s.config.steps_per_window ≤ limit) × (s.config.windows ≤ limit) × (s.config.transient_windows ≤ limit) × (0 < dim s.system) × (dim s.system ≤ 16) × (s.config.top_k ≤ 16) × (s.config.steps_per_transient_window ≤ limit)

    pub limited : Limited
    limited =
        let a = both_passed (config_tests s.config.windows s.config) _ parts.passed in
        let b = both_passed (dimension_tests s.system) _ a.1 in
        let t = config_passed s.config.windows s.config a.0 in
        let d = dimension_passed s.system b.0 in
        (t.4, t.5, t.6, d.0, d.1, omega (arith, count_passed s.config.top_k (dim s.system) b.1, d.1), t.7)

    -- it is taken up as one of d entries
    pub taken : {d : ℕ} (ns : List Float) {x n F : List Float} {g C : List ℕ} → M.runs ≡ Slots.memory F C → length F ≡ 2568 → length C ≡ 152 → d ≡ dim s.system
        → (let k = s.config.top_k in (x ≡ part (321 * j) d F) × (n ≡ part (321 * j + 288) (k + k) F ++ drop (k + k) ns) → g ≡ part (19 * j + 3) k C ++ drop k (replicate 16 0)
        → (p : Progress) → p ≡ progress_in j g M.runs → LoadedBeside j d k M.runs x n p)
    taken {d} ns {x} {n} {F} {g} {C} m l h f v e p q =
        let a = limited in
        let u = subst (λ (r : Slots.Memory). tag_at j r ≢ 0) m parts.used in
        let b = subst (λ (r : Slots.Memory). p ≡ progress_in j g r) m q in
        subst (λ (r : Slots.Memory). LoadedBeside j d s.config.top_k r x n p) (sym m) (loaded_is F ns C (record { slot = A.slot; entries = omega (arith, f, a.4); few = a.5 }) u (l, h) v.0 v.1 e b)

    -- how many windows are begun
    pub few_begun : {w : ℕ} → w ≡ windows_at j M.runs → s.warmed + w ≤ limit + limit
    few_begun f = let l = limited in let p = parts in omega (arith, f, p.left, p.warmed, l.1, l.2)

    module _ (a rows es fs : List Float) where
      abbrev failing : Option Refusal
      failing = first_failing (matrix_tests s.system a ++ output_tests s.config.top_k (dim s.system) s.config.windows (lengths (length rows) (length es) (length fs)))

      abbrev z : Slices
      z = slices rows es fs

      -- its tests are those of the settings
      given_is : {o : Option Refusal} → o ≡ failing → given_in o j a z M ≡ turned_in (some j) a z M
      given_is f =
          ap (λ (o : Option Refusal). given_in o j a z M)
          (f ∙ ap (λ (t : Settings). first_failing (matrix_tests t.system a ++ output_tests t.config.top_k (dim t.system) t.config.windows (lengths (length rows) (length es) (length fs)))) e)

      pub unfit_returns : (ε : LyapunovError) {w : ℕ} → some (refusal ε) ≡ failing → w ≡ windows_at j M.runs → TurnReturns (Unfit j (s.warmed + w) ε) z z M (turned_in (some j) a z M)
      unfit_returns ε f h =
          record {
            served_is = sym (given_is f) ∙ ap (λ (b : ℕ). served M (unfit j b (refusal ε))) (sym (ap₂ (◌+◌) (ap (λ (t : Settings). t.warmed) e) h));
            untouched = λ u. refl;
          }

      module _ (f : none ≡ failing) where
        pub fit_returns : {r : TurnTaken} {z' : Slices} {n : Memory} → TurnReturns r z z' n (given_in none j a z M) → TurnReturns r z z' n (turned_in (some j) a z M)
        fit_returns {r} {z'} {n} h = subst (λ (v : Served). TurnReturns r z z' n v) (given_is f) h

        pub turns_in : {x ns : List Float} {g : List ℕ} → length x ≡ dim s.system → ((p : Progress) → p ≡ progress_in j g M.runs → LoadedBeside j (length x) s.config.top_k M.runs x ns p) → TurnsIn j s a x ns g rows es fs M
        turns_in xl T =
            let p = parts in
            let l = limited in
            let b = both_passed (config_tests s.config.windows s.config) _ p.passed in
            let d = both_passed (dimension_tests s.system) _ b.1 in
            let t = config_passed s.config.windows s.config b.0 in
            let y = dimension_passed s.system d.0 in
            let u = both_passed (matrix_tests s.system a) _ f in
            let o = outputs_passed s.config.top_k (dim s.system) s.config.windows (lengths (length rows) (length es) (length fs)) u.1 in
            record {
              taken_up = T;
              slot = A.slot;
              names = A.names;
              used = p.used;
              settings_are = e;
              passed =
                  record { dimension_above = y.0; dimension_within = y.1; cells = y.2; matrix = matrix_passed s.system a u.0; state = xl; count = l.5; step_size = t.1 };
              steps = l.0;
              warm_up_steps = l.6;
              left = p.left;
              windows = l.1;
              warmed = p.warmed;
              warm_up = l.2;
              rows_room = o.0;
              exponents = o.1;
              state = o.2;
            }

-- ---- its window, and what becomes of it

-- the run that is set so, where it stands
job_is : (j : ℕ) {s : Settings} (f : List Float) (q : List ℕ) (R : Slots.Memory) {c : RunState} → s ≡ settings_at j f q → c ≡ stood_at j (dim s.system) s.config.top_k R → job_of s c ≡ job_at j (memory R f q)
job_is j {s} f q R e g = ap (job_of s) g ∙ ap (λ (t : Settings). job_of t (stood_at j (dim t.system) t.config.top_k R)) e

module _ {j : ℕ} {s : Settings} {a x₀ ns₀ rows es fs F f : List Float} {g C q : List ℕ} (R : TurnsIn j s a x₀ ns₀ g rows es fs (memory (Slots.memory F C) f q)) {p : Progress} (P : p ≡ progress_in j g (Slots.memory F C)) where
  pub makes_window : MakesWindow j s a x₀ rows p
  makes_window =
      record {
        slot = R.slot;
        passed = R.passed;
        steps = R.steps;
        warm_up_steps = R.warm_up_steps;
        bounded = (R.taken_up p P).bounded;
        left = let w : p.windows ≡ windows_at j (Slots.memory F C) = ap (λ (q : Progress). q.windows) P in omega (arith, w, R.left);
        windows = R.windows;
        rows_room = R.rows_room;
      }

  -- ---- its window is made

  module _ {F' x' ns' rows' : List Float} {o : Result Progress RefusedRun} (W : WindowMade j s a F x₀ ns₀ rows p F' x' ns' rows' o) (xl : length x' ≡ dim s.system) (l : length F ≡ 2568) where
    abbrev d : ℕ
    d = dim s.system

    abbrev k : ℕ
    k = s.config.top_k

    abbrev n : ℕ
    n = s.config.windows

    abbrev m : Memory
    m = memory (Slots.memory F C) f q

    abbrev zs : Slices
    zs = slices rows es fs

    abbrev J : Job
    J = job_in j s F x₀ ns₀ p

    abbrev t : Course
    t = window_by (warming J) J a

    abbrev moved : List Float
    moved = part (321 * j + 16) (k * d) F'

    own_job : job_at j m ≡ J
    own_job =
        sym (job_is j f q (Slots.memory F C) R.settings_are (subst (λ (e : ℕ). run_state e k (held x₀ (part (321 * j + 16) (k * e) F) ns₀ p) ≡ stood_at j e k (Slots.memory F C)) R.passed.state (R.taken_up p P).run))

    rows_left : sets rows (place J) (flat_rows t.rows) ≡ rows'
    rows_left = sym (ap (λ (r : Recorded). r.rows) W.made)

    end_is : {r : Result Progress RefusedRun} → o ≡ r → t.end ≡ status d k x' moved ns' r
    end_is e = sym (ap (λ (r : Recorded). r.end) W.made) ∙ ap (status d k x' moved ns') e

    many : k * d ≤ 256
    many = few_entries k d R.passed.count R.passed.dimension_within

    as_long : length F' ≡ 2568
    as_long = ap length W.floats ∙ length-sets F (321 * j + 16) moved ∙ l

    moved_long : length moved ≡ k * d
    moved_long = part_length (321 * j + 16) (k * d) F' (omega (arith, as_long, many, R.slot))

    -- what its turn makes of it is served
    served_by : {v : Turned} → turn J a zs ≡ v → given_in none j a zs m ≡ moved_in j J v m
    served_by e = ap (λ (i : Job). moved_in j i (turn i a zs) m) own_job ∙ ap (λ (v : Turned). moved_in j J v m) e

    begun_is : suc (begun J) ≡ s.warmed + p.windows + 1
    begun_is = omega arith

    -- ---- it goes on

    module _ {p' : Progress} (e : o ≡ Ok p') where
      abbrev c : RunState
      c = run_state d k (in_slot j s F' x' ns' p')

      bounds : Bounded k (limit + limit + 1) (limit + 1) p'
      bounds = IfOk-at_ok (λ (y : Progress). Bounded k (limit + limit + 1) (limit + 1) y) e W.bounded

      pub puts_back : PutsBack j s q x' p'
      puts_back =
          record {
            names = R.names;
            slot = R.slot;
            entries = R.passed.dimension_within;
            few = R.passed.count;
            state = xl;
            bounded = bounds;
            warmed = R.warmed;
            warm_up = R.warm_up;
          }

      turned_is : {b : Bool} → ltb p'.windows n ≡ b → turn J a zs ≡ left_by b J a zs t c
      unfolding turn
      turned_is g = ap (λ (v : Status). turned_by v J a zs t) (end_is e) ∙ ap (λ (b : Bool). left_by b J a zs t c) g

      module _ {F″ : List Float} {C″ q″ : List ℕ} (B : PutBack j s F' C q x' ns' p' F″ C″ q″) where
        saves : SavesBeside j d k x' p'
        saves =
            record {
              fits = record { slot = R.slot; entries = R.passed.dimension_within; few = R.passed.count };
              state = xl;
              made = limit + limit + 1;
              measured = limit + 1;
              bounded = bounds;
            }

        put_is : put_back j (onward J c) m ≡ memory (Slots.memory F″ C″) f q″
        unfolding put_back
        put_is = sym (ap₂ (λ (r : Slots.Memory) (u : List ℕ). memory r f u) (B.runs ∙ saved_is j ns' F moved C saves moved_long W.floats) B.queue_is)

        pub on_returns : p'.windows < n → TurnReturns (UnderWay j (s.warmed + p.windows + 1)) zs (slices rows' es fs) (memory (Slots.memory F″ C″) f q″) (given_in none j a zs m)
        on_returns g =
            record {
              served_is =
                  served_by (turned_is (lt-ltb _ _ g) ∙ ap (λ (r : List Float). under_way (onward J c) (slices r es fs)) rows_left)
                  ∙ ap (λ (b : ℕ). served (put_back j (onward J c) m) (advanced j b (slices rows' es fs))) begun_is
                  ∙ ap (λ (y : Memory). served y (advanced j (s.warmed + p.windows + 1) (slices rows' es fs))) put_is;
              untouched = λ u. absurd u;
            }

      -- ---- it has its last window

      pub ends : Ends k s.config.steps_per_window n x' es fs p'
      ends =
          record {
            few = R.passed.count;
            steps = R.steps;
            windows = R.windows;
            exponents = R.exponents;
            state = omega (arith, xl, R.state);
            bounded = bounded_up (omega arith) (omega arith) bounds;
          }

      last_over : n ≤ p'.windows → turn J a zs ≡ over (ended_by J a zs t)
      last_over g = turned_is (le-ltb _ _ g)

      last_answered : {r : SpectrumEstimate} {es' fs' : List Float} → Ended k (s.config.step_size ⊗ as_float s.config.steps_per_window) n x' p' es fs r es' fs' → observed (Ok r) rows' es' fs' ≡ ended_by J a zs t
      unfolding dynamics
      last_answered {r} {es'} {fs'} E =
          ap (λ (l : List Float). observed (Ok r) l es' fs') (sym rows_left)
          ∙ E (motion J a) d moved ns' rows (place J) t.rows refl
          ∙ ap (λ (v : Status). outputs_from (place J) n rows es fs (answer (motion J a) n k t.rows v)) (sym (end_is e))

    -- ---- it is refused

    module _ {u : RefusedRun} (e : o ≡ Err u) where
      refused_over : turn J a zs ≡ over (ended_by J a zs t)
      unfolding turn
      refused_over = ap (λ (v : Status). turned_by v J a zs t) (end_is e)

      refused_answered : observed (Err u) rows' es fs ≡ ended_by J a zs t
      unfolding outputs_from answer
      refused_answered = rw (← rows_left, end_is e, none_faint k)

    -- ---- it is over

    pub leaves : (y : List Float) → length y ≡ d → Leaves j (k * length y) q
    leaves y yl =
        let h : k * length y ≡ k * d = ap (λ (i : ℕ). k * i) yl in
        record { names = R.names; slot = R.slot; few = omega (arith, h, many) }

    abbrev cleared : List Float
    cleared = replicate (k * d) zero⁺

    module _ (y : List Float) (yl : length y ≡ d) {F″ : List Float} {q″ : List ℕ} (N : Left j (k * length y) F' q F″ q″) where
      -- what was moved is cleared
      floats_are : F″ ≡ sets F (321 * j + 16) cleared
      floats_are =
          N.floats
          ∙ ap (λ (i : ℕ). sets F' (321 * j + 16) (replicate (k * i) zero⁺)) yl
          ∙ ap (λ (l : List Float). sets l (321 * j + 16) cleared) W.floats
          ∙ sets_over F (321 * j + 16) moved cleared (moved_long ∙ sym (length-replicate (k * d) zero⁺)) (rw length-replicate (omega (arith, many, R.slot, l)))

      out_is : taken_out j J m ≡ memory (Slots.memory F″ C) f q″
      unfolding taken_out
      out_is = ap₂ (λ (l : List Float) (u : List ℕ). memory (Slots.memory l C) f u) (sym floats_are) (sym N.queue_is)

      over_returns : {r : Result SpectrumEstimate RefusedRun} {es' fs' : List Float} → turn J a zs ≡ over (ended_by J a zs t) → observed r rows' es' fs' ≡ ended_by J a zs t
          → TurnReturns (Over j (s.warmed + p.windows + 1) r) zs (slices rows' es' fs') (memory (Slots.memory F″ C) f q″) (given_in none j a zs m)
      over_returns {r} {es'} {fs'} g h =
          record {
            served_is =
                served_by g
                ∙ ap₂ (λ (b : ℕ) (y : Estimated). served (taken_out j J m) (finished j b y)) begun_is (sym h)
                ∙ ap (λ (y : Memory). served y (finished j (s.warmed + p.windows + 1) (observed r rows' es' fs'))) out_is;
            untouched = λ u. absurd u;
          }

      pub refused_returns : {u : RefusedRun} → o ≡ Err u → TurnReturns (Over j (s.warmed + p.windows + 1) (Err u)) zs (slices rows' es fs) (memory (Slots.memory F″ C) f q″) (given_in none j a zs m)
      refused_returns e = over_returns (refused_over e) (refused_answered e)

      pub last_returns : {p' : Progress} → o ≡ Ok p' → n ≤ p'.windows → {r : SpectrumEstimate} {es' fs' : List Float} → Ended k (s.config.step_size ⊗ as_float s.config.steps_per_window) n x' p' es fs r es' fs'
          → TurnReturns (Over j (s.warmed + p.windows + 1) (Ok r)) zs (slices rows' es' fs') (memory (Slots.memory F″ C) f q″) (given_in none j a zs m)
      last_returns e g E = over_returns (last_over e g) (last_answered e E)
