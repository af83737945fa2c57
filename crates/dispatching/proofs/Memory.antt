-- What is done to a dispatcher's memory: a run that is laid down or put back is there, all other runs stay as they were, and the names of the queue are those that are due.
use Prim.Native.Nat.{ℕ, suc, ◌+◌, ◌-◌, ◌*◌, ◌≤◌, ◌<◌}
use native.Mathlib.Omega.{arith}
use mathlib.Core.Path.{◌≡◌, refl, sym, ap, ap₂, ◌∙◌}
use mathlib.Core.Logic.{◌≢◌}
use mathlib.Core.List.{List, [], ◌∷◌, ◌++◌}
use lib.ListN.{length, take, drop, get_or, set, replicate, length-set, length-append, length-drop, length-replicate}
use lib.Seq.{sets, length-sets, take_at, take-take, take-suc-set, drop-drop, drop-set-lt, drop-set-add, get_or-take, get_or-drop, get_or-set_same, get_or-set_other}
use lib.Ieee.{Float, nan}
use Rattle.floats.specs.Arithmetic.{zero⁺}
use Rattle.floats.specs.Vector.{part}
use Rattle.floats.proofs.Sets.{part_before, part_sets, drop_behind}
use Rattle.system.specs.System.{dim}
use Rattle.system_numbers.specs.Numbers.{system, numbers}
use Rattle.system_numbers.proofs.Named.{named}
use Rattle.benettin.specs.Run.{RunState}
use Rattle.turns.specs.Turn.{Job}
use Rattle.store.specs.Slots.{tag_at, stood_at}
use Rattle.store.proofs.Laid.{few_entries}
use Rattle.store.proofs.Memory.{slots_apart, Same, same_tag, same_run, saved_sized, saved_same, saved_run, saved_tag}
use Rattle.store.proofs.Writes.{get_inside, apart}
use Rattle.schedule.specs.Schedule.{Memory, names_in, rotated, shortened, lengthened, system_at, job_at, laid_settings, laid_counts, taken_in, put_back, taken_out}
use Rattle.schedule.specs.Promises.{Sized}
use Rattle.dispatching.proofs.Going.{Under, under_fits, under_sound, moved_to}

-- ---- a run that stays as it was

-- its slot, its settings and its counts
pub record Kept (k : ℕ) (m m' : Memory) : Type 0 where
  pub slot : Same k m.runs m'.runs
  pub settings : part (4 * k) 4 m'.settings ≡ part (4 * k) 4 m.settings
  pub counts : part (8 * k) 8 m'.queue ≡ part (8 * k) 8 m.queue

module _ (k : ℕ) (m m' : Memory) (s : Kept k m m') where
  pub kept_tag : tag_at k m'.runs ≡ tag_at k m.runs
  kept_tag = same_tag s.slot

  pub kept_job : dim (job_at k m).system ≤ 16 → (job_at k m).rates ≤ 16 → job_at k m' ≡ job_at k m
  kept_job d r =
      let float = get_inside (4 * k) 4 m.settings m'.settings s.settings nan in
      let count = get_inside (8 * k) 8 m.queue m'.queue s.counts 0 in
      let step_size = float (4 * k) (omega arith) (omega arith) in
      let p₀ = float (4 * k + 1) (omega arith) (omega arith) in
      let p₁ = float (4 * k + 2) (omega arith) (omega arith) in
      let p₂ = float (4 * k + 3) (omega arith) (omega arith) in
      let kind = count (8 * k) (omega arith) (omega arith) in
      let size = count (8 * k + 1) (omega arith) (omega arith) in
      let rates = count (8 * k + 2) (omega arith) (omega arith) in
      let steps = count (8 * k + 3) (omega arith) (omega arith) in
      let windows = count (8 * k + 4) (omega arith) (omega arith) in
      let warm_up = count (8 * k + 5) (omega arith) (omega arith) in
      let warm_up_steps = count (8 * k + 6) (omega arith) (omega arith) in
      let warmed = count (8 * k + 7) (omega arith) (omega arith) in
      let S : system_at k m' ≡ system_at k m = λ t. system (kind t) (p₀ t) (p₁ t) (p₂ t) (size t) in
      let now = ap₂ (λ (e K : ℕ). stood_at k e K m'.runs) (ap dim S) rates ∙ same_run s.slot (dim (system_at k m)) (job_at k m).rates d r in
      λ t. record { system = S t; rates = rates t; step_size = step_size t; steps = steps t; windows = windows t; warm_up = warm_up t; warm_up_steps = warm_up_steps t; warmed = warmed t; now = now t }

-- ---- what is written comes back

pub get_sets {u} : {A : Type u} (l : List A) (a : ℕ) (w : List A) (z : A) → a + length w ≤ length l → (b p : ℕ) → b ≡ a + p → p < length w → get_or (sets l a w) b z ≡ get_or w p z
get_sets l a w z h b p e g =
    ap (λ (i : ℕ). get_or (sets l a w) i z) e
    ∙ sym (get_or-drop a (sets l a w) p z)
    ∙ sym (get_or-take (length w) (drop a (sets l a w)) p z g)
    ∙ ap (λ (x : List _). get_or x p z) (part_sets l a w (length w) refl h)

-- ---- the names of a queue

-- they stand from 64 on
module _ (q q' : List ℕ) (e : drop 64 q' ≡ drop 64 q) where
  pub tail_count : get_or q' 64 0 ≡ get_or q 64 0
  tail_count = sym (get_or-drop 64 q' 0 0) ∙ ap (λ (l : List ℕ). get_or l 0 0) e ∙ get_or-drop 64 q 0 0

  pub tail_names : names_in q' ≡ names_in q
  tail_names =
      let f : drop 65 q' ≡ drop 65 q = sym (drop-drop 1 64 q') ∙ ap (drop 1) e ∙ drop-drop 1 64 q in
      ap₂ (λ (c : ℕ) (l : List ℕ). take c (take 8 l)) tail_count f

module _ (q : List ℕ) (l : length q ≡ 73) where
  -- one more at the back
  module _ (n : ℕ) (e : get_or q 64 0 ≡ length (names_in q)) (h : length (names_in q) < 8) where
    abbrev k : ℕ
    k = length (names_in q)

    pub lengthened_count : get_or (lengthened n q) 64 0 ≡ k + 1
    lengthened_count = get_or-set_same (set q (65 + k) n) 64 (k + 1) 0 (rw length-set (omega (arith, l)))

    pub lengthened_names : names_in (lengthened n q) ≡ names_in q ++ (n ∷ [])
    lengthened_names =
        let D = drop 65 q in
        let f : drop 65 (lengthened n q) ≡ set D k n = drop-set-lt 65 (set q (65 + k) n) 64 (k + 1) (omega arith) ∙ drop-set-add 65 q k n in
        let z : k + 1 ≡ suc k = omega arith in
        let long : k < length D = rw length-drop (omega (arith, l, h)) in
        ap₂ (λ (c : ℕ) (x : List ℕ). take c (take 8 x)) (lengthened_count ∙ z) f
        ∙ take-take (suc k) 8 (set D k n) (omega (arith, h))
        ∙ take-suc-set D k n long
        ∙ ap (λ (x : List ℕ). x ++ (n ∷ [])) (sym (take-take k 8 D (omega (arith, h))) ∙ ap (λ (c : ℕ). take c (take 8 D)) (sym e))

  -- the one in front goes to the back, or is gone
  module _ (n : ℕ) (ns : List ℕ) (e : names_in q ≡ n ∷ ns) (c : get_or q 64 0 ≡ suc (length ns)) (h : suc (length ns) ≤ 8) where
    abbrev back : List ℕ
    back = ns ++ (n ∷ [])

    rotated_is : rotated q ≡ sets q 65 back
    rotated_is = ap (λ (x : List ℕ). sets q 65 (drop 1 x ++ take 1 x)) e

    back_length : length back ≡ suc (length ns)
    back_length = length-append ns (n ∷ []) ∙ omega arith

    pub rotated_length : length (rotated q) ≡ 73
    rotated_length = ap length rotated_is ∙ length-sets q 65 back ∙ l

    pub rotated_count : get_or (rotated q) 64 0 ≡ suc (length ns)
    rotated_count = ap (λ (x : List ℕ). get_or x 64 0) rotated_is ∙ get_inside 64 1 q (sets q 65 back) (part_before 64 1 q 65 back (omega arith)) 0 64 (omega arith) (omega arith) ∙ c

    rotated_back : take (suc (length ns)) (drop 65 (rotated q)) ≡ back
    rotated_back = ap (λ (x : List ℕ). take (suc (length ns)) (drop 65 x)) rotated_is ∙ part_sets q 65 back (suc (length ns)) back_length (omega (arith, l, h))

    pub rotated_names : names_in (rotated q) ≡ back
    rotated_names = ap (λ (k : ℕ). take k (take 8 (drop 65 (rotated q)))) rotated_count ∙ take-take (suc (length ns)) 8 (drop 65 (rotated q)) h ∙ rotated_back

    -- 7 counts below 64 stay
    pub rotated_counts : (k : ℕ) → k < 8 → part (8 * k) 8 (rotated q) ≡ part (8 * k) 8 q
    rotated_counts k g = ap (part (8 * k) 8) rotated_is ∙ part_before (8 * k) 8 q 65 back (omega (arith, g))

    pub shortened_count : get_or (shortened q) 64 0 ≡ length ns
    shortened_count =
        let z : length (names_in q) - 1 ≡ length ns = ap (λ (x : List ℕ). length x - 1) e ∙ omega arith in
        get_or-set_same (rotated q) 64 (length (names_in q) - 1) 0 (omega (arith, rotated_length)) ∙ z

    pub shortened_names : names_in (shortened q) ≡ ns
    shortened_names =
        let D = drop 65 (rotated q) in
        let f : drop 65 (shortened q) ≡ D = drop-set-lt 65 (rotated q) 64 (length (names_in q) - 1) (omega arith) in
        ap₂ (λ (k : ℕ) (x : List ℕ). take k (take 8 x)) shortened_count f
        ∙ take-take (length ns) 8 D (omega (arith, h))
        ∙ sym (take-take (length ns) (suc (length ns)) D (omega arith))
        ∙ ap (take (length ns)) rotated_back
        ∙ take_at ns (n ∷ []) (length ns) refl

    pub shortened_counts : (k : ℕ) → k < 8 → part (8 * k) 8 (shortened q) ≡ part (8 * k) 8 q
    shortened_counts k g = part_before (8 * k) 8 (rotated q) 64 ((length (names_in q) - 1) ∷ []) (omega (arith, g)) ∙ rotated_counts k g

-- ---- a new run

module _ (n : ℕ) (j : Job) (m : Memory) (U : Under j) (S : Sized m) (h : n < 8) where
  abbrev eight : List ℕ
  eight = let x = numbers j.system in x.kind ∷ x.dimension ∷ j.rates ∷ j.steps ∷ j.windows ∷ j.warm_up ∷ j.warm_up_steps ∷ j.warmed ∷ []

  abbrev four : List Float
  four = let x = numbers j.system in j.step_size ∷ x.p0 ∷ x.p1 ∷ x.p2 ∷ []

  abbrev laid : List ℕ
  laid = laid_counts n j m.queue

  pub laid_length : length laid ≡ 73
  laid_length = length-sets m.queue (8 * n) eight ∙ S.2

  pub laid_tail : drop 64 laid ≡ drop 64 m.queue
  laid_tail = drop_behind 64 m.queue (8 * n) eight (omega (arith, h))

  long : length (lengthened n laid) ≡ 73
  long = let c = length (names_in laid) in length-set (set laid (65 + c) n) 64 (c + 1) ∙ length-set laid (65 + c) n ∙ laid_length

  pub taken_sized : Sized (taken_in n j m)
  unfolding taken_in
  taken_sized =
      (saved_sized n n j.now m.runs S.0, length-sets m.settings (4 * n) four ∙ S.1, long)

  pub taken_kept : (k : ℕ) → k ≢ n → k < 8 → Kept k m (taken_in n j m)
  unfolding taken_in
  taken_kept k f g =
      let c = length (names_in laid) in
      record {
        slot = saved_same n n (dim j.system) j.rates j.now.totals.finished j.now m.runs (under_fits j U) k f;
        settings = apart (4 * k) 4 (4 * n) 4 (slots_apart 4 k n f) m.settings ((4 * n, four) ∷ []) (omega arith);
        counts =
            part_before (8 * k) 8 (set laid (65 + c) n) 64 ((c + 1) ∷ []) (omega (arith, g))
            ∙ part_before (8 * k) 8 laid (65 + c) (n ∷ []) (omega (arith, g))
            ∙ apart (8 * k) 8 (8 * n) 8 (slots_apart 8 k n f) m.queue ((8 * n, eight) ∷ []) (omega arith);
      }

  pub taken_tag : tag_at n (taken_in n j m).runs ≡ n + 1
  unfolding taken_in
  taken_tag = saved_tag n n (dim j.system) j.rates j.now.totals.finished j.now m.runs (under_fits j U) S.0 h (omega (arith, h)) (under_sound j U)

  float : (b p : ℕ) → b ≡ 4 * n + p → p < 4 → get_or (laid_settings n j m.settings) b nan ≡ get_or four p nan
  float = get_sets m.settings (4 * n) four nan (omega (arith, h, S.1))

  count : (b p : ℕ) → b ≡ 8 * n + p → p < 8 → get_or (lengthened n laid) b 0 ≡ get_or eight p 0
  count b p e g =
      let c = length (names_in laid) in
      get_or-set_other (set laid (65 + c) n) 64 b (c + 1) 0 (λ z. omega (arith, z, e, g, h))
      ∙ get_or-set_other laid (65 + c) b n 0 (λ z. omega (arith, z, e, g, h))
      ∙ get_sets m.queue (8 * n) eight 0 (omega (arith, h, S.2)) b p e g

  pub taken_job : job_at n (taken_in n j m) ≡ j
  unfolding taken_in
  taken_job =
      let m' = taken_in n j m in
      let step_size = float (4 * n) 0 (omega arith) (omega arith) in
      let p₀ = float (4 * n + 1) 1 refl (omega arith) in
      let p₁ = float (4 * n + 2) 2 refl (omega arith) in
      let p₂ = float (4 * n + 3) 3 refl (omega arith) in
      let kind = count (8 * n) 0 (omega arith) (omega arith) in
      let size = count (8 * n + 1) 1 refl (omega arith) in
      let rates = count (8 * n + 2) 2 refl (omega arith) in
      let steps = count (8 * n + 3) 3 refl (omega arith) in
      let windows = count (8 * n + 4) 4 refl (omega arith) in
      let warm_up = count (8 * n + 5) 5 refl (omega arith) in
      let warm_up_steps = count (8 * n + 6) 6 refl (omega arith) in
      let warmed = count (8 * n + 7) 7 refl (omega arith) in
      let x = numbers j.system in
      let Z : system_at n m' ≡ system x.kind x.p0 x.p1 x.p2 x.dimension = λ t. system (kind t) (p₀ t) (p₁ t) (p₂ t) (size t) in
      let Y : system_at n m' ≡ j.system = Z ∙ named j.system in
      let now : stood_at n (dim (system_at n m')) (job_at n m').rates m'.runs ≡ j.now =
      ap₂ (λ (e K : ℕ). stood_at n e K m'.runs) (ap dim Y) rates
      ∙ saved_run n n (dim j.system) j.rates j.now.totals.finished j.now m.runs (under_fits j U) S.0 h in
      λ t. record { system = Y t; rates = rates t; step_size = step_size t; steps = steps t; windows = windows t; warm_up = warm_up t; warm_up_steps = warm_up_steps t; warmed = warmed t; now = now t }

-- ---- the run in front

module _ (n : ℕ) (ns : List ℕ) (m : Memory) (S : Sized m) (h : n < 8) (e : names_in m.queue ≡ n ∷ ns) (c : get_or m.queue 64 0 ≡ suc (length ns)) (few : suc (length ns) ≤ 8) where
  abbrev q : List ℕ
  q = m.queue

  -- it goes on
  module _ (j : Job) (w : ℕ) (r : RunState) (same : job_at n m ≡ j) (U : Under (moved_to j w r)) where
    abbrev new : Job
    new = moved_to j w r

    put_length : length (set (rotated q) (8 * n + 7) w) ≡ 73
    put_length = length-set (rotated q) (8 * n + 7) w ∙ rotated_length q S.2 n ns e c few

    put_tail : drop 64 (set (rotated q) (8 * n + 7) w) ≡ drop 64 (rotated q)
    put_tail = drop-set-lt 64 (rotated q) (8 * n + 7) w (omega (arith, h))

    pub put_sized : Sized (put_back n new m)
    unfolding put_back
    put_sized = (saved_sized n n r m.runs S.0, S.1, put_length)

    pub put_count : get_or (put_back n new m).queue 64 0 ≡ suc (length ns)
    unfolding put_back
    put_count = tail_count (rotated q) (set (rotated q) (8 * n + 7) w) put_tail ∙ rotated_count q S.2 n ns e c few

    pub put_names : names_in (put_back n new m).queue ≡ ns ++ (n ∷ [])
    unfolding put_back
    put_names = tail_names (rotated q) (set (rotated q) (8 * n + 7) w) put_tail ∙ rotated_names q S.2 n ns e c few

    pub put_kept : (k : ℕ) → k ≢ n → k < 8 → Kept k m (put_back n new m)
    unfolding put_back
    put_kept k f g =
        record {
          slot = saved_same n n (dim j.system) j.rates r.totals.finished r m.runs (under_fits new U) k f;
          settings = refl;
          counts = apart (8 * k) 8 (8 * n) 8 (slots_apart 8 k n f) (rotated q) ((8 * n + 7, w ∷ []) ∷ []) (omega arith) ∙ rotated_counts q S.2 n ns e c few k g;
        }

    pub put_tag : tag_at n (put_back n new m).runs ≡ n + 1
    unfolding put_back
    put_tag = saved_tag n n (dim j.system) j.rates r.totals.finished r m.runs (under_fits new U) S.0 h (omega (arith, h)) (under_sound new U)

    stays : (b : ℕ) → 8 * n ≤ b → b < 8 * n + 7 → get_or (set (rotated q) (8 * n + 7) w) b 0 ≡ get_or q b 0
    stays b f g = get_or-set_other (rotated q) (8 * n + 7) b w 0 (λ z. omega (arith, z, g)) ∙ get_inside (8 * n) 8 q (rotated q) (rotated_counts q S.2 n ns e c few n h) 0 b f (omega (arith, g))

    pub put_job : job_at n (put_back n new m) ≡ new
    unfolding put_back
    put_job =
        let m' = put_back n new m in
        let kind = stays (8 * n) (omega arith) (omega arith) in
        let size = stays (8 * n + 1) (omega arith) (omega arith) in
        let rates = stays (8 * n + 2) (omega arith) (omega arith) ∙ ap (λ (x : Job). x.rates) same in
        let steps = stays (8 * n + 3) (omega arith) (omega arith) ∙ ap (λ (x : Job). x.steps) same in
        let windows = stays (8 * n + 4) (omega arith) (omega arith) ∙ ap (λ (x : Job). x.windows) same in
        let warm_up = stays (8 * n + 5) (omega arith) (omega arith) ∙ ap (λ (x : Job). x.warm_up) same in
        let warm_up_steps = stays (8 * n + 6) (omega arith) (omega arith) ∙ ap (λ (x : Job). x.warm_up_steps) same in
        let warmed : get_or (set (rotated q) (8 * n + 7) w) (8 * n + 7) 0 ≡ w = get_or-set_same (rotated q) (8 * n + 7) w 0 (omega (arith, h, rotated_length q S.2 n ns e c few)) in
        let step_size = ap (λ (x : Job). x.step_size) same in
        let Z : system_at n m' ≡ system_at n m = λ t. system (kind t) (get_or m.settings (4 * n + 1) nan) (get_or m.settings (4 * n + 2) nan) (get_or m.settings (4 * n + 3) nan) (size t) in
        let Y : system_at n m' ≡ j.system = Z ∙ ap (λ (x : Job). x.system) same in
        let now : stood_at n (dim (system_at n m')) (job_at n m').rates m'.runs ≡ r =
        ap₂ (λ (d K : ℕ). stood_at n d K m'.runs) (ap dim Y) rates
        ∙ saved_run n n (dim j.system) j.rates r.totals.finished r m.runs (under_fits new U) S.0 h in
        λ t. record { system = Y t; rates = rates t; step_size = step_size t; steps = steps t; windows = windows t; warm_up = warm_up t; warm_up_steps = warm_up_steps t; warmed = warmed t; now = now t }

  -- it is over
  module _ (j : Job) (U : Under j) where
    pub out_sized : Sized (taken_out n j m)
    unfolding taken_out
    out_sized = ((length-sets m.runs.floats (321 * n + 16) (replicate (j.rates * dim j.system) zero⁺) ∙ S.0.0, S.0.1), S.1, length-set (rotated q) 64 (length (names_in q) - 1) ∙ rotated_length q S.2 n ns e c few)

    pub out_count : get_or (taken_out n j m).queue 64 0 ≡ length ns
    unfolding taken_out
    out_count = shortened_count q S.2 n ns e c few

    pub out_names : names_in (taken_out n j m).queue ≡ ns
    unfolding taken_out
    out_names = shortened_names q S.2 n ns e c few

    pub out_kept : (k : ℕ) → k ≢ n → k < 8 → Kept k m (taken_out n j m)
    unfolding taken_out
    out_kept k f g =
        let F = under_fits j U in
        let N = j.rates * dim j.system in
        let y = few_entries j.rates (dim j.system) F.few F.entries in
        record {
          slot =
              record {
                floats = apart (321 * k) 321 (321 * n) 321 (slots_apart 321 k n f) m.runs.floats ((321 * n + 16, replicate N zero⁺) ∷ []) (omega (arith, y, length-replicate N zero⁺));
                counts = refl;
              };
          settings = refl;
          counts = shortened_counts q S.2 n ns e c few k g;
        }
