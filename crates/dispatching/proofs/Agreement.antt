-- What lent memory holds is the queue of the dispatcher, and so each call is answered the same.
use Prim.Native.Nat.{ℕ, suc, ◌+◌, ◌≤◌, ◌<◌}
use native.Mathlib.Omega.{arith}
use mathlib.Core.Path.{◌≡◌, refl, sym, ap, ap₂, subst, ◌∙◌}
use mathlib.Core.Bool.{Bool, true, false, cond, ◌&&◌, not}
use mathlib.Core.Logic.{◌≢◌}
use mathlib.Core.List.{List, [], ◌∷◌, ◌++◌}
use mathlib.Core.Option.{Option, none, some}
use borrow.Author.Tests.{eqb-false, ne_eqb, lt-ltb, le-leb, leb-false}
use lib.Dec.{leb, eqb}
use lib.ListN.{length, get_or, length-append, length-map}
use lib.Ieee.{Float}
use Rattle.error.specs.Tests.{first_failing}
use Rattle.error.specs.declared.Refusal.{Refusal}
use Rattle.system.specs.System.{dim}
use Rattle.benettin.specs.Run.{RunState}
use Rattle.benettin.specs.Estimate.{Input}
use Rattle.turns.specs.Turn.{Job, begun, HandedIn, taken, turned_down, handed_in, Slices, turn_tests, Turned, under_way, over, turn}
use Rattle.turns.specs.Dispatcher as Dispatcher
use Rattle.turns.specs.Dispatcher.{Call, hand_in, take_turn, named, unfit, least_free, Entry, entry, names, next, admitted, received, moved, given, serve, exchange, exchanges}
use Rattle.turns.proofs.Names.{least_unused, least_most}
use Rattle.turns.proofs.Queues.{find, found_by, find_none, Small, Queue, admitted_queue, moved_queue, empty_queue}
use Rattle.store.specs.Slots.{tag_at}
use Rattle.schedule.specs.Schedule.{Memory, names_in, first_name, next_in, job_at, unfinished, sound_at, ready_at, front, laid_counts, taken_in, put_back, taken_out, emptied}
use Rattle.schedule.specs.Promises.{Sized}
use Rattle.dispatching.specs.Served.{Served, served, admitted_in, received_in, moved_in, given_in, turned_in, serve_in, exchanges_in}
use Rattle.dispatching.specs.Dispatched.{Agreement}
use Rattle.dispatching.proofs.Going.{Under, under_fits, UnderHanded, hand_in_under, moved_to, UnderTurned, turn_under}
use Rattle.dispatching.proofs.Memory.{Kept, kept_tag, kept_job, tail_count, tail_names, lengthened_count, lengthened_names, laid_length, laid_tail, taken_sized, taken_kept, taken_tag, taken_job}
use Rattle.dispatching.proofs.Memory.{put_sized, put_count, put_names, put_kept, put_tag, put_job, out_sized, out_count, out_names, out_kept}

-- ---- what memory holds of each run of the queue

record Entered (m : Memory) (e : Entry) : Type 0 where
  run : job_at e.name m ≡ e.run
  tag : tag_at e.name m.runs ≢ 0
  under : Under e.run

abbrev Each : Memory → List Entry → Type 0
Each m [] = Unit {0}
Each m (e ∷ q) = Entered m e × Each m q

record Holds (m : Memory) (q : List Entry) : Type 0 where
  sized : Sized m
  count : get_or m.queue 64 0 ≡ length q
  names : names_in m.queue ≡ names q
  queue : Queue q
  each : Each m q

entered_kept : (m m' : Memory) (e : Entry) → Kept e.name m m' → Entered m e → Entered m' e
entered_kept m m' e s h =
    let F = under_fits e.run h.under in
    let d = subst (λ (j : Job). dim j.system ≤ 16) (sym h.run) F.entries in
    let r = subst (λ (j : Job). j.rates ≤ 16) (sym h.run) F.few in
    record { run = kept_job e.name m m' s d r ∙ h.run; tag = λ z. h.tag (sym (kept_tag e.name m m' s) ∙ z); under = h.under }

-- all runs stay but the one named n, and that is not among them
each_kept : (n : ℕ) (m m' : Memory) → ((k : ℕ) → k ≢ n → k < 8 → Kept k m m') → (q : List Entry) → find n q ≡ none → Small q → Each m q → Each m' q
unfolding find
each_kept n m m' s [] f l h = tt
each_kept n m m' s (e ∷ q) f l h = go (eqb n e.name) refl f (λ g. each_kept n m m' s q g l.1 h.1)
  where
    go : (b : Bool) → eqb n e.name ≡ b → found_by b e.run (find n q) ≡ none → (find n q ≡ none → Each m' q) → Each m' (e ∷ q)
    go true g u r = let z : ◌≡◌ {A = ℕ} 0 1 = cc in absurd (omega arith)
    go false g u r = (entered_kept m m' e (s e.name (λ z. eqb-false n e.name g (sym z)) l.0) h.0, r u)

each_back : (m : Memory) (q : List Entry) (e : Entry) → Each m q → Entered m e → Each m (q ++ (e ∷ []))
each_back m [] e h g = (g, tt)
each_back m (x ∷ q) e h g = (h.0, each_back m q e h.1 g)

names_back : (q : List Entry) (n : ℕ) (j : Job) → names (q ++ (entry n j ∷ [])) ≡ names q ++ (n ∷ [])
names_back [] n j = refl
names_back (e ∷ q) n j = ap (λ (l : List ℕ). e.name ∷ l) (names_back q n j)

names_length : (q : List Entry) → length (names q) ≡ length q
names_length q = length-map q (λ (e : Entry). e.name)

-- a call is answered the same, and memory holds the queue that it leaves
abbrev Right : Served → Dispatcher.Served → Type 0
Right x y = (x.reply ≡ y.reply) × Holds x.memory y.queue

-- ---- handing in

module _ (m : Memory) (q : List Entry) (H : Holds m q) where
  module _ (few : length q < 8) where
    held : (n : ℕ) (j : Job) → n ≡ least_free (names q) → Under j → Holds (taken_in n j m) (q ++ (entry n j ∷ []))
    unfolding taken_in
    held n j e U =
        let S = H.sized in
        let h : n < 8 = omega (arith, e, least_most (names q), names_length q, few) in
        let f : find n q ≡ none = subst (λ (k : ℕ). find k q ≡ none) (sym e) (find_none (least_free (names q)) q (least_unused (names q))) in
        let L = laid_counts n j m.queue in
        let l = laid_length n j m U S h in
        let x : names_in L ≡ names q = tail_names m.queue L (laid_tail n j m U S h) ∙ H.names in
        let y : length (names_in L) ≡ length q = ap length x ∙ names_length q in
        let c : get_or L 64 0 ≡ length (names_in L) = tail_count m.queue L (laid_tail n j m U S h) ∙ H.count ∙ sym y in
        record {
          sized = taken_sized n j m U S h;
          count = lengthened_count L l n c (omega (arith, y, few)) ∙ ap (λ (k : ℕ). k + 1) y ∙ sym (length-append q (entry n j ∷ []));
          names = lengthened_names L l n c (omega (arith, y, few)) ∙ ap (λ (k : List ℕ). k ++ (n ∷ [])) x ∙ sym (names_back q n j);
          queue = subst (λ (k : ℕ). Queue (q ++ (entry k j ∷ []))) (sym e) (admitted_queue q (taken j) H.queue few);
          each =
              each_back (taken_in n j m) q (entry n j) (each_kept n m (taken_in n j m) (taken_kept n j m U S h) q f H.queue.small H.each)
              (record { run = taken_job n j m U S h; tag = λ z. omega (arith, z, taken_tag n j m U S h); under = U });
        }

    admitted_right : (h : HandedIn) → UnderHanded h → Right (admitted_in h m) (admitted q h)
    admitted_right (taken j) U =
        let n = least_free (names q) in
        subst (λ (k : ℕ). Right (served (taken_in k j m) (named k)) (admitted q (taken j))) (sym (ap least_free H.names)) (refl, held n j refl U)
    admitted_right (turned_down r) U = (refl, H)

  received_right : (b : Bool) (i : Input) (K : ℕ) → leb 8 (length q) ≡ b → Right (received_in b i K m) (received b q i K)
  received_right true i K e = (refl, H)
  received_right false i K e = admitted_right (leb-false 8 (length q) e) (handed_in i K) (hand_in_under i K)

-- ---- a turn

next_right : (m : Memory) (q : List Entry) → Holds m q → next_in m.queue ≡ next q
next_right m [] H = ap first_name H.names
next_right m (e ∷ q) H = ap first_name H.names ∙ rw (lt-ltb e.name 8 H.queue.small.0)

under_unfinished : (j : Job) → Under j → unfinished j ≡ true
under_unfinished j U = rw (← U.passed, lt-ltb j.now.totals.finished j.windows U.windows, le-leb j.warmed j.warm_up U.warmed)

entered_sound : (m : Memory) (e : Entry) → Entered m e → sound_at e.name m ≡ true
unfolding sound_at
entered_sound m e h =
    let u : unfinished (job_at e.name m) ≡ true = ap unfinished h.run ∙ under_unfinished e.run h.under in
    let t : eqb (tag_at e.name m.runs) 0 ≡ false = ne_eqb (tag_at e.name m.runs) 0 h.tag in
    ap₂ (λ (a b : Bool). not a && b) t u

module _ (m : Memory) (e : Entry) (q : List Entry) (H : Holds m (e ∷ q)) where
  abbrev n : ℕ
  n = e.name

  front_right : front m ≡ some n
  front_right = ap (λ (o : Option ℕ). ready_at o m) (next_right m (e ∷ q) H) ∙ ap (λ (b : Bool). cond b (some n) none) (entered_sound m e H.each.0)

  h : n < 8
  h = H.queue.small.0

  c : get_or m.queue 64 0 ≡ suc (length (names q))
  c = H.count ∙ ap suc (sym (names_length q))

  few : suc (length (names q)) ≤ 8
  few = omega (arith, names_length q, H.queue.most)

  others : (m' : Memory) → ((k : ℕ) → k ≢ n → k < 8 → Kept k m m') → Each m' q
  others m' s = each_kept n m m' s q H.queue.distinct.0 H.queue.small.1 H.each.1

  put_right : (j : Job) → j ≡ moved_to e.run j.warmed j.now → Under j → Queue (q ++ (entry n j ∷ [])) → Holds (put_back n j m) (q ++ (entry n j ∷ []))
  put_right j f U Q =
      subst (λ (k : Job). Holds (put_back n k m) (q ++ (entry n k ∷ []))) (sym f)
      (go j.warmed j.now (subst Under f U) (subst (λ (k : Job). Queue (q ++ (entry n k ∷ []))) f Q))
    where
      go : (w : ℕ) (r : RunState) → Under (moved_to e.run w r) → Queue (q ++ (entry n (moved_to e.run w r) ∷ [])) → Holds (put_back n (moved_to e.run w r) m) (q ++ (entry n (moved_to e.run w r) ∷ []))
      go w r U Q =
          let k = moved_to e.run w r in
          let S = H.sized in
          let E = H.each.0.run in
          record {
            sized = put_sized n (names q) m S h H.names c few e.run w r E U;
            count = put_count n (names q) m S h H.names c few e.run w r E U ∙ ap suc (names_length q) ∙ omega arith ∙ sym (length-append q (entry n k ∷ []));
            names = put_names n (names q) m S h H.names c few e.run w r E U ∙ sym (names_back q n k);
            queue = Q;
            each =
                each_back (put_back n k m) q (entry n k) (others (put_back n k m) (put_kept n (names q) m S h H.names c few e.run w r E U))
                (record { run = put_job n (names q) m S h H.names c few e.run w r E U; tag = λ z. omega (arith, z, put_tag n (names q) m S h H.names c few e.run w r E U); under = U });
          }

  out_right : Queue q → Holds (taken_out n e.run m) q
  out_right Q =
      let S = H.sized in
      let U = H.each.0.under in
      record {
        sized = out_sized n (names q) m S h H.names c few e.run U;
        count = out_count n (names q) m S h H.names c few e.run U ∙ names_length q;
        names = out_names n (names q) m S h H.names c few e.run U;
        queue = Q;
        each = others (taken_out n e.run m) (out_kept n (names q) m S h H.names c few e.run U);
      }

  moved_right : (t : Turned) → UnderTurned e.run t → Right (moved_in n e.run t m) (moved e q t)
  moved_right (under_way k z) U = (refl, put_right k U.1 U.0 (moved_queue e q (under_way k z) H.queue))
  moved_right (over x) U = (refl, out_right (moved_queue e q (over x) H.queue))

  given_right : (o : Option Refusal) (a : List Float) (z : Slices) → Right (given_in o n a z m) (given o e q a z)
  given_right (some r) a z = (ap (λ (j : Job). unfit n (begun j) r) H.each.0.run, H)
  given_right none a z =
      subst (λ (j : Job). Right (moved_in n j (turn j a z) m) (moved e q (turn e.run a z))) (sym H.each.0.run) (moved_right (turn e.run a z) (turn_under e.run a z H.each.0.under))

  turned_right : (a : List Float) (z : Slices) → Right (turned_in (front m) a z m) (given (first_failing (turn_tests e.run a z)) e q a z)
  turned_right a z =
      let o = ap (λ (j : Job). first_failing (turn_tests j a z)) H.each.0.run in
      subst (λ (f : Option ℕ). Right (turned_in f a z m) (given (first_failing (turn_tests e.run a z)) e q a z)) (sym front_right)
      (subst (λ (r : Option Refusal). Right (given_in r n a z m) (given (first_failing (turn_tests e.run a z)) e q a z)) (sym o) (given_right (first_failing (turn_tests e.run a z)) a z))

-- ---- every list of calls

serve_right : (m : Memory) (q : List Entry) (c : Call) → Holds m q → Right (serve_in m c) (serve q c)
unfolding serve_in serve
serve_right m q (hand_in i K) H = subst (λ (k : ℕ). Right (received_in (leb 8 k) i K m) (received (leb 8 (length q)) q i K)) (sym H.count) (received_right m q H (leb 8 (length q)) i K refl)
serve_right m [] (take_turn a z) H =
    let f : front m ≡ none = ap (λ (o : Option ℕ). ready_at o m) (next_right m [] H) in
    subst (λ (o : Option ℕ). Right (turned_in o a z m) (Dispatcher.turned [] a z)) (sym f) (refl, H)
serve_right m (e ∷ q) (take_turn a z) H = turned_right m e q H a z

agrees : (cs : List Call) (m : Memory) (q : List Entry) → Holds m q → exchanges_in m cs ≡ exchanges q cs
unfolding exchanges_in exchanges
agrees [] m q H = refl
agrees (c ∷ cs) m q H =
    let x = serve_right m q c H in
    let n = next_right m q H in
    let r = x.0 in
    let t = agrees cs (serve_in m c).memory (serve q c).queue x.1 in
    λ i. exchange c (n i) (r i) ∷ t i

empty : (m : Memory) → Sized m → Holds (emptied m) []
empty m S = record { sized = (S.0, S.1, refl); count = refl; names = refl; queue = empty_queue; each = tt }

pub agreement : Agreement
agreement m cs S = agrees cs (emptied m) [] (empty m S)
