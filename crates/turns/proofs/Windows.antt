-- The turns that are spent are the windows that are begun.
use Prim.Native.Nat.{ℕ, zero, suc, ◌+◌, ◌<◌}
use native.Mathlib.Omega.{arith}
use mathlib.Core.Path.{◌≡◌, refl, sym, ap, ◌∙◌}
use mathlib.Core.Bool.{Bool, true, false, cond}
use mathlib.Core.Logic.{◌≢◌}
use mathlib.Core.List.{List, [], ◌∷◌, ◌++◌}
use mathlib.Core.Option.{Option, none, some}
use borrow.Author.Tests.{eqb-true, eqb-false, ne_eqb, eq-eqb}
use lib.Dec.{eqb, leb, ltb}
use lib.ListN.{length, length-append}
use lib.Ieee.{Float}
use Rattle.error.specs.Tests.{first_failing}
use Rattle.error.specs.declared.Refusal.{Refusal}
use Rattle.benettin.specs.Run.{Status, ok, refused, row, measured, with_row, accumulate, window}
use Rattle.benettin.specs.Estimate.{Input}
use Rattle.benettin.proofs.Either.{Either}
use Rattle.benettin.proofs.Sizes.{HasLogs, Holds, accumulate_has}
use Rattle.turns.specs.Turn.{Job, begun, HandedIn, taken, turned_down, taken_at, drawn, handed_in_past, handed_in, hand_in_tests, Slices, turn_tests, motion, Turned, under_way, over, warming, window_by, left_by, turned_by, turn}
use Rattle.turns.specs.Dispatcher.{Call, hand_in, take_turn, Entry, entry, names, least_free, Served, admitted, received, moved, given, serve, exchanges}
use Rattle.turns.specs.Queue.{spent_by, spent, over_by, begun_by_over, begun_by, begun_from, sum_below, TurnsAreWindows}
use Rattle.turns.proofs.Turn.{Going, GoingTurned, next, turn_going}
use Rattle.turns.proofs.HandIn.{Nothing, Fresh, drawn_fresh, GoingHanded, hand_in_going}
use Rattle.turns.proofs.Names.{least_unused}
use Rattle.turns.proofs.Queues.{found_by, find, find_append, find_behind, find_none, Queue, serve_queue, empty_queue}

-- ---- a turn begins one window

abbrev BegunTurned : Job → Turned → Type 0
BegunTurned j (under_way k z) = begun k ≡ suc (begun j)
BegunTurned j (over x) = Unit {0}

module _ (j : Job) (m : List Float) (z : Slices) (G : Going j) where
  abbrev Next : Status → Type 0
  Next = Holds (HasLogs (length j.now.motion.state) j.rates j.now.totals.finished) j.now.totals.finished

  warm_up_begun : (x : Status) → Next x → warming j ≡ true → BegunTurned j (turned_by x j m z (record { rows = []; end = x }))
  warm_up_begun (ok c) h e = go (ltb c.totals.finished j.windows)
    where
      go : (b : Bool) → BegunTurned j (left_by b j m z (record { rows = []; end = ok c }) c)
      go true = rw e (omega (arith, h.has.finished))
      go false = tt
  warm_up_begun (refused r) h e = tt

  measured_begun : (x : Status) → Next x → warming j ≡ false → BegunTurned j (turned_by (with_row (motion j m) x (measured (motion j m) j.steps 0)).end j m z (with_row (motion j m) x (measured (motion j m) j.steps 0)))
  unfolding with_row measured
  measured_begun (ok c) h e = go (ltb (accumulate c).totals.finished j.windows)
    where
      go : (b : Bool) → BegunTurned j (left_by b j m z (record { rows = row (motion j m) (accumulate c) ∷ []; end = ok (accumulate c) }) (accumulate c))
      go true = rw e (omega (arith, (accumulate_has _ j.rates j.now.totals.finished c h).has.finished))
      go false = tt
  measured_begun (refused r) h e = tt

  begun_warming : (b : Bool) → warming j ≡ b → BegunTurned j (turned_by (window_by b j m).end j m z (window_by b j m))
  unfolding measured
  begun_warming true e = warm_up_begun (window (motion j m) j.warm_up_steps j.now) (next j m z G j.warm_up_steps) e
  begun_warming false e = measured_begun (window (motion j m) j.steps j.now) (next j m z G j.steps) e

  turn_begun : BegunTurned j (turn j m z)
  unfolding turn
  turn_begun = begun_warming (warming j) refl

-- ---- sums in which one number changes

sum_same : (N : ℕ) (f g : ℕ → ℕ) → ((n : ℕ) → f n ≡ g n) → sum_below N f ≡ sum_below N g
unfolding sum_below
sum_same zero f g h = refl
sum_same (suc N) f g h = omega (arith, h N, sum_same N f g h)

sum_changed : (N k : ℕ) (f g : ℕ → ℕ) → k < N → ((n : ℕ) → n ≢ k → f n ≡ g n) → sum_below N f + g k ≡ sum_below N g + f k
unfolding sum_below
sum_changed zero k f g l h = absurd (omega (arith, l))
sum_changed (suc N) k f g l h = go (eqb k N) refl (sum_changed N k f g)
  where
    below : (M : ℕ) → ((n : ℕ) → n < M → f n ≡ g n) → sum_below M f ≡ sum_below M g
    below zero e = refl
    below (suc M) e = omega (arith, e M (omega arith), below M (λ n u. e n (omega (arith, u))))

    go : (b : Bool) → eqb k N ≡ b → (k < N → ((n : ℕ) → n ≢ k → f n ≡ g n) → sum_below N f + g k ≡ sum_below N g + f k) → (f N + sum_below N f) + g k ≡ (g N + sum_below N g) + f k
    go true e r =
        let z = eqb-true k N e in
        let a : f N ≡ f k = ap f (sym z) in
        let b : g N ≡ g k = ap g (sym z) in
        omega (arith, a, b, below N (λ n u. h n (λ w. omega (arith, u, w, z))))
    go false e r = let y = eqb-false k N e in omega (arith, h N (λ w. y (sym w)), r (omega (arith, l, y)) h)

-- ---- how many windows the run named n has begun

abbrev begun_of : Option Job → ℕ
begun_of none = 0
begun_of (some j) = begun j

abbrev counts : List Entry → ℕ → ℕ
counts q n = begun_of (find n q)

-- one more at the back, under a name that nobody had
counts_back : (n : ℕ) (q : List Entry) (k : ℕ) (j : Job) → find k q ≡ none → counts (q ++ (entry k j ∷ [])) n ≡ cond (eqb n k) (begun j) (counts q n)
unfolding find
counts_back n q k j h = go (eqb n k) refl (find n q) refl
  where
    last : (b : Bool) → eqb n k ≡ b → find n (entry k j ∷ []) ≡ found_by b j none
    last b e = rw e

    go : (b : Bool) → eqb n k ≡ b → (o : Option Job) → find n q ≡ o → counts (q ++ (entry k j ∷ [])) n ≡ cond b (begun j) (begun_of o)
    go true e o f = ap begun_of (find_behind n (entry k j ∷ []) q (ap (λ (a : ℕ). find a q) (eqb-true n k e) ∙ h) ∙ last true e)
    go false e none f = ap begun_of (find_behind n (entry k j ∷ []) q f ∙ last false e)
    go false e (some i) f = ap begun_of (find_append n (entry k j ∷ []) q i f)

-- without the first
counts_front : (n : ℕ) (e : Entry) (q : List Entry) → counts (e ∷ q) n ≡ cond (eqb n e.name) (begun e.run) (counts q n)
unfolding find
counts_front n e q = go (eqb n e.name)
  where
    go : (b : Bool) → begun_of (found_by b e.run (find n q)) ≡ cond b (begun e.run) (counts q n)
    go true = refl
    go false = refl

-- ---- a call: its replies tell the counts, and the sum grows by the turn that is spent

pub record Tells (q : List Entry) (s : Served) : Type 0 where
  pub each : (n : ℕ) → begun_by n s.reply (counts q n) ≡ counts s.queue n
  pub all : length (spent_by s.reply) + sum_below 8 (counts q) ≡ over_by s.reply + sum_below 8 (counts s.queue)

cond_same : (b : Bool) (x : ℕ) → cond b x x ≡ x
cond_same true x = refl
cond_same false x = refl

module _ (e : Entry) (q : List Entry) (w : Queue (e ∷ q)) where
  abbrev k : ℕ
  k = e.name

  -- of the name itself, and of the others
  own : counts (e ∷ q) k ≡ begun e.run
  own = counts_front k e q ∙ rw (eq-eqb k k refl)

  gone : counts q k ≡ 0
  gone = ap begun_of w.distinct.0

  others : (n : ℕ) → n ≢ k → counts (e ∷ q) n ≡ counts q n
  others n h = counts_front n e q ∙ rw (ne_eqb n k h)

  tells_moved : (t : Turned) → BegunTurned e.run t → Tells (e ∷ q) (moved e q t)
  tells_moved (under_way j z) b = record { each = λ n. each n ∙ sym (back n); all = all }
    where
      back : (n : ℕ) → counts (q ++ (entry k j ∷ [])) n ≡ cond (eqb n k) (begun j) (counts q n)
      back n = counts_back n q k j w.distinct.0

      each : (n : ℕ) → cond (eqb n k) (suc (begun e.run)) (counts (e ∷ q) n) ≡ cond (eqb n k) (begun j) (counts q n)
      each n = go (eqb n k) refl
        where
          go : (a : Bool) → eqb n k ≡ a → cond a (suc (begun e.run)) (counts (e ∷ q) n) ≡ cond a (begun j) (counts q n)
          go true f = sym b
          go false f = others n (eqb-false n k f)

      all : 1 + sum_below 8 (counts (e ∷ q)) ≡ 0 + sum_below 8 (counts (q ++ (entry k j ∷ [])))
      all =
          let new : counts (q ++ (entry k j ∷ [])) k ≡ begun j = back k ∙ rw (eq-eqb k k refl) in
          let c = sum_changed 8 k (counts (e ∷ q)) (counts (q ++ (entry k j ∷ []))) w.small.0 (λ n h. others n h ∙ sym (back n ∙ rw (ne_eqb n k h))) in
          omega (arith, c, own, new, b)
  tells_moved (over x) b = record { each = each; all = all }
    where
      each : (n : ℕ) → cond (eqb n k) 0 (counts (e ∷ q) n) ≡ counts q n
      each n = go (eqb n k) refl
        where
          go : (a : Bool) → eqb n k ≡ a → cond a 0 (counts (e ∷ q) n) ≡ counts q n
          go true f = sym (ap (counts q) (eqb-true n k f) ∙ gone)
          go false f = others n (eqb-false n k f)

      all : 1 + sum_below 8 (counts (e ∷ q)) ≡ suc (begun e.run) + sum_below 8 (counts q)
      all = let c = sum_changed 8 k (counts (e ∷ q)) (counts q) w.small.0 others in omega (arith, c, own, gone)

  tells_given : (o : Option Refusal) (m : List Float) (z : Slices) → Going e.run → Tells (e ∷ q) (given o e q m z)
  tells_given (some r) m z G = record { each = λ n. refl; all = refl }
  tells_given none m z G = tells_moved (turn e.run m z) (turn_begun e.run m z G)

-- ---- a run that is handed in has begun none

abbrev BegunHanded : HandedIn → Type 0
BegunHanded (taken j) = begun j ≡ 0
BegunHanded (turned_down r) = Unit {0}

hand_in_begun : (i : Input) (K : ℕ) → BegunHanded (handed_in i K)
unfolding handed_in
hand_in_begun i K = go (first_failing (hand_in_tests i K))
  where
    at : (x : Status) → Either Fresh Nothing x → BegunHanded (taken_at i K x)
    at (ok c) h = omega (arith, h.0)
    at (refused r) h = tt

    go : (o : Option Refusal) → BegunHanded (handed_in_past o i K)
    go (some r) = tt
    go none = at (drawn i K) (drawn_fresh i K)

-- ---- every run of the queue is going

abbrev AllGoing : List Entry → Type 0
AllGoing [] = Unit {0}
AllGoing (e ∷ q) = Going e.run × AllGoing q

tells_admitted : (q : List Entry) (h : HandedIn) → BegunHanded h → Tells q (admitted q h)
tells_admitted q (taken j) b = record { each = λ n. sym (same n); all = ap (λ (s : ℕ). 0 + s) (sum_same 8 (counts q) (counts (q ++ (entry k j ∷ []))) (λ n. sym (same n))) }
  where
    k : ℕ
    k = least_free (names q)

    free : find k q ≡ none
    free = find_none k q (least_unused (names q))

    same : (n : ℕ) → counts (q ++ (entry k j ∷ [])) n ≡ counts q n
    same n = counts_back n q k j free ∙ go (eqb n k) refl
      where
        go : (a : Bool) → eqb n k ≡ a → cond a (begun j) (counts q n) ≡ counts q n
        go true f = b ∙ sym (ap (counts q) (eqb-true n k f) ∙ ap begun_of free)
        go false f = refl
tells_admitted q (turned_down r) b = record { each = λ n. refl; all = refl }

tells_received : (b : Bool) (q : List Entry) (i : Input) (K : ℕ) → Tells q (received b q i K)
tells_received true q i K = record { each = λ n. refl; all = refl }
tells_received false q i K = tells_admitted q (handed_in i K) (hand_in_begun i K)

tells : (q : List Entry) (c : Call) → Queue q → AllGoing q → Tells q (serve q c)
unfolding serve
tells q (hand_in i K) w g = tells_received (leb 8 (length q)) q i K
tells [] (take_turn m z) w g = record { each = λ n. refl; all = refl }
tells (e ∷ q) (take_turn m z) w g = tells_given e q w (first_failing (turn_tests e.run m z)) m z g.0

going_back : (q : List Entry) (k : ℕ) (j : Job) → Going j → AllGoing q → AllGoing (q ++ (entry k j ∷ []))
going_back [] k j h g = (h, tt)
going_back (e ∷ q) k j h g = (g.0, going_back q k j h g.1)

going_admitted : (q : List Entry) (h : HandedIn) → GoingHanded h → AllGoing q → AllGoing (admitted q h).queue
going_admitted q (taken j) h g = going_back q (least_free (names q)) j h g
going_admitted q (turned_down r) h g = g

going_received : (b : Bool) (q : List Entry) (i : Input) (K : ℕ) → AllGoing q → AllGoing (received b q i K).queue
going_received true q i K g = g
going_received false q i K g = going_admitted q (handed_in i K) (hand_in_going i K) g

going_moved : (e : Entry) (q : List Entry) (t : Turned) → GoingTurned t → AllGoing q → AllGoing (moved e q t).queue
going_moved e q (under_way j z) h g = going_back q e.name j h g
going_moved e q (over x) h g = g

going_given : (o : Option Refusal) (e : Entry) (q : List Entry) (m : List Float) (z : Slices) → AllGoing (e ∷ q) → AllGoing (given o e q m z).queue
going_given (some r) e q m z g = g
going_given none e q m z g = going_moved e q (turn e.run m z) (turn_going e.run m z g.0) g.1

going_served : (q : List Entry) (c : Call) → AllGoing q → AllGoing (serve q c).queue
unfolding serve
going_served q (hand_in i K) g = going_received (leb 8 (length q)) q i K g
going_served [] (take_turn m z) g = g
going_served (e ∷ q) (take_turn m z) g = going_given (first_failing (turn_tests e.run m z)) e q m z g

-- ---- every list of calls

counted : (cs : List Call) (q : List Entry) → Queue q → AllGoing q
    → length (spent (exchanges q cs)) + sum_below 8 (counts q) ≡ begun_by_over (exchanges q cs) + sum_below 8 (λ n. begun_from (counts q n) n (exchanges q cs))
unfolding exchanges spent begun_by_over begun_from
counted [] q w g = refl
counted (c ∷ cs) q w g =
    let s = serve q c in
    let t = tells q c w g in
    let es = exchanges s.queue cs in
    let h = counted cs s.queue (serve_queue q c w) (going_served q c g) in
    let a = length-append (spent_by s.reply) (spent es) in
    let b = sum_same 8 (λ n. begun_from (begun_by n s.reply (counts q n)) n es) (λ n. begun_from (counts s.queue n) n es) (λ n. ap (λ (k : ℕ). begun_from k n es) (t.each n)) in
    omega (arith, a, b, h, t.all)

pub turns_are_windows : (cs : List Call) → TurnsAreWindows (exchanges [] cs)
unfolding find sum_below
turns_are_windows cs = let c = counted cs [] empty_queue tt in omega (arith, c)
