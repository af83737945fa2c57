-- Runs that take turns: each comes to what it comes to alone.
use Prim.Native.Nat.{ℕ, ◌<◌}
use native.Mathlib.Omega.{arith}
use mathlib.Core.Path.{◌≡◌, refl, sym, ap, ◌∙◌, subst}
use mathlib.Core.Bool.{Bool, true, false}
use mathlib.Core.List.{List, [], ◌∷◌, ◌++◌}
use mathlib.Core.Option.{Option, none, some}
use borrow.Author.Tests.{eqb-true, eq-eqb, leb-false}
use lib.Dec.{eqb, leb, ltb}
use lib.ListN.{length, take, drop}
use lib.Seq.{length-sets}
use lib.Ieee.{Float}
use Rattle.error.specs.Tests.{first_failing}
use Rattle.error.specs.declared.Refusal.{Refusal}
use Rattle.error.proofs.Tests.{both_passed}
use Rattle.benettin.specs.Run.{RunState, Status, ok, refused, Course, output_tests}
use Rattle.system.specs.System.{dim}
use Rattle.system_validation.specs.Tests.{matrix_tests}
use Rattle.benettin.specs.Estimate.{Input, dynamics, problem, problem_within, estimate}
use Rattle.benettin.specs.Outputs as Outputs
use Rattle.benettin.specs.Outputs.{Estimated, estimated, lengths_of, lent}
use Rattle.benettin.proofs.LeadingSpectrum.{leading_fitting, problem_undirected, problem_keeps}
use Rattle.benettin.proofs.Reading.{reads}
use Rattle.turns.specs.Turn.{Job, HandedIn, taken, turned_down, handed_in, Slices, turn_tests, Turned, under_way, over, warming, window_by, left_by, turned_by, turn}
use Rattle.turns.specs.Dispatcher.{Call, hand_in, take_turn, Entry, entry, names, least_free, Served, admitted, received, moved, given, turned, serve, Exchange, exchanges, queue_after}
use Rattle.turns.specs.Alone.{with_matrix, Fits, Lends, Either, Shows, Ends, Answered, ComesTo, Alone, LeadingDispatched}
use Rattle.turns.proofs.Turn.{finish, finish_turned, Going, GoingTurned, turn_law, turn_going}
use Rattle.turns.proofs.HandIn.{finish_handed, GoingHanded, FitsTurn, FitsHanded, hand_in_law, hand_in_going, hand_in_fits}
use Rattle.turns.proofs.Names.{least_unused}
use Rattle.turns.proofs.Queues.{found_by, find, find_append, find_behind, find_none, find_head, Queue, admitted_queue, moved_queue, queue_kept, empty_queue}
use Rattle.turns.proofs.Traces.{drop_exchanges}

-- ---- a turn keeps what fits

abbrev FitsTurned : List Float → Turned → Type 0
FitsTurned m (under_way j z) = FitsTurn j m z
FitsTurned m (over x) = Unit {0}

module _ (j : Job) (m : List Float) (z : Slices) (f : FitsTurn j m z) where
  left_fits : (b : Bool) (t : Course) (c : RunState) → FitsTurned m (left_by b j m z t c)
  left_fits true t c = rw length-sets f
  left_fits false t c = tt

  by_fits : (x : Status) (t : Course) → FitsTurned m (turned_by x j m z t)
  by_fits (ok c) t = left_fits (ltb c.totals.finished j.windows) t c
  by_fits (refused r) t = tt

  turn_fits : FitsTurned m (turn j m z)
  unfolding turn
  turn_fits = by_fits (window_by (warming j) j m).end (window_by (warming j) j m)

-- ---- a run followed to its end

either_true : (b : Bool) (A B : Type 0) → b ≡ true → Either b A B → A
either_true true A B e h = h
either_true false A B e h = let z : ◌≡◌ {A = ℕ} 0 1 = cc in absurd (omega arith)

either_false : (b : Bool) (A B : Type 0) → b ≡ false → Either b A B → B
either_false false A B e h = h
either_false true A B e h = let z : ◌≡◌ {A = ℕ} 0 1 = cc in absurd (omega arith)

module _ (n : ℕ) (m : List Float) where
  -- where n's run is j, and the later calls show its end, it comes to that
  abbrev Rest : List Call → Type 0
  Rest cs = (q : List Entry) (z : Slices) (x : Estimated) (j : Job) → Queue q → find n q ≡ some j → Going j → FitsTurn j m z → Ends n m z x (exchanges q cs) → x ≡ finish j m z

  -- a call is served so, and the later ones follow
  abbrev Goes : List Call → Slices → Estimated → Served → Type 0
  Goes cs z x s = Shows n z x s.reply (λ y. Ends n m y x (exchanges s.queue cs))

  -- its own turn
  own : (cs : List Call) (e : Entry) (q : List Entry) (z : Slices) (x : Estimated) (t : Turned) → Rest cs → n ≡ e.name → Queue (e ∷ q) → GoingTurned t → FitsTurned m t → Goes cs z x (moved e q t) → x ≡ finish_turned m t
  own cs e q z x (under_way j y) rest k w v f h =
      rest (q ++ (entry e.name j ∷ [])) y x j (moved_queue e q (under_way j y) w)
      (find_behind n (entry e.name j ∷ []) q (ap (λ (a : ℕ). find a q) k ∙ w.distinct.0) ∙ ap (λ (a : ℕ). find n (entry a j ∷ [])) (sym k) ∙ find_head n j) v f
      (either_true (eqb n e.name) _ _ (eq-eqb n e.name k) h)
  own cs e q z x (over y) rest k w v f h = either_true (eqb n e.name) _ _ (eq-eqb n e.name k) h

  -- the turn of another run
  other : (cs : List Call) (e : Entry) (q : List Entry) (z : Slices) (x : Estimated) (j : Job) (o : Option Refusal) (m' : List Float) (z' : Slices) → Rest cs → eqb n e.name ≡ false → Queue (e ∷ q)
      → find n (e ∷ q) ≡ some j → find n q ≡ some j → Going j → FitsTurn j m z → Goes cs z x (given o e q m' z') → x ≡ finish j m z
  other cs e q z x j (some r) m' z' rest k w h g v f s = rest (e ∷ q) z x j w h v f s
  other cs e q z x j none m' z' rest k w h g v f s = go (turn e.run m' z') s
    where
      go : (t : Turned) → Goes cs z x (moved e q t) → x ≡ finish j m z
      go (under_way k₁ y) s = rest (q ++ (entry e.name k₁ ∷ [])) z x j (moved_queue e q (under_way k₁ y) w) (find_append n (entry e.name k₁ ∷ []) q j g) v f (either_false (eqb n e.name) _ _ k s)
      go (over y) s = rest q z x j (moved_queue e q (over y) w) g v f (either_false (eqb n e.name) _ _ k s)

  some_same : (i j : Job) → some i ≡ some j → i ≡ j
  some_same i j e = cc

  -- its own turn, with what it is lent
  mine : (cs : List Call) (e : Entry) (q : List Entry) (z : Slices) (x : Estimated) → Rest cs → n ≡ e.name → Queue (e ∷ q) → Going e.run → FitsTurn e.run m z → Goes cs z x (turned (e ∷ q) m z) → x ≡ finish e.run m z
  mine cs e q z x rest k w v f s =
      let s₁ : Goes cs z x (given none e q m z) = subst (λ (o : Option Refusal). Goes cs z x (given o e q m z)) (sym f) s in
      own cs e q z x (turn e.run m z) rest k w (turn_going e.run m z v) (turn_fits e.run m z f) s₁ ∙ sym (turn_law e.run m z v)

  -- a turn, of its own or not
  any_turn : (cs : List Call) (e : Entry) (q : List Entry) (z : Slices) (x : Estimated) (j : Job) (m' : List Float) (z' : Slices) → Rest cs → Queue (e ∷ q) → find n (e ∷ q) ≡ some j → Going j → FitsTurn j m z
      → Lends n m z (some e.name) (take_turn m' z') → Goes cs z x (turned (e ∷ q) m' z') → x ≡ finish j m z
  unfolding find
  any_turn cs e q z x j m' z' rest w h v f l s = go (eqb n e.name) refl h
    where
      lent : n ≡ e.name → Goes cs z x (turned (e ∷ q) m z)
      lent k = let a = l k in subst (λ (u : List Float). Goes cs z x (turned (e ∷ q) u z)) a.0 (subst (λ (u : Slices). Goes cs z x (turned (e ∷ q) m' u)) a.1 s)

      go : (b : Bool) → eqb n e.name ≡ b → found_by b e.run (find n q) ≡ some j → x ≡ finish j m z
      go true k g =
          let same = some_same e.run j g in
          let i = eqb-true n e.name k in
          mine cs e q z x rest i w (subst Going (sym same) v) (subst (λ (r : Job). FitsTurn r m z) (sym same) f) (lent i) ∙ ap (λ (r : Job). finish r m z) same
      go false k g = other cs e q z x j (first_failing (turn_tests e.run m' z')) m' z' rest k w h g v f s

  -- another run is handed in
  handed : (cs : List Call) (q : List Entry) (z : Slices) (x : Estimated) (j : Job) (i : Input) (K : ℕ) → Rest cs → Queue q → find n q ≡ some j → Going j → FitsTurn j m z
      → (b : Bool) → leb 8 (length q) ≡ b → Goes cs z x (received b q i K) → x ≡ finish j m z
  handed cs q z x j i K rest w h v f true e s = rest q z x j w h v f s
  handed cs q z x j i K rest w h v f false e s = go (handed_in i K) s
    where
      go : (r : HandedIn) → Goes cs z x (admitted q r) → x ≡ finish j m z
      go (taken k) s =
          rest (q ++ (entry (least_free (names q)) k ∷ [])) z x j (admitted_queue q (taken k) w (leb-false 8 (length q) e)) (find_append n (entry (least_free (names q)) k ∷ []) q j h) v f s
      go (turned_down r) s = rest q z x j w h v f s

  followed : (cs : List Call) → Rest cs
  unfolding Ends serve find exchanges
  followed [] q z x j w h v f s = absurd s
  followed (hand_in i K ∷ cs) q z x j w h v f s = handed cs q z x j i K (followed cs) w h v f (leb 8 (length q)) refl s.1
  followed (take_turn m' z' ∷ cs) [] z x j w h v f s = let y : ◌≡◌ {A = ℕ} 0 1 = cc in absurd (omega arith)
  followed (take_turn m' z' ∷ cs) (e ∷ q) z x j w h v f s = any_turn cs e q z x j m' z' (followed cs) w h v f s.0 s.1

-- ---- from the hand_in on

module _ (q : List Entry) (w : Queue q) (cs : List Call) (i : Input) (K : ℕ) (m : List Float) (z : Slices) (x : Estimated) where
  abbrev Comes : Served → Type 0
  Comes s = Answered s.reply K m z x (exchanges s.queue cs)

  from_admitted : (h : HandedIn) → length q < 8 → GoingHanded h → FitsHanded m z h → Comes (admitted q h) → x ≡ finish_handed K m z h
  from_admitted (taken j) l v f s =
      let n = least_free (names q) in
      let c = entry n j in
      followed n m cs (q ++ (c ∷ [])) z x j (admitted_queue q (taken j) w l) (find_behind n (c ∷ []) q (find_none n q (least_unused (names q))) ∙ find_head n j) v f s
  from_admitted (turned_down r) l v f s = s.1

  from_received : (b : Bool) → leb 8 (length q) ≡ b → Fits i K m z → Comes (received b q i K) → x ≡ finish_handed K m z (handed_in i K)
  from_received true e f s = absurd (s.0 refl)
  from_received false e f s = from_admitted (handed_in i K) (leb-false 8 (length q) e) (hand_in_going i K) (hand_in_fits i K m z f) s

  pub comes_alone : Fits i K m z → Comes (serve q (hand_in i K)) → x ≡ estimated (with_matrix m i) K z.rows z.exponents z.final_state
  unfolding serve
  comes_alone f s = from_received (leb 8 (length q)) refl f s ∙ hand_in_law i K m z f

comes_to : (q : List Entry) → Queue q → (cs : List Call) (i : Input) (K : ℕ) (m : List Float) (z : Slices) (x : Estimated) → Fits i K m z → ComesTo i K m z x (exchanges q cs)
    → x ≡ estimated (with_matrix m i) K z.rows z.exponents z.final_state
unfolding ComesTo exchanges
comes_to q w [] i K m z x f s = absurd s
comes_to q w (c ∷ cs) i K m z x f s = comes_alone q w cs i K m z x f (subst (λ (d : Call). Answered (serve q d).reply K m z x (exchanges (serve q d).queue cs)) s.0 s.1)

pub alone : (cs : List Call) → Alone (exchanges [] cs)
alone cs a i K m z x f s =
    let q = queue_after [] (take a cs) in
    comes_to q (queue_kept (take a cs) [] empty_queue) (drop a cs) i K m z x f (subst (ComesTo i K m z x) (drop_exchanges a [] cs) s)

-- ---- demand 3, of any two runs that are calls of the run alone

fits_outputs : (i : Input) (K : ℕ) (m : List Float) (z : Slices) → Fits i K m z → none ≡ first_failing (output_tests K (dim i.system) i.windows (lengths_of z.rows z.exponents z.final_state))
fits_outputs i K m z f = (both_passed (matrix_tests i.system m) (output_tests K (dim i.system) i.windows (lengths_of z.rows z.exponents z.final_state)) f).1

pub leading_dispatched : (es fs : List Exchange) → Alone es → Alone fs → LeadingDispatched es fs
unfolding estimate problem problem_within dynamics
leading_dispatched es fs A B a b i k K m z w x y hk h hK f s g t =
    let j = with_matrix m i in
    let c = Outputs.call z.rows z.exponents z.final_state x in
    let e = Outputs.call w.rows w.exponents w.final_state y in
    rw (reads j k c (A a i k m z x f s), reads j K e (B b i K m w y g t))
    (leading_fitting (problem j) (problem_undirected i.windows j) (problem_keeps j) k K (lent c) (lent e) hk h hK (fits_outputs i k m z f) (fits_outputs i K m w g))
