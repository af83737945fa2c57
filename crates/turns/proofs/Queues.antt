-- The queue of a dispatcher: runs by their names, which differ and are below 8, and at most eight of them.
use Prim.Native.Nat.{ℕ, ◌≤◌, ◌<◌}
use native.Mathlib.Omega.{arith}
use mathlib.Core.Path.{◌≡◌, refl, sym, ◌∙◌}
use mathlib.Core.Bool.{Bool, true, false, cond}
use mathlib.Core.List.{List, [], ◌∷◌, ◌++◌}
use mathlib.Core.Option.{Option, none, some}
use borrow.Author.Tests.{eqb-true, eqb-false, eq-eqb, leb-false}
use lib.Dec.{eqb, leb}
use lib.ListN.{length, length-append, length-map}
use lib.Ieee.{Float}
use Rattle.error.specs.Tests.{first_failing}
use Rattle.error.specs.declared.Refusal.{Refusal}
use Rattle.benettin.specs.Estimate.{Input}
use Rattle.turns.specs.Turn.{Job, HandedIn, taken, turned_down, handed_in, Slices, turn_tests, Turned, under_way, over, turn}
use Rattle.turns.specs.Dispatcher.{Call, hand_in, take_turn, Entry, entry, names, member, least_free, admitted, received, moved, given, serve, queue_after}
use Rattle.turns.proofs.Names.{least_unused, least_most}

-- ---- runs by their names

abbrev pub found_by : Bool → Job → Option Job → Option Job
found_by true j o = some j
found_by false j o = o

unfoldable pub find : ℕ → List Entry → Option Job
find n [] = none
find n (e ∷ q) = found_by (eqb n e.name) e.run (find n q)

abbrev pub Distinct : List Entry → Type 0
Distinct [] = Unit {0}
Distinct (e ∷ q) = (find e.name q ≡ none) × Distinct q

module _ (n : ℕ) (r : List Entry) where
  pub find_append : (q : List Entry) (j : Job) → find n q ≡ some j → find n (q ++ r) ≡ some j
  unfolding find
  find_append [] j h = let z : ◌≡◌ {A = ℕ} 0 1 = cc in absurd (omega arith)
  find_append (e ∷ q) j h = go (eqb n e.name) h (find_append q j)
    where
      go : (b : Bool) → found_by b e.run (find n q) ≡ some j → (find n q ≡ some j → find n (q ++ r) ≡ some j) → found_by b e.run (find n (q ++ r)) ≡ some j
      go true g k = g
      go false g k = k g

  pub find_behind : (q : List Entry) → find n q ≡ none → find n (q ++ r) ≡ find n r
  unfolding find
  find_behind [] h = refl
  find_behind (e ∷ q) h = go (eqb n e.name) h (find_behind q)
    where
      go : (b : Bool) → found_by b e.run (find n q) ≡ none → (find n q ≡ none → find n (q ++ r) ≡ find n r) → found_by b e.run (find n (q ++ r)) ≡ find n r
      go true g k = let z : ◌≡◌ {A = ℕ} 0 1 = cc in absurd (omega arith)
      go false g k = k g

-- a name that is no member is not found
pub find_none : (n : ℕ) (q : List Entry) → member n (names q) ≡ false → find n q ≡ none
unfolding find member
find_none n [] h = refl
find_none n (e ∷ q) h = go (eqb n e.name) h (find_none n q)
  where
    go : (b : Bool) → cond b true (member n (names q)) ≡ false → (member n (names q) ≡ false → find n q ≡ none) → found_by b e.run (find n q) ≡ none
    go true g k = let z : ◌≡◌ {A = ℕ} 0 1 = cc in absurd (omega arith)
    go false g k = k g

pub find_head : (n : ℕ) (j : Job) → find n (entry n j ∷ []) ≡ some j
unfolding find
find_head n j = rw (eq-eqb n n refl)

pub eqb_sym : (a b : ℕ) → eqb a b ≡ eqb b a
eqb_sym a b = go (eqb a b) (eqb b a) refl refl
  where
    go : (x y : Bool) → eqb a b ≡ x → eqb b a ≡ y → x ≡ y
    go true true e f = refl
    go false false e f = refl
    go true false e f = absurd (eqb-false b a f (sym (eqb-true a b e)))
    go false true e f = absurd (eqb-false a b e (sym (eqb-true b a f)))

-- one more at the back, under a name that nobody has
distinct_back : (q : List Entry) (k : ℕ) (j : Job) → Distinct q → find k q ≡ none → Distinct (q ++ (entry k j ∷ []))
unfolding find
distinct_back [] k j d h = (refl, tt)
distinct_back (e ∷ q) k j d h = go (eqb k e.name) refl h (distinct_back q k j d.1)
  where
    go : (b : Bool) → eqb k e.name ≡ b → found_by b e.run (find k q) ≡ none → (find k q ≡ none → Distinct (q ++ (entry k j ∷ []))) → Distinct (e ∷ (q ++ (entry k j ∷ [])))
    go true g u r = let z : ◌≡◌ {A = ℕ} 0 1 = cc in absurd (omega arith)
    go false g u r = (find_behind e.name (entry k j ∷ []) q d.0 ∙ rw (eqb_sym e.name k, g), r u)

-- ---- what every queue keeps

abbrev pub Small : List Entry → Type 0
Small [] = Unit {0}
Small (e ∷ q) = (e.name < 8) × Small q

pub record Queue (q : List Entry) : Type 0 where
  pub distinct : Distinct q
  pub most : length q ≤ 8
  pub small : Small q

small_back : (q : List Entry) (k : ℕ) (j : Job) → k < 8 → Small q → Small (q ++ (entry k j ∷ []))
small_back [] k j h s = (h, tt)
small_back (e ∷ q) k j h s = (s.0, small_back q k j h s.1)

back_queue : (q : List Entry) (k : ℕ) (j : Job) → Distinct q → length q < 8 → find k q ≡ none → k < 8 → Small q → Queue (q ++ (entry k j ∷ []))
back_queue q k j d l h g s = record { distinct = distinct_back q k j d h; most = rw (length-append q (entry k j ∷ [])) (omega (arith, l)); small = small_back q k j g s }

pub admitted_queue : (q : List Entry) (h : HandedIn) → Queue q → length q < 8 → Queue (admitted q h).queue
admitted_queue q (taken j) w l = back_queue q (least_free (names q)) j w.distinct l (find_none (least_free (names q)) q (least_unused (names q))) (omega (arith, l, least_most (names q), length-map q (λ (e : Entry). e.name))) w.small
admitted_queue q (turned_down r) w l = w

received_queue : (b : Bool) (q : List Entry) (i : Input) (K : ℕ) → leb 8 (length q) ≡ b → Queue q → Queue (received b q i K).queue
received_queue true q i K e w = w
received_queue false q i K e w = admitted_queue q (handed_in i K) w (leb-false 8 (length q) e)

pub moved_queue : (e : Entry) (q : List Entry) (t : Turned) → Queue (e ∷ q) → Queue (moved e q t).queue
moved_queue e q (under_way j z) w = back_queue q e.name j w.distinct.1 (omega (arith, w.most)) w.distinct.0 w.small.0 w.small.1
moved_queue e q (over x) w = record { distinct = w.distinct.1; most = omega (arith, w.most); small = w.small.1 }

given_queue : (o : Option Refusal) (e : Entry) (q : List Entry) (m : List Float) (z : Slices) → Queue (e ∷ q) → Queue (given o e q m z).queue
given_queue (some r) e q m z w = w
given_queue none e q m z w = moved_queue e q (turn e.run m z) w

pub serve_queue : (q : List Entry) (c : Call) → Queue q → Queue (serve q c).queue
unfolding serve
serve_queue q (hand_in i K) w = received_queue (leb 8 (length q)) q i K refl w
serve_queue [] (take_turn m z) w = w
serve_queue (e ∷ q) (take_turn m z) w = given_queue (first_failing (turn_tests e.run m z)) e q m z w

pub queue_kept : (cs : List Call) (q : List Entry) → Queue q → Queue (queue_after q cs)
unfolding queue_after
queue_kept [] q w = w
queue_kept (c ∷ cs) q w = queue_kept cs (serve q c).queue (serve_queue q c w)

pub empty_queue : Queue []
empty_queue = record { distinct = tt; most = omega arith; small = tt }
