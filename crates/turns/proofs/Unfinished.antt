-- The unfinished runs are those of the queue, and a new one has the least name that none of them has.
use Prim.Native.Nat.{ℕ}
use native.Mathlib.Omega.{arith}
use mathlib.Core.Path.{◌≡◌, refl, sym, ap, ◌∙◌, subst}
use mathlib.Core.Bool.{Bool, true, false, cond}
use mathlib.Core.List.{List, [], ◌∷◌, ◌++◌}
use mathlib.Core.Option.{Option, none, some}
use borrow.Author.Tests.{eqb-true}
use lib.Dec.{eqb, leb}
use lib.ListN.{length, take, drop}
use lib.Ieee.{Float}
use Rattle.error.specs.Tests.{first_failing}
use Rattle.error.specs.declared.Refusal.{Refusal}
use Rattle.benettin.specs.Estimate.{Input}
use Rattle.turns.specs.Turn.{Job, HandedIn, taken, turned_down, handed_in, Slices, turn_tests, Turned, under_way, over, turn}
use Rattle.turns.specs.Dispatcher.{Call, hand_in, take_turn, Entry, entry, names, member, least_free, Served, admitted, received, moved, given, serve, exchanges, queue_after}
use Rattle.turns.specs.Queue.{unfinished_by, unfinished_from, unfinished, NamedBy, Named, LeastFree}
use Rattle.turns.proofs.Names.{least_unused, least_below}
use Rattle.turns.proofs.Queues.{find, found_by, Queue, serve_queue, empty_queue}
use Rattle.turns.proofs.Traces.{drop_exchanges, take_exchanges}

module _ (n : ℕ) where
  -- one more at the back
  pub member_back : (q : List Entry) (k : ℕ) (j : Job) → member n (names (q ++ (entry k j ∷ []))) ≡ cond (eqb n k) true (member n (names q))
  unfolding member
  member_back [] k j = refl
  member_back (e ∷ q) k j = go (eqb n e.name) (eqb n k) (member_back q k j)
    where
      go : (a b : Bool) → member n (names (q ++ (entry k j ∷ []))) ≡ cond b true (member n (names q))
          → cond a true (member n (names (q ++ (entry k j ∷ [])))) ≡ cond b true (cond a true (member n (names q)))
      go true true h = refl
      go true false h = refl
      go false true h = h
      go false false h = h

  -- a name that is not found is no member
  none_member : (q : List Entry) → find n q ≡ none → member n (names q) ≡ false
  unfolding find member
  none_member [] h = refl
  none_member (e ∷ q) h = go (eqb n e.name) h (none_member q)
    where
      go : (b : Bool) → found_by b e.run (find n q) ≡ none → (find n q ≡ none → member n (names q) ≡ false) → cond b true (member n (names q)) ≡ false
      go true g k = let z : ◌≡◌ {A = ℕ} 0 1 = cc in absurd (omega arith)
      go false g k = k g

  -- a call, and what it changes
  abbrev Told : List Entry → Served → Type 0
  Told q s = unfinished_by n s.reply (member n (names q)) ≡ member n (names s.queue)

  told_admitted : (q : List Entry) (h : HandedIn) → Told q (admitted q h)
  told_admitted q (taken j) = sym (member_back q (least_free (names q)) j)
  told_admitted q (turned_down r) = refl

  told_received : (b : Bool) (q : List Entry) (i : Input) (K : ℕ) → Told q (received b q i K)
  told_received true q i K = refl
  told_received false q i K = told_admitted q (handed_in i K)

  told_moved : (e : Entry) (q : List Entry) (t : Turned) → Queue (e ∷ q) → Told (e ∷ q) (moved e q t)
  unfolding member
  told_moved e q (under_way j z) w = sym (member_back q e.name j)
  told_moved e q (over x) w = go (eqb n e.name) refl
    where
      go : (b : Bool) → eqb n e.name ≡ b → cond b false (cond b true (member n (names q))) ≡ member n (names q)
      go true k = sym (none_member q (ap (λ (a : ℕ). find a q) (eqb-true n e.name k) ∙ w.distinct.0))
      go false k = refl

  told_given : (o : Option Refusal) (e : Entry) (q : List Entry) (m : List Float) (z : Slices) → Queue (e ∷ q) → Told (e ∷ q) (given o e q m z)
  told_given (some r) e q m z w = refl
  told_given none e q m z w = told_moved e q (turn e.run m z) w

  told : (q : List Entry) (c : Call) → Queue q → Told q (serve q c)
  unfolding serve
  told q (hand_in i K) w = told_received (leb 8 (length q)) q i K
  told [] (take_turn m z) w = refl
  told (e ∷ q) (take_turn m z) w = told_given (first_failing (turn_tests e.run m z)) e q m z w

  unfinished_in : (cs : List Call) (q : List Entry) → Queue q → unfinished_from (member n (names q)) n (exchanges q cs) ≡ member n (names (queue_after q cs))
  unfolding exchanges unfinished_from queue_after
  unfinished_in [] q w = refl
  unfinished_in (c ∷ cs) q w = ap (λ (b : Bool). unfinished_from b n (exchanges (serve q c).queue cs)) (told q c w) ∙ unfinished_in cs (serve q c).queue (serve_queue q c w)

  pub unfinished_is : (a : ℕ) (cs : List Call) → unfinished n (take a (exchanges [] cs)) ≡ member n (names (queue_after [] (take a cs)))
  unfolding member
  unfinished_is a cs = ap (unfinished n) (take_exchanges a [] cs) ∙ unfinished_in (take a cs) [] empty_queue

-- ---- a new run's name

module _ (used : ℕ → Bool) (q : List Entry) (same : (n : ℕ) → used n ≡ member n (names q)) where
  named_admitted : (h : HandedIn) → NamedBy used (admitted q h).reply
  named_admitted (taken j) = (same (least_free (names q)) ∙ least_unused (names q), λ k l. same k ∙ least_below (names q) k l)
  named_admitted (turned_down r) = tt

  named_received : (b : Bool) (i : Input) (K : ℕ) → NamedBy used (received b q i K).reply
  named_received true i K = tt
  named_received false i K = named_admitted (handed_in i K)

  named_given : (o : Option Refusal) (e : Entry) (p : List Entry) (m : List Float) (z : Slices) → NamedBy used (given o e p m z).reply
  named_given (some r) e p m z = tt
  named_given none e p m z = go (turn e.run m z)
    where
      go : (t : Turned) → NamedBy used (moved e p t).reply
      go (under_way j y) = tt
      go (over x) = tt

named_first : (used : ℕ → Bool) (q : List Entry) → ((n : ℕ) → used n ≡ member n (names q)) → (cs : List Call) → Named used (exchanges q cs)
unfolding exchanges serve
named_first used q same [] = tt
named_first used q same (hand_in i K ∷ cs) = named_received used q same (leb 8 (length q)) i K
named_first used [] same (take_turn m z ∷ cs) = tt
named_first used (e ∷ q) same (take_turn m z ∷ cs) = named_given used (e ∷ q) same (first_failing (turn_tests e.run m z)) e q m z

pub least_names : (cs : List Call) → LeastFree (exchanges [] cs)
least_names cs a =
    subst (Named (λ n. unfinished n (take a (exchanges [] cs)))) (sym (drop_exchanges a [] cs))
    (named_first (λ n. unfinished n (take a (exchanges [] cs))) (queue_after [] (take a cs)) (λ n. unfinished_is n a cs) (drop a cs))
