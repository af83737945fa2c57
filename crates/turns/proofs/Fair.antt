-- Each unfinished run has its turn among any eight.
use Prim.Native.Nat.{ℕ, zero, suc, ◌≤◌, ◌<◌}
use native.Mathlib.Omega.{arith}
use mathlib.Core.Path.{◌≡◌, refl, sym, ap, ◌∙◌, subst}
use mathlib.Core.Bool.{Bool, true, false, cond}
use mathlib.Core.List.{List, [], ◌∷◌, ◌++◌, append-nil}
use mathlib.Core.Option.{Option, none, some, map}
use lib.Dec.{eqb, leb}
use lib.ListN.{length, take, drop}
use lib.Ieee.{Float}
use Rattle.error.specs.Tests.{first_failing}
use Rattle.error.specs.declared.Refusal.{Refusal}
use Rattle.benettin.specs.Estimate.{Input}
use Rattle.turns.specs.Turn.{HandedIn, taken, turned_down, handed_in, Slices, turn_tests, Turned, under_way, over, turn}
use Rattle.turns.specs.Dispatcher.{Call, hand_in, take_turn, Entry, entry, names, member, least_free, Served, admitted, received, moved, given, serve, exchanges, queue_after}
use Rattle.turns.specs.Queue.{spent_by, spent, Fair}
use Rattle.turns.proofs.Queues.{queue_kept, empty_queue}
use Rattle.turns.proofs.Traces.{drop_exchanges}
use Rattle.turns.proofs.Unfinished.{unfinished_is}

-- ---- where in the queue a run stands

abbrev place_by : Bool → Option ℕ → Option ℕ
place_by true o = some 0
place_by false o = map suc o

unfoldable position : ℕ → List Entry → Option ℕ
position n [] = none
position n (e ∷ q) = place_by (eqb n e.name) (position n q)

map_suc : (o : Option ℕ) (p : ℕ) → map suc o ≡ some p → (k : ℕ) × (p ≡ suc k) × (o ≡ some k)
map_suc none p e = let y : ◌≡◌ {A = ℕ} 0 1 = cc in absurd (omega arith)
map_suc (some k) p e = let y : suc k ≡ p = cc in (k, sym y, refl)

module _ (n : ℕ) where
  position_append : (r q : List Entry) (p : ℕ) → position n q ≡ some p → position n (q ++ r) ≡ some p
  unfolding position
  position_append r [] p h = let y : ◌≡◌ {A = ℕ} 0 1 = cc in absurd (omega arith)
  position_append r (e ∷ q) p h = go (eqb n e.name) h (position_append r q)
    where
      go : (b : Bool) → place_by b (position n q) ≡ some p → ((k : ℕ) → position n q ≡ some k → position n (q ++ r) ≡ some k) → place_by b (position n (q ++ r)) ≡ some p
      go true g i = g
      go false g i = let a = map_suc (position n q) p g in ap (map suc) (i a.0 a.2) ∙ ap some (sym a.1)

  position_most : (q : List Entry) (p : ℕ) → position n q ≡ some p → p < length q
  unfolding position
  position_most [] p h = let y : ◌≡◌ {A = ℕ} 0 1 = cc in absurd (omega arith)
  position_most (e ∷ q) p h = go (eqb n e.name) h (position_most q)
    where
      go : (b : Bool) → place_by b (position n q) ≡ some p → ((k : ℕ) → position n q ≡ some k → k < length q) → p < suc (length q)
      go true g i = let y : 0 ≡ p = cc in omega (arith, y)
      go false g i = let a = map_suc (position n q) p g in omega (arith, a.1, i a.0 a.2)

  member_position : (q : List Entry) → member n (names q) ≡ true → (p : ℕ) × (position n q ≡ some p)
  unfolding member position
  member_position [] h = let y : ◌≡◌ {A = ℕ} 0 1 = cc in absurd (omega arith)
  member_position (e ∷ q) h = go (eqb n e.name) h (member_position q)
    where
      go : (b : Bool) → cond b true (member n (names q)) ≡ true → (member n (names q) ≡ true → (p : ℕ) × (position n q ≡ some p)) → (p : ℕ) × (place_by b (position n q) ≡ some p)
      go true g i = (0, refl)
      go false g i = let a = i g in (suc a.0, ap (map suc) a.1)

  -- ---- from place p its turn is among the next p + 1 that are spent

  abbrev turns : List Entry → List Call → List ℕ
  turns q cs = spent (exchanges q cs)

  abbrev Soon : List Call → Type 0
  Soon cs = (q : List Entry) (p : ℕ) → position n q ≡ some p → p < length (turns q cs) → member n (take (suc p) (turns q cs)) ≡ true

  -- a call is served so, and the later ones follow
  abbrev SoonBy : List Call → ℕ → Served → Type 0
  SoonBy cs p s = p < length (spent_by s.reply ++ turns s.queue cs) → member n (take (suc p) (spent_by s.reply ++ turns s.queue cs)) ≡ true

  soon_spent : (cs : List Call) (e : Entry) (q r : List Entry) (p : ℕ) → Soon cs → position n (e ∷ q) ≡ some p → p < suc (length (turns (q ++ r) cs)) → member n (take (suc p) (e.name ∷ turns (q ++ r) cs)) ≡ true
  unfolding position member
  soon_spent cs e q r p soon h l = go (eqb n e.name) refl h
    where
      go : (b : Bool) → eqb n e.name ≡ b → place_by b (position n q) ≡ some p → cond (eqb n e.name) true (member n (take p (turns (q ++ r) cs))) ≡ true
      go true k g = rw k
      go false k g =
          let a = map_suc (position n q) p g in
          rw (k, a.1) (soon (q ++ r) a.0 (position_append r q a.0 a.2) (omega (arith, l, a.1)))

  soon_moved : (cs : List Call) (e : Entry) (q : List Entry) (p : ℕ) (t : Turned) → Soon cs → position n (e ∷ q) ≡ some p → SoonBy cs p (moved e q t)
  soon_moved cs e q p (under_way j z) soon h l = soon_spent cs e q (entry e.name j ∷ []) p soon h l
  soon_moved cs e q p (over x) soon h l =
      subst (λ (a : List Entry). member n (take (suc p) (e.name ∷ turns a cs)) ≡ true) (append-nil q)
      (soon_spent cs e q [] p soon h (subst (λ (a : List Entry). p < suc (length (turns a cs))) (sym (append-nil q)) l))

  soon_given : (cs : List Call) (e : Entry) (q : List Entry) (p : ℕ) (o : Option Refusal) (m : List Float) (z : Slices) → Soon cs → position n (e ∷ q) ≡ some p → SoonBy cs p (given o e q m z)
  soon_given cs e q p (some r) m z soon h l = soon (e ∷ q) p h l
  soon_given cs e q p none m z soon h l = soon_moved cs e q p (turn e.run m z) soon h l

  soon_admitted : (cs : List Call) (q : List Entry) (p : ℕ) (r : HandedIn) → Soon cs → position n q ≡ some p → SoonBy cs p (admitted q r)
  soon_admitted cs q p (taken j) soon h l = soon (q ++ (entry (least_free (names q)) j ∷ [])) p (position_append (entry (least_free (names q)) j ∷ []) q p h) l
  soon_admitted cs q p (turned_down r) soon h l = soon q p h l

  soon_received : (cs : List Call) (q : List Entry) (p : ℕ) (b : Bool) (i : Input) (K : ℕ) → Soon cs → position n q ≡ some p → SoonBy cs p (received b q i K)
  soon_received cs q p true i K soon h l = soon q p h l
  soon_received cs q p false i K soon h l = soon_admitted cs q p (handed_in i K) soon h l

  soon : (cs : List Call) → Soon cs
  unfolding exchanges spent serve position
  soon [] q p h l = absurd (omega (arith, l))
  soon (hand_in i K ∷ cs) q p h l = soon_received cs q p (leb 8 (length q)) i K (soon cs) h l
  soon (take_turn m z ∷ cs) [] p h l = let y : ◌≡◌ {A = ℕ} 0 1 = cc in absurd (omega arith)
  soon (take_turn m z ∷ cs) (e ∷ q) p h l = soon_given cs e q p (first_failing (turn_tests e.run m z)) m z (soon cs) h l

  member_take : (a b : ℕ) (l : List ℕ) → a ≤ b → member n (take a l) ≡ true → member n (take b l) ≡ true
  unfolding member
  member_take zero b l h g = let y : ◌≡◌ {A = ℕ} 0 1 = cc in absurd (omega arith)
  member_take (suc a) zero l h g = absurd (omega (arith, h))
  member_take (suc a) (suc b) [] h g = g
  member_take (suc a) (suc b) (x ∷ l) h g = go (eqb n x) g (member_take a b l (omega (arith, h)))
    where
      go : (c : Bool) → cond c true (member n (take a l)) ≡ true → (member n (take a l) ≡ true → member n (take b l) ≡ true) → cond c true (member n (take b l)) ≡ true
      go true u i = refl
      go false u i = i u

pub fair : (cs : List Call) → Fair (exchanges [] cs)
fair cs a n h l =
    let q = queue_after [] (take a cs) in
    let w = queue_kept (take a cs) [] empty_queue in
    let e = drop_exchanges a [] cs in
    let p = member_position n q (sym (unfinished_is n a cs) ∙ h) in
    let k = position_most n q p.0 p.1 in
    rw e (member_take n (suc p.0) 8 (spent (exchanges q (drop a cs))) (omega (arith, k, w.most)) (soon n (drop a cs) q p.0 p.1 (omega (arith, k, w.most, rw e at l))))
