-- What lent memory holds is what the calls tell, and so each call answers what is due.
use Prim.Native.Nat.{ℕ, ◌+◌, ◌≤◌, ◌<◌}
use native.Mathlib.Omega.{arith}
use mathlib.Core.Path.{◌≡◌, refl, sym, ap, ap₂, subst, ◌∙◌}
use mathlib.Core.Bool.{Bool, true, false, cond, ◌&&◌, not}
use mathlib.Core.Logic.{◌⊎◌, inl, inr, ◌≢◌}
use mathlib.Core.List.{List, [], ◌∷◌}
use mathlib.Core.Option.{Option, none, some}
use borrow.Author.Tests.{eqb-true, eqb-false, le-leb, lt-leb}
use lib.Dec.{leb, eqb}
use lib.ListN.{get_or, set}
use Rattle.error.specs.Refusal.{refuse}
use Rattle.error.specs.declared.Refusal.{Refusal}
use Rattle.system.specs.System.{dim}
use Rattle.benettin.specs.Run.{RunState, Status, course_of}
use Rattle.benettin.specs.Estimate.{Input, problem}
use Rattle.benettin.specs.Outputs.{Estimated, outputs, outputs_from, lengths_of}
use Rattle.continuation.specs.Continuation.{went_on, resumed, Stood}
use Rattle.continuation.proofs.GoingOn as GoingOn
use Rattle.store.specs.Slots.{Memory, tags, first_index, slot_of, or_else, windows_at, stood_at, saved, freed, emptied}
use Rattle.store.specs.Promises.{Sized}
use Rattle.store.proofs.Memory.{Same, same_windows, same_run, saved_sized, saved_same, saved_windows, saved_run, freed_sized, freed_same, emptied_sized}
use Rattle.calls.proofs.TagList.{eight_tags, tags_small, saved_tags, freed_tags, emptied_tags, some_at}
use Rattle.store.proofs.Found.{first_below}
use Rattle.calls.proofs.Distinct.{Distinct, none_set, none_freed, distinct_set, first_put, first_other, distinct_zeros, none_zeros}
use Rattle.calls.specs.Calls as Calls
use Rattle.calls.specs.Calls.{Brought, Call, keep, go_on, forget, Reply, ran, told, Event, event, Kept, run_of, newest, kept, is_kept, others, alone, turned_away, keeping, going_on, due}
use Rattle.calls.specs.Served.{serve, laid_down, keep_in, go_on_from, forget_in}
use Rattle.calls.specs.Agreement.{Numbered, Agrees, Agreement}
use Rattle.calls.proofs.Stands.{Stands, alone_stands}
use Rattle.calls.proofs.Own.{same_stood}
use Rattle.calls.proofs.Counting.{taken, found, counted, count_same, all_taken, not_taken}

-- ---- what slot j holds of a run that is kept

record Holds (j : ℕ) (m : Memory) (k : Kept) : Type 0 where
  entries : dim k.input.system ≤ 16
  few : k.rates ≤ 16
  windows : windows_at j m ≡ k.input.windows
  stood : Stood k.input k.rates (stood_at j (dim k.input.system) k.rates m)

abbrev Match : Memory → Option ℕ → Option Kept → Type 0
Match m none none = Unit {0}
Match m none (some k) = ⊥
Match m (some j) none = ⊥
Match m (some j) (some k) = Holds j m k

-- memory and the calls made so far
record Agreed (m : Memory) (h : List Event) : Type 0 where
  sized : Sized m
  distinct : Distinct (tags m)
  matching : (n : ℕ) → Match m (slot_of n m) (kept n h)

holds_same : (j : ℕ) (m m' : Memory) (k : Kept) → Same j m m' → Holds j m k → Holds j m' k
holds_same j m m' k s h =
    record {
      entries = h.entries;
      few = h.few;
      windows = same_windows s ∙ h.windows;
      stood = subst (Stood k.input k.rates) (sym (same_run s (dim k.input.system) k.rates h.entries h.few)) h.stood;
    }

match_same : (m m' : Memory) (o : Option ℕ) (u : Option Kept) → ((i : ℕ) → o ≡ some i → Same i m m') → Match m o u → Match m' o u
match_same m m' none none s h = h
match_same m m' none (some k) s h = h
match_same m m' (some j) none s h = h
match_same m m' (some j) (some k) s h = holds_same j m m' k (s j refl) h

-- slot j has another tag x, and all other slots stay: what is kept under any other number than those of the two tags stays
other_match : (m m' : Memory) (j x : ℕ) → tags m' ≡ set (tags m) j x → ((i : ℕ) → i ≢ j → Same i m m') → (k : ℕ) (u : Option Kept) → x ≢ k + 1 → get_or (tags m) j 0 ≢ k + 1
    → Match m (slot_of k m) u → Match m' (slot_of k m') u
other_match m m' j x e s k u f g h =
    let z : slot_of k m' ≡ slot_of k m = ap (first_index (k + 1)) e ∙ first_other (k + 1) x (tags m) j f g in
    subst (λ (o : Option ℕ). Match m' o u) (sym z)
    (match_same m m' (slot_of k m) u (λ i y. s i (λ w. g (ap (λ (a : ℕ). get_or (tags m) a 0) (sym w) ∙ (some_at (k + 1) (tags m) i y).1))) h)

-- ---- how many others are kept

match_found : (m : Memory) (o : Option ℕ) (u : Option Kept) → Match m o u → is_kept u ≡ found o
match_found m none none h = refl
match_found m none (some k) h = absurd h
match_found m (some j) none h = absurd h
match_found m (some j) (some k) h = refl

module _ (m : Memory) (h : List Event) (w : Agreed m h) where
  others_taken : (n : ℕ) → others n h ≡ taken (n + 1) (tags m)
  unfolding others
  others_taken n =
      count_same 256 _ (λ k. not (eqb k n) && found (first_index (k + 1) (tags m))) (λ k l. ap (λ (b : Bool). not (eqb k n) && b) (match_found m (slot_of k m) (kept k h) (w.matching k)))
      ∙ counted n (tags m) w.distinct (λ i l. tags_small m i (omega (arith, l, eight_tags m)))

  -- what a call answers, and what it leaves
  abbrev Right : Call → Reply → Memory → Type 0
  Right c r m' = (r ≡ due h c) × Agreed m' (event c r ∷ h)

  -- ---- keeping

  module _ (n : ℕ) (few : n < 256) (b : Brought) where
    -- a refused run: nothing changes
    agreed_refused : (x : Estimated) (r : Refusal) → x.refusal ≡ some r → Agreed m (event (keep n b) (ran x) ∷ h)
    unfolding kept
    agreed_refused x r e = record { sized = w.sized; distinct = w.distinct; matching = λ k. subst (Match m (slot_of k m)) (sym (go k (eqb n k))) (w.matching k) }
      where
        go : (k : ℕ) (a : Bool) → cond a (newest x.refusal (run_of b) (kept k h)) (kept k h) ≡ kept k h
        go k true = rw e
        go k false = refl

    -- slot j is free, or that of n
    module _ (j : ℕ) (l : j < 8) (spot : get_or (tags m) j 0 ≡ 0 ⊎ get_or (tags m) j 0 ≡ n + 1) (free : first_index (n + 1) (set (tags m) j 0) ≡ none) where
      agreed_saved : (x : Estimated) (c : RunState) → x.refusal ≡ none → Stands b c → Agreed (saved j n c m) (event (keep n b) (ran x) ∷ h)
      unfolding kept
      agreed_saved x c e s =
          record {
            sized = saved_sized j n c m w.sized;
            distinct = subst Distinct (sym t) (distinct_set (n + 1) (tags m) j w.distinct (λ _. free));
            matching = λ k. go k (eqb n k) refl;
          }
        where
          d : ℕ
          d = dim b.input.system

          v : ℕ
          v = b.input.windows

          m' : Memory
          m' = saved j n c m

          t : tags m' ≡ set (tags m) j (n + 1)
          t = saved_tags j n d b.rates v c m s.fits w.sized l few s.sound

          new : Holds j m' (run_of b)
          new =
              record {
                entries = s.fits.entries;
                few = s.fits.few;
                windows = saved_windows j n d b.rates v c m s.fits w.sized l ∙ s.fits.has.has.finished;
                stood = subst (Stood b.input b.rates) (sym (saved_run j n d b.rates v c m s.fits w.sized l)) s.stood;
              }

          apart : (k : ℕ) → n ≢ k → get_or (tags m) j 0 ≡ 0 ⊎ get_or (tags m) j 0 ≡ n + 1 → get_or (tags m) j 0 ≢ k + 1
          apart k f (inl z) g = omega (arith, z, g)
          apart k f (inr z) g = f (omega (arith, z, g))

          go : (k : ℕ) (a : Bool) → eqb n k ≡ a → Match m' (slot_of k m') (cond a (newest x.refusal (run_of b) (kept k h)) (kept k h))
          go k true f =
              let z : slot_of k m' ≡ some j = ap (λ (i : ℕ). slot_of i m') (sym (eqb-true n k f)) ∙ ap (first_index (n + 1)) t ∙ first_put (n + 1) (tags m) j (omega (arith, l, eight_tags m)) free in
              rw (z, e) new
          go k false f =
              let z = eqb-false n k f in
              other_match m m' j (n + 1) t (saved_same j n d b.rates v c m s.fits) k (kept k h) (λ g. z (omega (arith, g))) (apart k z spot) (w.matching k)

      agreed_kept : (r : Option Refusal) → (alone b).refusal ≡ r → Agreed (laid_down r (course_of (problem b.input) b.rates).end j n m) (event (keep n b) (ran (alone b)) ∷ h)
      agreed_kept (some q) e = agreed_refused (alone b) q e
      agreed_kept none e =
          let y = alone_stands b e in
          subst (λ (x : Status). Agreed (laid_down none x j n m) (event (keep n b) (ran (alone b)) ∷ h)) (sym y.1.stood) (agreed_saved (alone b) y.0 e y.1)

      room : leb 8 (others n h) ≡ false
      room = lt-leb 8 (others n h) (omega (arith, others_taken n, not_taken (n + 1) (tags m) j (omega (arith, l, eight_tags m)) spot, eight_tags m))

      kept_right : Right (keep n b) (ran (alone b)) (laid_down (alone b).refusal (course_of (problem b.input) b.rates).end j n m)
      unfolding due
      kept_right = (ap (λ (t : Bool). ran (keeping t b)) (sym room), agreed_kept (alone b).refusal refl)

    no_room : slot_of n m ≡ none → first_index 0 (tags m) ≡ none → leb 8 (others n h) ≡ true
    no_room e f = le-leb 8 (others n h) (omega (arith, others_taken n, all_taken (n + 1) (tags m) e f, eight_tags m))

    turned_right : slot_of n m ≡ none → first_index 0 (tags m) ≡ none → Right (keep n b) (ran (turned_away 27 b)) m
    unfolding due outputs_from
    turned_right e f = (ap (λ (t : Bool). ran (keeping t b)) (sym (no_room e f)), agreed_refused (turned_away 27 b) (refuse 27 0) refl)

    keep_right : (o f : Option ℕ) → slot_of n m ≡ o → first_index 0 (tags m) ≡ f → let x = keep_in (or_else o f) n b m in Right (keep n b) x.reply x.memory
    keep_right (some j) f e g =
        let y = (some_at (n + 1) (tags m) j e).1 in
        kept_right j (first_below (n + 1) m j e) (inr y) (none_freed (n + 1) (tags m) j (λ z. omega (arith, z)) w.distinct y)
    keep_right none (some j) e g =
        kept_right j (first_below 0 m j g) (inl (some_at 0 (tags m) j g).1) (none_set (n + 1) 0 (tags m) j (λ z. omega (arith, z)) e)
    keep_right none none e g = turned_right e g

  -- ---- going on: the run that is kept stood where slot j says

  gone_on : (j : ℕ) (k : Kept) (b : Brought) → Holds j m k → Calls.Same (some k) b → go_on_from (some j) b m ≡ going_on (some k) b
  unfolding went_on
  gone_on j k b y s =
      let i = b.input in
      let a = k.input.windows in
      let o = lengths_of b.rows b.exponents b.final_state in
      let d : dim k.input.system ≡ dim i.system = ap (λ (x : Input). dim x.system) s.0 in
      let c = stood_at j (dim i.system) b.rates m in
      let z : stood_at j (dim k.input.system) k.rates m ≡ c = ap₂ (λ (e K : ℕ). stood_at j e K m) d s.1 in
      ap (λ (n : ℕ). outputs (n + i.windows) b.rows b.exponents b.final_state (resumed n i b.rates o c)) y.windows
      ∙ ap (outputs (a + i.windows) b.rows b.exponents b.final_state)
      (GoingOn.going_on a i b.rates o c (same_stood k b c s (subst (Stood k.input k.rates) z y.stood)))

  on_right : (b : Brought) (o : Option ℕ) (u : Option Kept) → Match m o u → Calls.Same u b → go_on_from o b m ≡ going_on u b
  on_right b none none y s = refl
  on_right b none (some k) y s = absurd y
  on_right b (some j) none y s = absurd y
  on_right b (some j) (some k) y s = gone_on j k b y s

  -- ---- forgetting

  agreed_freed : (n j : ℕ) (x : Reply) → slot_of n m ≡ some j → Agreed (freed j m) (event (forget n) x ∷ h)
  unfolding kept
  agreed_freed n j x e =
      record {
        sized = freed_sized j m w.sized;
        distinct = subst Distinct (sym t) (distinct_set 0 (tags m) j w.distinct (λ z. absurd (z refl)));
        matching = λ k. go k (eqb n k) refl;
      }
    where
      y : get_or (tags m) j 0 ≡ n + 1
      y = (some_at (n + 1) (tags m) j e).1

      t : tags (freed j m) ≡ set (tags m) j 0
      t = freed_tags j m w.sized (first_below (n + 1) m j e)

      go : (k : ℕ) (a : Bool) → eqb n k ≡ a → Match (freed j m) (slot_of k (freed j m)) (cond a none (kept k h))
      go k true f =
          let z : slot_of k (freed j m) ≡ none = ap (λ (i : ℕ). slot_of i (freed j m)) (sym (eqb-true n k f)) ∙ ap (first_index (n + 1)) t ∙ none_freed (n + 1) (tags m) j (λ z. omega (arith, z)) w.distinct y in
          rw z tt
      go k false f = other_match m (freed j m) j 0 t (freed_same j m) k (kept k h) (λ g. omega (arith, g)) (λ g. eqb-false n k f (omega (arith, y, g))) (w.matching k)

  -- what is not kept can't be forgotten
  agreed_unknown : (n : ℕ) (x : Reply) → kept n h ≡ none → Agreed m (event (forget n) x ∷ h)
  unfolding kept
  agreed_unknown n x e = record { sized = w.sized; distinct = w.distinct; matching = λ k. subst (Match m (slot_of k m)) (sym (go k (eqb n k) refl)) (w.matching k) }
    where
      go : (k : ℕ) (a : Bool) → eqb n k ≡ a → cond a none (kept k h) ≡ kept k h
      go k true f = sym (ap (λ (i : ℕ). kept i h) (sym (eqb-true n k f)) ∙ e)
      go k false f = refl

  forget_right : (n : ℕ) (o : Option ℕ) (u : Option Kept) → slot_of n m ≡ o → kept n h ≡ u → Match m o u → let x = forget_in o m in Right (forget n) x.reply x.memory
  unfolding due
  forget_right n none none e f y = (rw f, agreed_unknown n (told (some (refuse 26 0))) f)
  forget_right n none (some k) e f y = absurd y
  forget_right n (some j) none e f y = absurd y
  forget_right n (some j) (some k) e f y = (rw f, agreed_freed n j (told none) e)

  agreed_on : (n : ℕ) (b : Brought) (x : Reply) → Agreed m (event (go_on n b) x ∷ h)
  unfolding kept
  agreed_on n b x = record { sized = w.sized; distinct = w.distinct; matching = w.matching }

-- ---- every list of calls

agrees : (cs : List Call) (m : Memory) (h : List Event) → Agreed m h → Numbered cs → Agrees m h cs
unfolding Agrees serve due
agrees [] m h w f = tt
agrees (keep n b ∷ cs) m h w f = let x = keep_right m h w n f.0 b (slot_of n m) (first_index 0 (tags m)) refl refl in (λ _. x.0, agrees cs _ _ x.1 f.1)
agrees (go_on n b ∷ cs) m h w f = (λ s. ap ran (on_right m h w b (slot_of n m) (kept n h) (w.matching n) s), agrees cs m _ (agreed_on m h w n b _) f.1)
agrees (forget n ∷ cs) m h w f = let x = forget_right m h w n (slot_of n m) (kept n h) refl refl (w.matching n) in (λ _. x.0, agrees cs _ _ x.1 f.1)

empty : (m : Memory) → Sized m → Agreed (emptied m) []
unfolding kept
empty m S =
    let t = emptied_tags m in
    record {
      sized = emptied_sized m S;
      distinct = subst Distinct (sym t) (distinct_zeros 8);
      matching = λ n. let z : slot_of n (emptied m) ≡ none = ap (first_index (n + 1)) t ∙ none_zeros (n + 1) 8 (λ e. omega (arith, e)) in rw z tt;
    }

pub agreement : Agreement
agreement m cs S f = agrees cs (emptied m) [] (empty m S) f
