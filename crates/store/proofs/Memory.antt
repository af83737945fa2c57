-- A slot is read by its own part of memory: what is laid down in it comes back, and all other slots stay as they were.
use Prim.Native.Nat.{ℕ, zero, suc, ◌+◌, ◌-◌, ◌*◌, ◌≤◌, ◌<◌}
use native.Mathlib.Nat.{mul-le-mul_left}
use native.Mathlib.Omega.{arith}
use mathlib.Core.Path.{◌≡◌, refl, sym, ap, ◌∙◌}
use mathlib.Core.Bool.{Bool, true, false, cond, ◌&&◌}
use mathlib.Core.Logic.{◌⊎◌, inl, inr, ◌≢◌}
use mathlib.Core.List.{List, [], ◌∷◌, ◌++◌}
use borrow.Author.Tests.{leb-true, leb-false}
use lib.Dec.{leb}
use lib.ListN.{length, take, drop, get_or, replicate, length-append, length-replicate, length-set, get_or-replicate}
use lib.Seq.{sets, length-sets, take_at, take-take, get_or-take, get_or-drop, get_or-set_same}
use lib.Ieee.{Float, nan}
use Rattle.floats.specs.Vector.{part, chunks, concat}
use Rattle.floats.proofs.Sets.{part_sets, sets_append}
use Rattle.floats.proofs.Vector as Vector
use Rattle.benettin.specs.Run.{RunState}
use Rattle.benettin.specs.Outputs.{sixteen}
use Rattle.benettin.proofs.Sizes.{HasLogs}
use Rattle.store.specs.Slots.{Memory, tag_at, sound, sound_tag, stood_at, windows_at, laid_floats, saved, freed, emptied}
use Rattle.store.specs.Promises.{Sized}
use Rattle.store.proofs.Bounds.{Sound, sound_is, tag_small}
use Rattle.store.proofs.Laid.{few_entries}
use Rattle.store.proofs.Writes.{part_get, part_inside, get_inside, writes, From, back, apart}

-- two slots have no place in common
pub slots_apart : (s i j : ℕ) → i ≢ j → (s * i + s ≤ s * j) ⊎ (s * j + s ≤ s * i)
slots_apart s i j n = go (leb i j) refl
  where
    up : (a b : ℕ) → a < b → s * a + s ≤ s * b
    up a b h = let g : s * (a + 1) ≤ s * b = mul-le-mul_left s (omega arith) in omega (arith, g)

    go : (t : Bool) → leb i j ≡ t → (s * i + s ≤ s * j) ⊎ (s * j + s ≤ s * i)
    go true e = inl (up i j (omega (arith, leb-true i j e, n)))
    go false e = inr (up j i (leb-false i j e))

-- ---- a slot that stays as it was

pub record Same (i : ℕ) (m m' : Memory) : Type 0 where
  pub floats : part (321 * i) 321 m'.floats ≡ part (321 * i) 321 m.floats
  pub counts : part (19 * i) 19 m'.counts ≡ part (19 * i) 19 m.counts

module _ {i : ℕ} {m m' : Memory} (s : Same i m m') where
  count_same : (b : ℕ) → 19 * i ≤ b → b < 19 * i + 19 → get_or m'.counts b 0 ≡ get_or m.counts b 0
  count_same = get_inside (19 * i) 19 m.counts m'.counts s.counts 0

  faint_same : (n : ℕ) → n ≤ 16 → part (19 * i + 3) n m'.counts ≡ part (19 * i + 3) n m.counts
  faint_same n h = part_inside (19 * i) 19 m.counts m'.counts s.counts (19 * i + 3) n (omega arith) (omega arith)

  time_same : get_or m'.floats (321 * i + 320) nan ≡ get_or m.floats (321 * i + 320) nan
  time_same = get_inside (321 * i) 321 m.floats m'.floats s.floats nan (321 * i + 320) (omega arith) (omega arith)

  pub same_tag : tag_at i m' ≡ tag_at i m
  unfolding tag_at
  same_tag =
      let tag = count_same (19 * i) (omega arith) (omega arith) in
      let windows = count_same (19 * i + 1) (omega arith) (omega arith) in
      let steps = count_same (19 * i + 2) (omega arith) (omega arith) in
      let faint = faint_same 16 (omega arith) in
      λ x. sound_tag (tag x) (windows x) (steps x) (faint x) (time_same x)

  pub same_windows : windows_at i m' ≡ windows_at i m
  same_windows = count_same (19 * i + 1) (omega arith) (omega arith)

  pub same_run : (d K : ℕ) → d ≤ 16 → K ≤ 16 → stood_at i d K m' ≡ stood_at i d K m
  same_run d K h g =
      let floats = part_inside (321 * i) 321 m.floats m'.floats s.floats in
      let state = floats (321 * i) d (omega arith) (omega arith) in
      let directions = floats (321 * i + 16) (K * d) (omega arith) (omega (arith, few_entries K d g h)) in
      let sums = floats (321 * i + 272) K (omega arith) (omega arith) in
      let logs = floats (321 * i + 288) K (omega arith) (omega arith) in
      let reports = floats (321 * i + 288 + K) K (omega arith) (omega arith) in
      let faint = faint_same K g in
      let steps = count_same (19 * i + 2) (omega arith) (omega arith) in
      λ x. record {
        motion = record { state = state x; directions = chunks d K (directions x); time = time_same x; steps = steps x };
        norms = record { logs = logs x; reports = reports x };
        totals = record { finished = same_windows x; sums = sums x; faint = faint x };
      }

-- ---- a run that is laid down

-- a run of d entries and K directions, after w measured windows, has room in a slot
pub record Fits (d K w : ℕ) (c : RunState) : Type 0 where
  pub entries : d ≤ 16
  pub few : K ≤ 16
  pub has : HasLogs d K w c
  pub sized : Vector.Sized d c.motion.directions

sixteen_length : (f : List ℕ) → length f ≤ 16 → length (sixteen f) ≡ 16
sixteen_length f h = simp (length-append, length-replicate) (omega arith)

-- no count is above n, and the zeros behind them are not
pub sixteen_at_most : (n : ℕ) (f : List ℕ) → ((i : ℕ) → get_or f i 0 ≤ n) → (i : ℕ) → get_or (sixteen f) i 0 ≤ n
sixteen_at_most n f = go f (16 - length f)
  where
    go : (f : List ℕ) (k : ℕ) → ((i : ℕ) → get_or f i 0 ≤ n) → (i : ℕ) → get_or (f ++ replicate k 0) i 0 ≤ n
    go [] zero h i = omega arith
    go [] (suc k) h zero = omega arith
    go [] (suc k) h (suc i) = go [] k h i
    go (x ∷ f) k h zero = h 0
    go (x ∷ f) k h (suc i) = go f k (λ j. h (suc j)) i

pub saved_sized : (j n : ℕ) (c : RunState) (m : Memory) → Sized m → Sized (saved j n c m)
unfolding saved laid_floats
saved_sized j n c m S = (simp (length-set, length-sets) S.0, simp length-sets S.1)

module _ (j n d K w : ℕ) (c : RunState) (m : Memory) (F : Fits d K w c) where
  -- the floats in the order of their places
  abbrev placed : List (ℕ × List Float)
  placed =
      (321 * j, c.motion.state)
      ∷ (321 * j + 16, concat c.motion.directions)
      ∷ (321 * j + 272, c.totals.sums)
      ∷ (321 * j + 288, c.norms.logs)
      ∷ (321 * j + 288 + K, c.norms.reports)
      ∷ (321 * j + 320, c.motion.time ∷ [])
      ∷ []

  placed_is : (saved j n c m).floats ≡ writes m.floats placed
  unfolding saved laid_floats
  placed_is = rw (sets_append _ (321 * j + 288) c.norms.logs c.norms.reports, F.has.logs)

  -- the counts: three, and sixteen
  abbrev counted : List ℕ
  counted = (n + 1) ∷ c.totals.finished ∷ c.motion.steps ∷ sixteen c.totals.faint

  counted_is : (saved j n c m).counts ≡ sets m.counts (19 * j) counted
  unfolding saved
  counted_is = refl

  directions_length : length (concat c.motion.directions) ≡ K * d
  directions_length = Vector.length_concat d c.motion.directions F.sized ∙ ap (λ (k : ℕ). k * d) F.has.has.directions

  faint_length : length (sixteen c.totals.faint) ≡ 16
  faint_length = sixteen_length c.totals.faint (omega (arith, F.has.has.faint, F.few))

  -- another slot
  pub saved_same : (i : ℕ) → i ≢ j → Same i m (saved j n c m)
  saved_same i h =
      let x = F.has in
      let y = few_entries K d F.few F.entries in
      record {
        floats =
            ap (part (321 * i) 321) placed_is
            ∙ apart (321 * i) 321 (321 * j) 321 (slots_apart 321 i j h) m.floats placed
            (omega (arith, F.entries, F.few, y, directions_length, x.has.state, x.has.sums, x.logs, x.reports));
        counts = ap (part (19 * i) 19) counted_is ∙ apart (19 * i) 19 (19 * j) 19 (slots_apart 19 i j h) m.counts ((19 * j, counted) ∷ []) (omega (arith, faint_length));
      }

  -- the same slot
  module _ (S : Sized m) (h : j < 8) where
    abbrev m' : Memory
    m' = saved j n c m

    read : (us : List (ℕ × List Float)) (p : ℕ) (v : List Float) (ws : List (ℕ × List Float)) (k : ℕ) → placed ≡ us ++ (p, v) ∷ ws → length v ≡ k → p + k ≤ 2568 → From (p + k) ws → part p k m'.floats ≡ v
    read us p v ws k e l g f = ap (part p k) placed_is ∙ ap (λ (x : List (ℕ × List Float)). part p k (writes m.floats x)) e ∙ back m.floats us p v ws k l (omega (arith, g, S.0)) f

    count : (p : ℕ) → p < 19 → get_or m'.counts (19 * j + p) 0 ≡ get_or counted p 0
    count p g =
        let e : part (19 * j) 19 m'.counts ≡ counted = ap (part (19 * j) 19) counted_is ∙ part_sets m.counts (19 * j) counted 19 (omega (arith, faint_length)) (omega (arith, h, S.1)) in
        sym (get_or-drop (19 * j) m'.counts p 0) ∙ sym (get_or-take 19 (drop (19 * j) m'.counts) p 0 g) ∙ ap (λ (l : List ℕ). get_or l p 0) e

    faint : part (19 * j + 3) 16 m'.counts ≡ sixteen c.totals.faint
    faint =
        let z : 19 * j + 3 ≡ suc (suc (suc (19 * j))) = omega arith in
        ap (part (19 * j + 3) 16) counted_is ∙ rw z (part_sets _ (suc (suc (suc (19 * j)))) (sixteen c.totals.faint) 16 faint_length (simp length-set (omega (arith, h, S.1))))

    time : get_or m'.floats (321 * j + 320) nan ≡ c.motion.time
    time = sym (part_get (321 * j + 320) m'.floats nan) ∙ ap (λ (l : List Float). get_or l 0 nan) (read (take 5 placed) (321 * j + 320) (c.motion.time ∷ []) [] 1 refl refl (omega (arith, h)) tt)

    pub saved_windows : windows_at j m' ≡ c.totals.finished
    saved_windows = count 1 (omega arith)

    pub saved_run : stood_at j d K m' ≡ c
    saved_run =
        let x = F.has in
        let y = few_entries K d F.few F.entries in
        let state = read [] (321 * j) c.motion.state (drop 1 placed) d refl x.has.state (omega (arith, h, F.entries)) (omega (arith, F.entries)) in
        let directions =
        ap (chunks d K) (read (take 1 placed) (321 * j + 16) (concat c.motion.directions) (drop 2 placed) (K * d) refl directions_length (omega (arith, h, y)) (omega (arith, y)))
        ∙ Vector.chunks_back d K c.motion.directions F.sized x.has.directions in
        let sums = read (take 2 placed) (321 * j + 272) c.totals.sums (drop 3 placed) K refl x.has.sums (omega (arith, h, F.few)) (omega (arith, F.few)) in
        let logs = read (take 3 placed) (321 * j + 288) c.norms.logs (drop 4 placed) K refl x.logs (omega (arith, h, F.few)) (omega (arith, F.few)) in
        let reports = read (take 4 placed) (321 * j + 288 + K) c.norms.reports (drop 5 placed) K refl x.reports (omega (arith, h, F.few)) (omega (arith, F.few)) in
        let counts = sym (take-take K 16 (drop (19 * j + 3) m'.counts) F.few) ∙ ap (take K) faint ∙ take_at c.totals.faint _ K x.has.faint in
        let steps = count 2 (omega arith) in
        λ i. record {
          motion = record { state = state i; directions = directions i; time = time i; steps = steps i };
          norms = record { logs = logs i; reports = reports i };
          totals = record { finished = saved_windows i; sums = sums i; faint = counts i };
        }

    pub saved_tag : n < 256 → Sound c.totals.finished c.motion.steps (sixteen c.totals.faint) c.motion.time → tag_at j m' ≡ n + 1
    unfolding tag_at
    saved_tag g s =
        let z : 19 * j + 0 ≡ 19 * j = omega arith in
        let tag = ap (λ (k : ℕ). get_or m'.counts k 0) (sym z) ∙ count 0 (omega arith) in
        let steps = count 2 (omega arith) in
        let same : tag_at j m' ≡ sound_tag (n + 1) c.totals.finished c.motion.steps (sixteen c.totals.faint) c.motion.time = λ i. sound_tag (tag i) (saved_windows i) (steps i) (faint i) (time i) in
        same ∙ sound_is (n + 1) c.totals.finished c.motion.steps (sixteen c.totals.faint) c.motion.time (omega (arith, g)) s

-- ---- a slot that is freed

pub freed_sized : (j : ℕ) (m : Memory) → Sized m → Sized (freed j m)
freed_sized j m S = (S.0, length-set m.counts (19 * j) 0 ∙ S.1)

pub freed_same : (j : ℕ) (m : Memory) (i : ℕ) → i ≢ j → Same i m (freed j m)
freed_same j m i h = record { floats = refl; counts = apart (19 * i) 19 (19 * j) 19 (slots_apart 19 i j h) m.counts ((19 * j, 0 ∷ []) ∷ []) (omega arith) }

-- where the count is 0, the tag is 0
no_tag : (j : ℕ) (m : Memory) → get_or m.counts (19 * j) 0 ≡ 0 → tag_at j m ≡ 0
unfolding tag_at
no_tag j m e =
    go (leb (get_or m.counts (19 * j) 0) 256 && sound (get_or m.counts (19 * j + 1) 0) (get_or m.counts (19 * j + 2) 0) (part (19 * j + 3) 16 m.counts) (get_or m.floats (321 * j + 320) nan))
  where
    go : (b : Bool) → cond b (get_or m.counts (19 * j) 0) 0 ≡ 0
    go true = e
    go false = refl

pub freed_tag : (j : ℕ) (m : Memory) → Sized m → j < 8 → tag_at j (freed j m) ≡ 0
freed_tag j m S h = no_tag j (freed j m) (get_or-set_same m.counts (19 * j) 0 0 (omega (arith, h, S.1)))

-- ---- all slots

pub emptied_sized : (m : Memory) → Sized m → Sized (emptied m)
emptied_sized m S = (S.0, refl)

pub emptied_tag : (j : ℕ) (m : Memory) → j < 8 → tag_at j (emptied m) ≡ 0
emptied_tag j m h = no_tag j (emptied m) (get_or-replicate 152 (19 * j) 0 0 (omega (arith, h)))

pub tag_bound : (j : ℕ) (m : Memory) → tag_at j m ≤ 256
unfolding tag_at
tag_bound j m = tag_small (get_or m.counts (19 * j) 0) (get_or m.counts (19 * j + 1) 0) (get_or m.counts (19 * j + 2) 0) (part (19 * j + 3) 16 m.counts) (get_or m.floats (321 * j + 320) nan)
