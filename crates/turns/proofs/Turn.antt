-- A turn changes nothing of what a run comes to: what is left of it, alone, is what the turn leaves of it, or what the turn ends with.
use Prim.Native.Nat.{ℕ, suc, ◌+◌, ◌-◌, ◌*◌, ◌<◌}
use native.Mathlib.Nat.{suc-mul}
use native.Mathlib.Omega.{arith}
use mathlib.Core.Path.{◌≡◌, refl, sym, ap, ◌∙◌}
use mathlib.Core.Bool.{Bool, true, false}
use mathlib.Core.List.{List, [], ◌∷◌, map, append-nil}
use borrow.Author.Tests.{ltb-true, ltb-false, lt-ltb}
use lib.Dec.{ltb}
use lib.ListN.{length, length-map, length-append}
use lib.Seq.{sets}
use lib.Ieee.{Float}
use Rattle.floats.specs.Arithmetic.{◌⊗◌, ◌⊘◌}
use Rattle.floats.proofs.Sets.{sets_append}
use Rattle.benettin.specs.Run.{Dynamics, RunState, Status, ok, refused, ◌then◌, Row, Course, row, accumulate, as_float, window, warm_up, with_row, measured, measured_from, answer}
use Rattle.benettin.specs.Estimate.{dynamics}
use Rattle.benettin.specs.Outputs.{Estimated, outputs_from, flat_row, flat_rows}
use Rattle.benettin.proofs.Sizes.{Has, HasLogs, Holds, window_has, accumulate_has}
use Rattle.benettin.proofs.Reading.{dynamics_keeps}
use Rattle.turns.specs.Turn.{Job, Slices, slices, motion, warming, window_by, onward, place, ended_by, Turned, under_way, over, left_by, turned_by, turn}

-- what is left of a run, in one piece
abbrev pub rest : Job → List Float → Course
rest j m = measured_from (motion j m) j.steps (j.windows - j.now.totals.finished) (warm_up (motion j m) j.warm_up_steps (j.warm_up - j.warmed) j.now)

-- what it comes to if it is alone from here on
unfoldable pub finish : Job → List Float → Slices → Estimated
unfolding measured_from warm_up answer outputs_from flat_rows dynamics
finish j m z = ended_by j m z (rest j m)

abbrev pub finish_turned : List Float → Turned → Estimated
finish_turned m (under_way j z) = finish j m z
finish_turned m (over e) = e

-- an unfinished run has a measured window left, and as many directions, sums and faint counts as rates
pub record Going (j : Job) : Type 0 where
  pub windows : j.now.totals.finished < j.windows
  pub has : Has (length j.now.motion.state) j.rates j.now.totals.finished j.now

abbrev pub GoingTurned : Turned → Type 0
GoingTurned (under_way j z) = Going j
GoingTurned (over e) = Unit {0}

-- a row of K rates has 1 + 2 * K floats
row_width : (M : Dynamics) (d K n : ℕ) (c : RunState) → HasLogs d K n c → length (flat_row (row M c)) ≡ 1 + 2 * K
unfolding row
row_width M d K n c h =
    let a : length (map (λ x. x ⊘ M.duration) c.norms.logs) ≡ K = length-map c.norms.logs _ ∙ h.logs in
    let b : length (map (λ x. x ⊘ (M.duration ⊗ as_float c.totals.finished)) c.totals.sums) ≡ K = length-map c.totals.sums _ ∙ h.has.sums in
    ap suc (length-append (map (λ x. x ⊘ M.duration) c.norms.logs) _) ∙ omega (arith, a, b)

-- the rows behind one, written in one piece or behind it
rows_next : (rows : List Float) (r : Row) (rs : List Row) (K a : ℕ) → length (flat_row r) ≡ 1 + 2 * K
    → sets rows (a * (1 + 2 * K)) (flat_rows (r ∷ rs)) ≡ sets (sets rows (a * (1 + 2 * K)) (flat_rows (r ∷ []))) (suc a * (1 + 2 * K)) (flat_rows rs)
unfolding flat_rows
rows_next rows r rs K a l =
    let w = 1 + 2 * K in
    let p : a * w + length (flat_row r) ≡ suc a * w = ap (λ (k : ℕ). a * w + k) l ∙ sym (suc-mul a w) in
    sets_append rows (a * w) (flat_row r) (flat_rows rs)
    ∙ ap (λ (k : ℕ). sets (sets rows (a * w) (flat_row r)) k (flat_rows rs)) p
    ∙ ap (λ (l : List Float). sets (sets rows (a * w) l) (suc a * w) (flat_rows rs)) (sym (append-nil (flat_row r)))

-- one row more in the slice, and the answer with the rows behind it
ended_behind : (j : Job) (m : List Float) (z : Slices) (c : RunState) (r : Row) (rs : List Row) (x : Status) → c.totals.finished ≡ suc j.now.totals.finished → length (flat_row r) ≡ 1 + 2 * j.rates
    → ended_by j m z (record { rows = r ∷ rs; end = x })
    ≡ ended_by (onward j c) m (slices (sets z.rows (place j) (flat_rows (r ∷ []))) z.exponents z.final_state) (record { rows = rs; end = x })
unfolding outputs_from answer
ended_behind j m z c r rs (ok e) f l = rw (f, rows_next z.rows r rs j.rates j.now.totals.finished l)
ended_behind j m z c r rs (refused q) f l = rw (f, rows_next z.rows r rs j.rates j.now.totals.finished l)

module _ (j : Job) (m : List Float) (z : Slices) (G : Going j) where
  abbrev M : Dynamics
  M = motion j m

  abbrev s : ℕ
  s = j.steps

  abbrev d : ℕ
  d = length j.now.motion.state

  abbrev done : ℕ
  done = j.now.totals.finished

  abbrev left : ℕ
  left = j.windows - done

  abbrev pub Next : Status → Type 0
  Next = Holds (HasLogs d j.rates done) done

  pub next : (n : ℕ) → Next (window M n j.now)
  next n = window_has M (dynamics_keeps j.system m j.step_size s) d j.rates done n j.now G.has

  -- ---- a warm-up window

  by_warm_up : (x : Status) → Next x → warming j ≡ true
      → ended_by j m z (measured_from M s left (x then warm_up M j.warm_up_steps (j.warm_up - suc j.warmed))) ≡ finish_turned m (turned_by x j m z (record { rows = []; end = x }))
  unfolding ◌then◌ finish flat_rows measured_from
  by_warm_up (ok c) h e =
      let f = h.has.finished in
      let l : ltb c.totals.finished j.windows ≡ true = lt-ltb c.totals.finished j.windows (omega (arith, f, G.windows)) in
      rw (l, e, f)
  by_warm_up (refused r) h e = refl

  warm_up_going : (x : Status) → Next x → GoingTurned (turned_by x j m z (record { rows = []; end = x }))
  warm_up_going (ok c) h = go (ltb c.totals.finished j.windows) refl
    where
      go : (b : Bool) → ltb c.totals.finished j.windows ≡ b → GoingTurned (left_by b j m z (record { rows = []; end = ok c }) c)
      go true e = record { windows = ltb-true _ _ e; has = record { finished = refl; state = refl; directions = h.has.directions; sums = h.has.sums; faint = h.has.faint } }
      go false e = tt
  warm_up_going (refused r) h = tt

  -- ---- a measured one

  by_measured : (x : Status) → Next x → warming j ≡ false
      → ended_by j m z (with_row M x (measured M s (left - 1))) ≡ finish_turned m (turned_by (with_row M x (measured M s 0)).end j m z (with_row M x (measured M s 0)))
  unfolding with_row finish measured measured_from warm_up
  by_measured (ok c) h e = go (ltb (accumulate c).totals.finished j.windows) refl
    where
      g : HasLogs d j.rates (suc done) (accumulate c)
      g = accumulate_has d j.rates done c h

      f : (accumulate c).totals.finished ≡ suc done
      f = g.has.finished

      t : Course
      t = measured M s (left - 1) (accumulate c)

      go : (b : Bool) → ltb (accumulate c).totals.finished j.windows ≡ b
          → ended_by j m z (record { rows = row M (accumulate c) ∷ t.rows; end = t.end }) ≡ finish_turned m (left_by b j m z (record { rows = row M (accumulate c) ∷ []; end = ok (accumulate c) }) (accumulate c))
      go true l =
          let n : left - 1 ≡ j.windows - (accumulate c).totals.finished = omega (arith, f) in
          let w : j.warm_up - j.warmed ≡ 0 = omega (arith, ltb-false j.warmed j.warm_up e) in
          ended_behind j m z (accumulate c) (row M (accumulate c)) t.rows t.end f (row_width M d j.rates (suc done) (accumulate c) g) ∙ rw (e, n, w)
      go false l = let n : left - 1 ≡ 0 = omega (arith, f, ltb-false (accumulate c).totals.finished j.windows l) in rw n
  by_measured (refused r) h e = refl

  measured_going : (x : Status) → Next x → GoingTurned (turned_by (with_row M x (measured M s 0)).end j m z (with_row M x (measured M s 0)))
  unfolding with_row measured
  measured_going (ok c) h = go (ltb (accumulate c).totals.finished j.windows) refl
    where
      g : HasLogs d j.rates (suc done) (accumulate c)
      g = accumulate_has d j.rates done c h

      go : (b : Bool) → ltb (accumulate c).totals.finished j.windows ≡ b → GoingTurned (left_by b j m z (record { rows = row M (accumulate c) ∷ []; end = ok (accumulate c) }) (accumulate c))
      go true e = record { windows = ltb-true _ _ e; has = record { finished = refl; state = refl; directions = g.has.directions; sums = g.has.sums; faint = g.has.faint } }
      go false e = tt
  measured_going (refused r) h = tt

  -- ---- either

  by_warming : (b : Bool) → warming j ≡ b → finish j m z ≡ finish_turned m (turned_by (window_by b j m).end j m z (window_by b j m))
  unfolding finish warm_up measured measured_from
  by_warming true e =
      let w : j.warm_up - j.warmed ≡ suc (j.warm_up - suc j.warmed) = omega (arith, ltb-true j.warmed j.warm_up e) in
      rw w (by_warm_up (window M j.warm_up_steps j.now) (next j.warm_up_steps) e)
  by_warming false e =
      let w : j.warm_up - j.warmed ≡ 0 = omega (arith, ltb-false j.warmed j.warm_up e) in
      let n : left ≡ suc (left - 1) = omega (arith, G.windows) in
      rw w (ap (λ (k : ℕ). ended_by j m z (measured M s k j.now)) n ∙ by_measured (window M s j.now) (next s) e)

  pub turn_law : finish j m z ≡ finish_turned m (turn j m z)
  unfolding turn
  turn_law = by_warming (warming j) refl

  going_by : (b : Bool) → GoingTurned (turned_by (window_by b j m).end j m z (window_by b j m))
  unfolding measured
  going_by true = warm_up_going (window M j.warm_up_steps j.now) (next j.warm_up_steps)
  going_by false = measured_going (window M s j.now) (next s)

  pub turn_going : GoingTurned (turn j m z)
  unfolding turn
  turn_going = going_by (warming j)
