-- The loops over windows: one more window, a refusal, the end.
use Prim.Native.Nat.{ℕ, suc, ◌+◌, ◌-◌, ◌*◌, ◌≤◌, ◌<◌}
use native.Mathlib.Nat.{sub-zero, suc-mul}
use native.Mathlib.Numerals.{add-one}
use native.Mathlib.Omega.{arith}
use mathlib.Core.Path.{◌≡◌, sym, ap, ◌∙◌}
use mathlib.Core.List.{List, ◌++◌}
use borrow.Rule.Slice.PartMut as Put
use borrow.Rule.Slice.PartMut.{put_mid}
use lib.ListN.{length, take, drop}
use lib.Seq.{sets}
use lib.Ieee.{Float}
use Rattle.std.specs.Prelude.{Result, Ok, Err}
use Rattle.floats.proofs.Parts.{part_many, put_is}
use Rattle.floats.proofs.Sets.{sets_append}
use Rattle.floats.proofs.Vector.{vector_fits}
use Rattle.system.specs.System.{dim}
use Rattle.system.specs.declared.System.{System}
use Rattle.benettin.specs.Run.{Dynamics, Status, ok, refused, window, warm_up, measured, measured_from, with_row, row, accumulate, ◌then◌}
use Rattle.benettin.specs.Estimate.{dynamics, limit}
use Rattle.benettin.specs.Outputs.{flat_row, flat_rows}
use Rattle.benettin.specs.declared.BenettinConfig.{BenettinConfig}
use Rattle.benettin.specs.declared.RefusedRun.{RefusedRun}
use Rattle.totals.specs.Progress.{Held, held, run_state, status}
use Rattle.totals.specs.declared.Progress.{Progress}
use Rattle.progress.specs.UnderWay.{Fits, Unmeasured, AllMeasured, Windowed, MeasuredWindow, Recorded, recorded, with_row_of}
use Rattle.progress.proofs.Bounds.{bounded_up, SameLengths, fits_kept, fits_up}
use Rattle.course.specs.Course.{WarmedUp, written, windows_from, MeasuredWindows}

-- ---- the warm-up

-- when w windows are made: those from here on are all of them from the start
pub record Warming (S : System) (m : List Float) (c : BenettinConfig) (H₀ : Held) (w : ℕ) (H : Held) : Type 0 where
  pub fits : Fits S m c (limit + w) limit H
  pub bounded : Unmeasured c.top_k w H₀.progress (Ok H.progress)
  pub rest : (D : ℕ) → (let go = warm_up (dynamics S m c.step_size D) c.steps_per_transient_window in go (c.transient_windows - w) (run_state (dim S) c.top_k H) ≡ go c.transient_windows (run_state (dim S) c.top_k H₀))

module _ {S : System} {m : List Float} {c : BenettinConfig} {H₀ H : Held} {w : ℕ} (I : Warming S m c H₀ w H) where
  module _ (l : w < c.transient_windows) {x t ns : List Float} where
    pub warming_next : {p : Progress} → Windowed S m c c.steps_per_transient_window H x t ns (Ok p) → SameLengths H (held x t ns p) → Warming S m c H₀ (w + 1) (held x t ns p)
    unfolding warm_up ◌then◌
    warming_next X s =
        let z : c.transient_windows - w ≡ suc (c.transient_windows - (w + 1)) = omega arith in
        record {
          fits = fits_kept I.fits s (bounded_up (omega arith) (omega arith) (X.bounded (limit + w) limit I.fits.bounded));
          bounded = λ a b x. bounded_up (omega arith) (omega arith) (X.bounded (a + w) b (I.bounded a b x));
          rest = λ D. sym (rw (z, ← X.status D)) ∙ I.rest D;
        }

    pub warming_refused : {r : RefusedRun} → Windowed S m c c.steps_per_transient_window H x t ns (Err r) → WarmedUp S m c H₀ x t ns (Err r)
    unfolding warm_up ◌then◌
    warming_refused X =
        let z : c.transient_windows - w ≡ suc (c.transient_windows - (w + 1)) = omega arith in
        record { status = λ D. sym (rw (z, ← X.status D)) ∙ I.rest D; bounded = λ a b x. tt }

  pub warming_end : w ≡ c.transient_windows → WarmedUp S m c H₀ H.state H.tangents H.norms (Ok H.progress)
  unfolding warm_up
  warming_end l =
      let z : c.transient_windows - w ≡ 0 = omega arith in
      record { status = λ D. sym (rw z) ∙ I.rest D; bounded = λ a b x. bounded_up (omega arith) (omega arith) (I.bounded a b x) }

-- ---- the measured windows

-- when w windows are made: their rows lie before those of the next
pub record Measuring (S : System) (m : List Float) (c : BenettinConfig) (H₀ : Held) (rows₀ : List Float) (w : ℕ) (H : Held) (rows : List Float) : Type 0 where
  pub fits : Fits S m c (limit + limit + w) (limit + w) H
  pub bounded : AllMeasured c.top_k w H₀.progress (Ok H.progress)
  pub rest : (let M = dynamics S m c.step_size c.steps_per_window in written rows (w * (1 + 2 * c.top_k)) (measured M c.steps_per_window (c.windows - w) (run_state (dim S) c.top_k H)) ≡ written rows₀ 0 (windows_from S m c H₀))

pub measuring_start : {S : System} {m : List Float} {c : BenettinConfig} {H : Held} (rows : List Float) → Fits S m c (limit + limit) limit H → Measuring S m c H rows 0 H rows
unfolding measured_from
measuring_start {c = c} rows F =
    let z : 0 * (1 + 2 * c.top_k) ≡ 0 = omega arith in
    record { fits = fits_up (omega arith) (omega arith) F; bounded = λ a b x. bounded_up (omega arith) (omega arith) x; rest = rw (sub-zero, z) }

-- the row of one window more, and the rows behind it
module _ (M : Dynamics) (n j : ℕ) (rows : List Float) (a width : ℕ) (new : List Float) (l : a + width ≤ length rows) (g : length new ≡ width) where
  pub one_more : (o s : Status) → recorded new s ≡ with_row_of M (take (a + width - a) (drop a rows)) o
      → written rows a (with_row M o (measured M n j)) ≡ written (put_mid a (a + width - a) rows new) (a + width) (measured_from M n j s)
  unfolding with_row flat_rows measured_from
  one_more (ok c) s e =
      let x : new ≡ flat_row (row M (accumulate c)) = ap (λ (y : Recorded). y.rows) e in
      let z : s ≡ ok (accumulate c) = ap (λ (y : Recorded). y.end) e in
      let T = measured M n j (accumulate c) in
      rw z
      (ap (λ (v : List Float). recorded (sets rows a (v ++ flat_rows T.rows)) T.end) (sym x)
      ∙ ap (λ (r : List Float). recorded r T.end) (sets_append rows a new (flat_rows T.rows) ∙ rw (← put_is rows a width new l g, g)))
  one_more (refused r) s e =
      let x : new ≡ take (a + width - a) (drop a rows) = ap (λ (y : Recorded). y.rows) e in
      let z : s ≡ refused r = ap (λ (y : Recorded). y.end) e in
      rw (z, x, Put.put_same a (a + width - a) rows)

module _ {S : System} {m : List Float} {c : BenettinConfig} {H₀ H : Held} {rows₀ rows : List Float} {w : ℕ} (I : Measuring S m c H₀ rows₀ w H rows) where
  abbrev width : ℕ
  width = 1 + 2 * c.top_k

  abbrev place : ℕ
  place = w * width

  -- the rows with that of a window more
  abbrev with_new : List Float → List Float
  with_new new = put_mid place (place + width - place) rows new

  -- the part of the rows that is lent for a new one
  abbrev old : List Float
  old = take (place + width - place) (drop place rows)

  module _ (l : w < c.windows) (g : c.windows * width ≤ length rows) {x t ns new : List Float} (e : length new ≡ length old) where
    further : (r : Result Progress RefusedRun) → MeasuredWindow S m c H old x t ns new r
        → (let M = dynamics S m c.step_size c.steps_per_window in
        written (with_new new) (place + width) (measured_from M c.steps_per_window (c.windows - (w + 1)) (status (dim S) c.top_k x t ns r)) ≡ written rows₀ 0 (windows_from S m c H₀))
    unfolding measured
    further r X =
        let z : c.windows - w ≡ suc (c.windows - (w + 1)) = omega arith in
        let M = dynamics S m c.step_size c.steps_per_window in
        let room : place + width ≤ length rows = omega (arith, vector_fits w c.windows width l) in
        sym (one_more M c.steps_per_window (c.windows - (w + 1)) rows place width new room (e ∙ part_many rows place width room) (window M c.steps_per_window (run_state (dim S) c.top_k H)) (status (dim S) c.top_k x t ns r) X.row_left) ∙ sym (rw z) ∙ I.rest

    pub measuring_next : {p : Progress} → MeasuredWindow S m c H old x t ns new (Ok p) → SameLengths H (held x t ns p) → Measuring S m c H₀ rows₀ (w + 1) (held x t ns p) (with_new new)
    unfolding measured_from
    measuring_next X s =
        let y : (w + 1) * width ≡ place + width = rw (add-one w, suc-mul w width) in
        record {
          fits = fits_kept I.fits s (bounded_up (omega arith) (omega arith) (X.bounded (limit + limit + w) (limit + w) I.fits.bounded));
          bounded = λ a b x. bounded_up (omega arith) (omega arith) (X.bounded (a + w) (b + w) (I.bounded a b x));
          rest = rw y (further _ X);
        }

    pub measuring_refused : {r : RefusedRun} → MeasuredWindow S m c H old x t ns new (Err r) → MeasuredWindows S m c H₀ rows₀ x t ns (with_new new) (Err r)
    unfolding measured_from flat_rows
    measuring_refused X = record { rows_left = further _ X; bounded = λ a b x. tt }

  pub measuring_end : w ≡ c.windows → MeasuredWindows S m c H₀ rows₀ H.state H.tangents H.norms rows (Ok H.progress)
  unfolding measured flat_rows
  measuring_end l =
      let z : c.windows - w ≡ 0 = omega arith in
      record { rows_left = sym (rw z) ∙ I.rest; bounded = λ a b x. bounded_up (omega arith) (omega arith) (I.bounded a b x) }
