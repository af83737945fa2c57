-- One window of a run whose directions stand in its slot.
use Prim.Native.Nat.{ℕ, ◌+◌, ◌-◌, ◌*◌, ◌≤◌}
use native.Mathlib.Nat.{mul-le-mul_right, mul-le-mul_left, le_trans}
use native.Mathlib.Omega.{arith}
use mathlib.Core.Path.{◌≡◌, refl, sym, ap, ◌∙◌}
use mathlib.Core.Bool.{Bool, true, false}
use mathlib.Core.List.{List}
use borrow.Rule.Slice.PartMut.{put_mid}
use lib.Dec.{ltb}
use lib.ListN.{length, take, drop}
use lib.Seq.{sets}
use lib.Ieee.{Float}
use Rattle.floats.specs.Vector.{part}
use Rattle.floats.proofs.Parts.{part_many, put_is}
use Rattle.floats.proofs.Sets.{part_length, part_sets}
use Rattle.floats.proofs.Vector.{vector_fits}
use Rattle.system.specs.System.{dim}
use Rattle.benettin.specs.Run.{Dynamics, Status, ok, refused, window, with_row, measured, measured_from}
use Rattle.benettin.specs.Estimate.{dynamics, limit}
use Rattle.benettin.specs.Outputs.{flat_rows}
use Rattle.std.specs.Prelude.{Result, Ok, Err}
use Rattle.benettin.specs.declared.RefusedRun.{RefusedRun}
use Rattle.totals.specs.Progress.{held, run_state, refused_as, status}
use Rattle.totals.specs.Ending.{Bounded}
use Rattle.totals.specs.declared.Progress.{Progress}
use Rattle.progress.specs.UnderWay.{Windowed, WindowRecorded, recorded, with_row_of}
use Rattle.progress.proofs.Bounds.{bounded_up}
use Rattle.course.specs.Course.{written}
use Rattle.course.proofs.Loops.{one_more}
use Rattle.store.proofs.Laid.{few_entries}
use Rattle.turns.specs.Turn.{Job, warming, window_by, place}
use Rattle.schedule.specs.declared.Settings.{Settings}
use Rattle.dispatch.specs.Turns.{job_in, steps_by, next_steps, MakesWindow, WindowMade}

module _ {j : ℕ} {s : Settings} {m x rows : List Float} {p : Progress} (W : MakesWindow j s m x rows p) where
  abbrev k : ℕ
  k = s.config.top_k

  abbrev d : ℕ
  d = dim s.system

  abbrev n : ℕ
  n = s.config.steps_per_window

  abbrev M : Dynamics
  M = dynamics s.system m s.config.step_size n

  pub directions : k * length x ≡ k * d
  directions = ap (λ (e : ℕ). k * e) W.passed.state

  pub entries : k * d ≤ 256
  entries = few_entries k d W.passed.count W.passed.dimension_within

  -- the steps of the next window
  steps_few : (b : Bool) → steps_by b s.config ≤ limit
  steps_few true = W.warm_up_steps
  steps_few false = W.steps

  pub next_few : next_steps s ≤ limit
  next_few = steps_few (ltb s.warmed s.config.transient_windows)

  -- the row of the next window
  pub row_room : p.windows * (1 + 2 * k) + (1 + 2 * k) ≤ length rows
  row_room = omega (arith, vector_fits p.windows s.config.windows (1 + 2 * k) W.left, W.rows_room)

  pub place_small : p.windows * (1 + 2 * k) ≤ limit * 33
  place_small =
      let h : p.windows ≤ limit = omega (arith, W.left, W.windows) in
      let g : 1 + 2 * k ≤ 33 = omega (arith, W.passed.count) in
      le_trans (mul-le-mul_right (1 + 2 * k) h) (mul-le-mul_left limit g)

  module _ (F : List Float) where
    pub room : length F ≡ 2568 → 321 * j + 16 + k * d ≤ length F
    room l = omega (arith, l, entries, W.slot)

    -- the directions that are lent
    pub lent : take (321 * j + 16 + k * length x - (321 * j + 16)) (drop (321 * j + 16) F) ≡ part (321 * j + 16) (k * d) F
    lent = let z : 321 * j + 16 + k * length x - (321 * j + 16) ≡ k * d = omega (arith, directions) in ap (λ (e : ℕ). take e (drop (321 * j + 16) F)) z

    module _ (ns : List Float) where
      abbrev J : Job
      J = job_in j s F x ns p

      module _ {T T' F' x' ns' : List Float} {r : Result Progress RefusedRun} (l : length F ≡ 2568) (lt : T ≡ part (321 * j + 16) (k * d) F) (kept : length T' ≡ length T)
          (put : F' ≡ put_mid (321 * j + 16) (321 * j + 16 + k * length x - (321 * j + 16)) F T') (X : Windowed s.system m s.config (next_steps s) (held x T ns p) x' T' ns' r) where
        many : length T' ≡ k * d
        many = kept ∙ ap length lt ∙ part_length _ _ _ (room l)

        put_sets : F' ≡ sets F (321 * j + 16) T'
        put_sets =
            put
            ∙ ap (λ (e : ℕ). put_mid (321 * j + 16) (321 * j + 16 + e - (321 * j + 16)) F T') directions
            ∙ put_is F (321 * j + 16) (k * d) T' (room l) many

        back : part (321 * j + 16) (k * d) F' ≡ T'
        back = ap (part (321 * j + 16) (k * d)) put_sets ∙ part_sets F (321 * j + 16) T' (k * d) many (room l)

        pub moved : F' ≡ sets F (321 * j + 16) (part (321 * j + 16) (k * d) F')
        moved = put_sets ∙ ap (sets F (321 * j + 16)) (sym back)

        pub windowed : status d k x' (part (321 * j + 16) (k * d) F') ns' r ≡ window M (next_steps s) J.now
        windowed =
            ap (λ (t : List Float). status d k x' t ns' r) back
            ∙ X.status n
            ∙ ap (λ (t : List Float). window M (next_steps s) (run_state d k (held x t ns p))) lt

      module _ {T T' F' x' ns' : List Float} {ε : RefusedRun} (l : length F ≡ 2568) (lt : T ≡ part (321 * j + 16) (k * d) F) (kept : length T' ≡ length T)
          (put : F' ≡ put_mid (321 * j + 16) (321 * j + 16 + k * length x - (321 * j + 16)) F T') (X : Windowed s.system m s.config (next_steps s) (held x T ns p) x' T' ns' (Err ε)) where
        refused_end : (b : Bool) → refused_as ε ≡ window M (steps_by b s.config) J.now → recorded rows (refused_as ε) ≡ written rows (place J) (window_by b J m)
        unfolding with_row measured flat_rows
        refused_end true e = ap (recorded rows) e
        refused_end false e = ap (λ (o : Status). written rows (place J) (with_row M o (measured M n 0))) e

        pub refused_made : WindowMade j s m F x ns rows p F' x' ns' rows (Err ε)
        refused_made = record { floats = moved l lt kept put X; made = refused_end (warming J) (windowed l lt kept put X); bounded = tt }

      module _ {T T' F' x' ns' : List Float} {r : Progress} (l : length F ≡ 2568) (lt : T ≡ part (321 * j + 16) (k * d) F) (kept : length T' ≡ length T)
          (put : F' ≡ put_mid (321 * j + 16) (321 * j + 16 + k * length x - (321 * j + 16)) F T') (X : Windowed s.system m s.config (next_steps s) (held x T ns p) x' T' ns' (Ok r)) where
        few_made : Bounded k (limit + limit + 1) limit r
        few_made = X.bounded (limit + limit) limit W.bounded

        pub warm_up_made : warming J ≡ true → WindowMade j s m F x ns rows p F' x' ns' rows (Ok r)
        unfolding flat_rows
        warm_up_made e =
            record { floats = moved l lt kept put X; made = ap (recorded rows) (windowed l lt kept put X) ∙ rw e; bounded = bounded_up (omega arith) (omega arith) few_made }

        -- ---- with its row

        module _ {r' : Progress} {new : List Float} (e : warming J ≡ false) (R : WindowRecorded s.config ns' r r' new) (g : length new ≡ length (take (place J + (1 + 2 * k) - place J) (drop (place J) rows))) where
          many_new : length new ≡ 1 + 2 * k
          many_new = g ∙ part_many rows (place J) (1 + 2 * k) row_room

          abbrev end : Status
          end = ok (run_state d k (held x' (part (321 * j + 16) (k * d) F') ns' r'))

          told : (old : List Float) → recorded new end ≡ with_row_of M old (window M n J.now)
          unfolding dynamics
          told old = R.row_left M d x' (part (321 * j + 16) (k * d) F') old refl ∙ ap (with_row_of M old) (windowed l lt kept put X ∙ rw e)

          ends : (o : Status) (b : ℕ) (rows' : List Float) → written rows' b (measured_from M n 0 o) ≡ recorded rows' o
          unfolding measured_from measured flat_rows
          ends (ok c) b rows' = refl
          ends (refused q) b rows' = refl

          pub measured_made : WindowMade j s m F x ns rows p F' x' ns' (put_mid (place J) (place J + (1 + 2 * k) - place J) rows new) (Ok r')
          unfolding measured
          measured_made =
              record {
                floats = moved l lt kept put X;
                made =
                    sym (ends end (place J + (1 + 2 * k)) (put_mid (place J) (place J + (1 + 2 * k) - place J) rows new))
                    ∙ sym (one_more M n 0 rows (place J) (1 + 2 * k) new row_room many_new (window M n J.now) end (told _))
                    ∙ rw e;
                bounded = R.bounded (limit + limit + 1) limit few_made;
              }
