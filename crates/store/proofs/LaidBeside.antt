-- What is laid down and taken up beside the directions of a run.
use Prim.Native.Nat.{ℕ, ◌+◌, ◌-◌, ◌*◌, ◌≤◌}
use native.Mathlib.Omega.{arith}
use mathlib.Core.Path.{◌≡◌, refl, subst, ◌∙◌}
use mathlib.Core.Logic.{◌≢◌}
use mathlib.Core.List.{List, ◌∷◌, ◌++◌, append_assoc}
use borrow.Rule.Slice.PartMut.{put_mid}
use lib.ListN.{length, take, drop, get_or, set, replicate, length-append, length-replicate}
use lib.Seq.{sets, take_all, take-add, take_at, drop_at, take-take, drop-drop, length-take-le, length-sets}
use lib.Ieee.{Float, nan}
use Rattle.floats.specs.Vector.{part, chunks, concat}
use Rattle.floats.proofs.Parts.{put_is}
use Rattle.floats.proofs.Sets.{part_length, sets_before, drop_replicate}
use Rattle.floats.proofs.Vector.{concat_chunks}
use Rattle.benettin.specs.Estimate.{limit}
use Rattle.totals.specs.Progress.{Held, held, run_state}
use Rattle.totals.specs.Ending.{Bounded}
use Rattle.totals.specs.declared.Progress.{Progress}
use Rattle.totals.proofs.Ending.{faint_is}
use Rattle.store.specs.Slots.{memory, tag_at, laid_floats, saved}
use Rattle.store.specs.Promises.{Sized, Saves}
use Rattle.store.specs.Beside.{Fits, laid_beside, saved_beside, SavesBeside, progress_in, LoadedBeside}
use Rattle.store.proofs.Bounds.{used_sound, front_at_most}

-- the floats beside the directions, written one part after the other
module _ {j d k : ℕ} {x : List Float} (ns F : List Float) (C : List ℕ) {p : Progress} (S : SavesBeside j d k x p) (l : length F ≡ 2568) (n : length ns ≡ 32) where
  pub beside_is : (number : ℕ) {x' s' n' : List Float} {C' : List ℕ} → x' ≡ x → s' ≡ take k p.sums → n' ≡ take (k + k) ns → C' ≡ sets C (19 * j) ((number + 1) ∷ p.windows ∷ p.steps ∷ p.faint)
      → memory (set (put_mid (321 * j + 288) (321 * j + 288 + (k + k) - (321 * j + 288)) (put_mid (321 * j + 272) (321 * j + 272 + k - (321 * j + 272)) (put_mid (321 * j) (321 * j + length x - 321 * j) F x') s') n') (321 * j + 320) p.time) C'
      ≡ saved_beside j number x k ns p (memory F C)
  unfolding laid_beside
  beside_is number e₁ e₂ e₃ e₄ =
      let sums : length (take k p.sums) ≡ k = length-take-le k p.sums (omega (arith, S.fits.few, S.bounded.sums)) in
      let norms : length (take (k + k) ns) ≡ k + k = length-take-le (k + k) ns (omega (arith, S.fits.few, n)) in
      rw (
        e₁,
        e₂,
        e₃,
        e₄,
        put_is F (321 * j) (length x) x (omega (arith, l, S.fits.slot, S.fits.entries, S.state)) refl,
        put_is (sets F (321 * j) x) (321 * j + 272) k (take k p.sums) (simp length-sets (omega (arith, l, S.fits.slot, S.fits.few))) sums,
        put_is (sets (sets F (321 * j) x) (321 * j + 272) (take k p.sums)) (321 * j + 288) (k + k) (take (k + k) ns) (simp length-sets (omega (arith, l, S.fits.slot, S.fits.few))) norms,
      )

-- with the directions, it is the run
module _ {j d k : ℕ} (number : ℕ) {x : List Float} (ns F : List Float) {f : List Float} (t : List Float) (C : List ℕ) {p : Progress} (S : SavesBeside j d k x p) (T : length t ≡ k * d) where
  pub saved_is : f ≡ sets F (321 * j + 16) t → saved_beside j number x k ns p (memory f C) ≡ saved j number (run_state d k (held x t ns p)) (memory F C)
  unfolding saved laid_floats laid_beside
  saved_is e =
      let D : concat (chunks d k t) ≡ t = concat_chunks d k t ∙ take_all (k * d) t (omega (arith, T)) in
      rw (e, D, ← take-add k k ns, ← faint_is S.fits.few S.bounded) (rw (sets_before F (321 * j + 16) t (321 * j) x (omega (arith, S.state, S.fits.entries))) refl)

pub beside : {j d k : ℕ} {H : Held} → Saves j d k H → SavesBeside j d k H.state H.progress
beside S =
    record {
      fits = record { slot = S.slot; entries = S.held.entries; few = S.held.few };
      state = S.held.state;
      made = limit + limit;
      measured = limit;
      bounded = S.bounded;
    }

-- ---- what is read

-- the first k of sixteen
module _ {A : Type 0} (l : List A) (k : ℕ) (z : A) (e : length l ≡ k) (h : k ≤ 16) where
  sixteen_many : length (l ++ drop k (replicate 16 z)) ≡ 16
  sixteen_many = rw (drop_replicate z k 16 h) (simp (length-append, length-replicate) (omega (arith, e, h)))

halves : (a k : ℕ) (l : List Float) → part a (k + k) l ≡ part a k l ++ part (a + k) k l
halves a k l = take-add k k (drop a l) ∙ rw (drop-drop k a l)

module _ {j d k : ℕ} (F ns : List Float) (C : List ℕ) (fits : Fits j d k) (used : tag_at j (memory F C) ≢ 0) (Z : Sized (memory F C)) where
  logs : length (part (321 * j + 288) k F) ≡ k
  logs = part_length (321 * j + 288) k F (omega (arith, Z.0, fits.slot, fits.few))

  reports : length (part (321 * j + 288 + k) k F) ≡ k
  reports = part_length (321 * j + 288 + k) k F (omega (arith, Z.0, fits.slot, fits.few))

  sums : length (part (321 * j + 272) 16 F) ≡ 16
  sums = part_length (321 * j + 272) 16 F (omega (arith, Z.0, fits.slot))

  faint : length (part (19 * j + 3) k C) ≡ k
  faint = part_length (19 * j + 3) k C (omega (arith, Z.1, fits.slot, fits.few))

  bounded_read : Bounded k (limit + limit) limit (progress_in j (part (19 * j + 3) k C ++ drop k (replicate 16 0)) (memory F C))
  unfolding tag_at
  bounded_read =
      let s = used_sound (get_or C (19 * j) 0) (get_or C (19 * j + 1) 0) (get_or C (19 * j + 2) 0) (part (19 * j + 3) 16 C) (get_or F (321 * j + 320) nan) used in
      record {
        counts = sixteen_many (part (19 * j + 3) k C) k 0 faint fits.few;
        behind = drop_at (part (19 * j + 3) k C) (drop k (replicate 16 0)) k faint;
        sums = sums;
        clock = s.clock;
        steps = omega (arith, s.steps);
        windows = s.windows;
        faint = subst (λ (l : List ℕ). (i : ℕ) → get_or (l ++ drop k (replicate 16 0)) i 0 ≤ limit + limit) (take-take k 16 (drop (19 * j + 3) C) fits.few) (front_at_most (2 * limit) k 16 (part (19 * j + 3) 16 C) s.faint);
      }

  pub loaded_is : {x n : List Float} {f : List ℕ} {p : Progress} → x ≡ part (321 * j) d F → n ≡ part (321 * j + 288) (k + k) F ++ drop (k + k) ns → f ≡ part (19 * j + 3) k C ++ drop k (replicate 16 0)
      → p ≡ progress_in j f (memory F C) → LoadedBeside j d k (memory F C) x n p
  loaded_is e₁ e₂ e₃ e₄ =
      record {
        run = rw (
          e₁,
          e₂,
          e₄,
          e₃,
          halves (321 * j + 288) k F,
          append_assoc (part (321 * j + 288) k F) (part (321 * j + 288 + k) k F) (drop (k + k) ns),
          take_at (part (321 * j + 288) k F) (part (321 * j + 288 + k) k F ++ drop (k + k) ns) k logs,
          drop_at (part (321 * j + 288) k F) (part (321 * j + 288 + k) k F ++ drop (k + k) ns) k logs,
          take_at (part (321 * j + 288 + k) k F) (drop (k + k) ns) k reports,
          take-take k 16 (drop (321 * j + 272) F) fits.few,
          take_at (part (19 * j + 3) k C) (drop k (replicate 16 0)) k faint,
        );
        bounded = rw (e₄, e₃) bounded_read;
      }
