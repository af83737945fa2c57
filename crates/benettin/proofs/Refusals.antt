-- Demand 1: what a refused run has written.
use Prim.Native.Nat.{ℕ, ◌+◌, ◌*◌, ◌≤◌}
use native.Mathlib.Omega.{arith}
use mathlib.Core.Path.{◌≡◌, ap, ◌∙◌, subst}
use mathlib.Core.Option.{Option, some}
use lib.ListN.{length, take, drop}
use lib.Seq.{take_at}
use Rattle.error.specs.declared.Refusal.{Refusal}
use Rattle.floats.proofs.Sets.{drop_behind}
use Rattle.gram_schmidt.proofs.Finished.{sets_start}
use Rattle.system.specs.System.{dim}
use Rattle.benettin.specs.Run.{stopped, run_past, run}
use Rattle.benettin.specs.Estimate.{problem, estimate}
use Rattle.benettin.specs.Outputs.{Estimated, estimated, outputs_from, outputs, lent, flat_rows}
use Rattle.benettin.specs.Refusals.{EarlyRefusal, LateRefusal}
use Rattle.benettin.proofs.Reading.{StoppedFits, Fits, estimate_fits, flat_length, none_faint}

pub early_refusal : EarlyRefusal
unfolding estimated estimate run run_past outputs_from flat_rows
early_refusal i K c r m e =
    let q : c.after ≡ outputs i.windows c.rows c.exponents c.final_state (run_past (some r) (problem i) K) =
    m ∙ ap (λ (o : Option Refusal). outputs i.windows c.rows c.exponents c.final_state (run_past o (problem i) K)) e in
    (ap (λ (x : Estimated). x.refusal) q, ap (λ (x : Estimated). x.rows) q, ap (λ (x : Estimated). x.exponents) q, ap (λ (x : Estimated). x.final_state) q)

pub late_refusal : LateRefusal
unfolding estimated outputs_from
late_refusal i K c rs q f m e =
    let x : c.after ≡ outputs i.windows c.rows c.exponents c.final_state (stopped rs q f) = m ∙ ap (outputs i.windows c.rows c.exponents c.final_state) e in
    let h : StoppedFits K (lent c) rs q f = subst (Fits (dim i.system) K i.windows (lent c)) e (estimate_fits i K (lent c)) in
    let l : length (flat_rows rs) ≡ q.finished * (1 + 2 * K) = flat_length K rs h.wide ∙ ap (λ (n : ℕ). n * (1 + 2 * K)) h.many in
    let s : length (flat_rows rs) ≤ length c.rows = omega (arith, flat_length K rs h.wide, h.rows_room) in
    let n = q.finished * (1 + 2 * K) in
    record {
      refusal = ap (λ (y : Estimated). y.refusal) x;
      finished = ap (λ (y : Estimated). y.windows) x;
      steps = ap (λ (y : Estimated). y.steps) x;
      faint = ap (λ (y : Estimated). y.faint) x ∙ rw (h.faint, none_faint K);
      many = h.many;
      wide = h.wide;
      rows = ap (λ (y : Estimated). take n y.rows) x ∙ ap (take n) (sets_start (flat_rows rs) c.rows s) ∙ take_at (flat_rows rs) _ n l;
      rows_behind = ap (λ (y : Estimated). drop n y.rows) x ∙ drop_behind n c.rows 0 (flat_rows rs) (omega (arith, l));
      exponents = ap (λ (y : Estimated). y.exponents) x;
      final_state = ap (λ (y : Estimated). y.final_state) x;
    }
