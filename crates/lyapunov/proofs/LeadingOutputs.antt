-- What a caller from C receives is what the run answers and leaves.
use Prim.Native.Nat.{ℕ, zero, suc, ◌<◌}
use native.Mathlib.Omega.{arith}
use mathlib.Core.Path.{◌≡◌, refl, sym, ap, ap₂, ◌∙◌}
use mathlib.Core.Option.{Option, none, some}
use mathlib.Core.List.{List}
use lib.ListN.{drop, get_or}
use lib.Ieee.{Float, nan}
use Rattle.error.specs.Refusal.{number_of, place_of, refuse}
use Rattle.error.specs.declared.Refusal.{Refusal}
use Rattle.benettin.specs.Outputs.{Estimated, estimated}
use Rattle.benettin.proofs.LeadingOutputs as Library
use Rattle.benettin.proofs.Reading.{NotZero, estimated_number}
use Rattle.interface.specs.Interface.{Call, Returns}
use Rattle.lyapunov.specs.LeadingOutputs.{refusal_of, received, as_call, Faithful, LeadingOutputs}

refusal_back : (o : Option Refusal) → NotZero o → refusal_of (number_of o) (place_of o) ≡ o
refusal_back none h = refl
refusal_back (some r) h = go r.number refl h
  where
    go : (n : ℕ) → r.number ≡ n → 0 < n → refusal_of n r.place ≡ some r
    go zero e h = absurd (omega arith)
    go (suc n) e h = ap (λ (m : ℕ). some (refuse m r.place)) (sym e)

received_is : (c : Call) (x : Estimated) → NotZero x.refusal → Returns c.number c.counts c.times c.rows_after c.exponents_after c.final_state_after x → received c ≡ x
received_is c x h r =
    let A = ap₂ refusal_of r.number_is (ap (λ (l : List ℕ). get_or l 0 0) r.counts_are) ∙ refusal_back x.refusal h in
    let B = ap (λ (l : List ℕ). get_or l 1 0) r.counts_are in
    let C = ap (λ (l : List ℕ). get_or l 2 0) r.counts_are in
    let D = ap (λ (l : List Float). get_or l 0 nan) r.times_are in
    let E = ap (λ (l : List Float). get_or l 1 nan) r.times_are in
    let F = ap (drop 3) r.counts_are in
    λ j. record {
      refusal = A j;
      windows = B j;
      steps = C j;
      final_time = D j;
      measured_time = E j;
      faint = F j;
      rows = r.rows_are j;
      exponents = r.exponents_are j;
      final_state = r.final_state_is j;
    }

pub faithful : Faithful
faithful i K c m = received_is c (estimated i K c.rows c.exponents c.final_state) (estimated_number i K c.rows c.exponents c.final_state) m

pub leading_outputs : LeadingOutputs
leading_outputs i k K c e hk h hK m M = Library.leading_outputs i k K (as_call c) (as_call e) hk h hK (faithful i k c m) (faithful i K e M)
