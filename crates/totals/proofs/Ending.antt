-- The end of a run.
use Prim.Native.Nat.{ℕ, ◌≤◌}
use native.Mathlib.Omega.{arith}
use mathlib.Core.Path.{◌≡◌, sym, ap, ◌∙◌}
use mathlib.Core.List.{List, ◌++◌, map}
use lib.ListN.{length, take, drop, length-map, take-append-drop}
use lib.Seq.{sets, length-take-le}
use lib.Ieee.{Float}
use Rattle.floats.specs.Arithmetic.{◌⊗◌, ◌⊘◌}
use Rattle.floats.proofs.Sets.{drop_replicate}
use Rattle.gram_schmidt.proofs.Finished.{sets_start}
use Rattle.benettin.specs.Run.{as_float, answer}
use Rattle.benettin.specs.Outputs.{sixteen, outputs_from}
use Rattle.totals.specs.Ending.{Bounded, Ends, Ended}
use Rattle.totals.specs.declared.Progress.{Progress}

-- the counts of k directions, and zeros behind them
pub faint_is : {k a c : ℕ} {p : Progress} → k ≤ 16 → Bounded k a c p → p.faint ≡ sixteen (take k p.faint)
faint_is {k = k} {p = p} h x =
    let z : length (take k p.faint) ≡ k = length-take-le k p.faint (omega (arith, h, x.counts)) in
    sym (take-append-drop k p.faint) ∙ ap (λ (l : List ℕ). take k p.faint ++ l) (x.behind ∙ drop_replicate {A = ℕ} 0 k 16 h ∙ rw z)

module _ {k n W : ℕ} {x es fs : List Float} {p : Progress} (G : Ends k n W x es fs p) (D : Float) where
  pub end_done : (u w : Float) (us y : List Float) → u ≡ D → w ≡ as_float W → us ≡ map (λ s. s ⊘ (u ⊗ w)) (take k p.sums) → y ≡ x
      → Ended k D W x p es fs (record { windows = W; steps = p.steps; final_time = p.time; measured_time = u ⊗ w; faint = p.faint }) (us ++ drop k es) (y ++ drop (length x) fs)
  unfolding outputs_from answer
  end_done u w us y eu ew eus ey M d t norms rows place rs δ =
      let l : length us ≡ k = ap length eus ∙ length-map (take k p.sums) _ ∙ length-take-le k p.sums (omega (arith, G.few, G.bounded.sums)) in
      let A : sets es 0 us ≡ us ++ drop k es = sets_start us es (omega (arith, G.exponents)) ∙ rw l in
      let B : sets fs 0 x ≡ x ++ drop (length x) fs = sets_start x fs G.state in
      let eus' : us ≡ map (λ s. s ⊘ (D ⊗ as_float W)) (take k p.sums) = rw (eu, ew) at eus in
      rw (ey, δ, B, ← eus', A, eu, ew, ← faint_is G.few G.bounded)
