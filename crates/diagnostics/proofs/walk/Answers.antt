-- diagnostics::walk
use native.Mathlib.Omega.{arith}
use mathlib.Core.Path.{◌≡◌, sym, ap, ◌∙◌}
use mathlib.Core.Bool.{true}
use Prim.Native.Nat.{ℕ, ◌^◌, ◌≤◌, ◌<◌}
use lib.IntN.{pos}
use lib.Dec.{T, le→leb}
use lib.ListN.{length, get_or}
use lib.Ieee.{Float, nan, in_float, of_int, binary64, lt}
use Rattle.floats.specs.Arithmetic.{◌⊕◌, ◌⊘◌, zero⁺}
use Rattle.floats.proofs.Zero.{zero_is}
use Rattle.diagnostics.specs.Dimension.{walk, stopped}
use Rattle.diagnostics.proofs.Loops.{walk_on, walk_stop, walk_end, stopped_first, stopped_later}
use Rattle.diagnostics.proofs.walk.Goals as goal
use Rattle.diagnostics.proofs.walk.Goals.{Joined-i-sorted, then-i-sorted, else-i-sorted+then-next}

float_holds : (n : ℕ) → n ≤ 256 → T (in_float binary64 (pos n))
unfolding in_float
float_holds n h = le→leb n (2 ^ 53) (omega arith)

-- the index is the loop's; where it is below the length, the next sum is below 0
walked_to : (c : Joined-i-sorted)
    → (c.if-i-sorted.index ≡ c.loop-i.i)
    × (c.if-i-sorted.index < length c.args.sorted.now → lt (c.loop-i.cumulative ⊕ get_or c.args.sorted.now c.loop-i.i nan) zero⁺ ≡ true)
walked_to c =
    let sorted = c.args.sorted.now in
    elim c.if-i-sorted.branch [
      | then-i-sorted w ↦ (w.index-is, λ h. absurd (no c.if-i-sorted.index c.loop-i.i (length sorted) w.index-is h w.if-i-sorted.true))
      | else-i-sorted+then-next w ↦ (w.index-is, λ h. ap (lt (c.loop-i.cumulative ⊕ get_or sorted c.loop-i.i nan)) (sym zero_is) ∙ w.if-next.true)
    ]
  where
    no : (a b n : ℕ) → a ≡ b → a < n → n ≤ b → ⊥
    no a b n e h l = omega arith

index_small : (c : Joined-i-sorted) → c.if-i-sorted.index ≤ 256
index_small c = omega (arith, (walked_to c).0, c.loop-i.invariant.0, c.requires)

stops : (c : Joined-i-sorted)
    → c.if-i-sorted.index < length c.args.sorted.now
    → walk 0 zero⁺ c.args.sorted.now ≡ stopped c.if-i-sorted.index c.loop-i.cumulative (get_or c.args.sorted.now c.if-i-sorted.index nan)
stops c h =
    let sorted = c.args.sorted.now in
    let e = walked_to c in
    c.loop-i.invariant.1
    ∙ walk_stop sorted c.loop-i.i c.loop-i.cumulative (omega (arith, e.0, h)) (e.1 h)
    ∙ ap (λ (n : ℕ). stopped n c.loop-i.cumulative (get_or sorted n nan)) (sym e.0)

pub loop-i-preserved : goal.loop-i-preserved
loop-i-preserved c =
    let sorted = c.args.sorted.now in
    (omega arith, c.loop-i.invariant.1 ∙ walk_on sorted c.loop-i.i c.loop-i.cumulative c.if-i-sorted.false (ap (lt (c.loop-i.cumulative ⊕ get_or sorted c.loop-i.i nan)) (sym zero_is) ∙ c.if-next.false))

pub returns-then-index-sorted : goal.returns-then-index-sorted
returns-then-index-sorted c =
    let e = (walked_to (goal.at.returns-then-index-sorted c).Joined-i-sorted).0 in
    ap (λ (n : ℕ). of_int binary64 (pos n)) e
    ∙ sym (c.loop-i.invariant.1 ∙ walk_end c.args.sorted.now c.loop-i.i c.loop-i.cumulative (omega (arith, e, c.if-index-sorted.true)))

pub returns-then-index-eq0 : goal.returns-then-index-eq0
returns-then-index-eq0 c = zero_is ∙ sym (stops (goal.at.returns-then-index-eq0 c).Joined-i-sorted c.if-index-sorted.false ∙ stopped_first _ _ _ c.if-index-eq0.true)

pub returns : goal.returns
returns c =
    ap (λ (m : Float). of_int binary64 (pos c.if-i-sorted.index) ⊕ c.loop-i.cumulative ⊘ m) c.abs.ensures
    ∙ sym (stops (goal.at.returns c).Joined-i-sorted c.if-index-sorted.false ∙ stopped_later _ _ _ c.if-index-eq0.false)
