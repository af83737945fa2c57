-- totals::Progress::count_faint
use Rattle.std.proofs.Common.{◌≡◌, ℕ, List, sym, ap, ◌∙◌, arith}
use lib.Ieee.{nan_bits, of_bits}
use Rattle.floats.proofs.Updated.{updated_end}
use Rattle.totals.specs.Progress.{counted, with_faint}
use Rattle.totals.specs.declared.Progress.{Progress}
use Rattle.totals.proofs.Lists.{counted_yes, counted_no}
use Rattle.totals.proofs.Progress.count_faint.Goals as goal
use Rattle.totals.proofs.Progress.count_faint.Goals.{then-square, else-square}

pub float_from_bits-t-10 : goal.float_from_bits-t-10
unfolding nan_bits
float_from_bits-t-10 c = tt

-- the counts that are written over those of q, which are written over those of p
rewritten : (p : Progress) {q r : Progress} {f : List ℕ} → q ≡ with_faint p q.faint → r ≡ with_faint q f → r ≡ with_faint p r.faint
rewritten p {f = f} e g = g ∙ ap (λ (s : Progress). with_faint s f) e ∙ ap (with_faint p) (sym (ap (λ (s : Progress). s.faint) g))

pub loop-i-preserved : goal.loop-i-preserved
unfolding of_bits
loop-i-preserved c =
    let l = c.loop-i in
    let s = c.args.squares.now in
    elim c.if-square.branch [
      | then-square w ↦ (let t = counted_yes l.self.faint s l.i (omega arith) (omega arith) c.if-square.self.faint w.if-square.true (ap (λ (p : Progress). p.faint) w.self-is) in
          (t.0 ∙ l.invariant.0, l.invariant.1 ∙ t.1, λ j g. t.2 j g ∙ l.invariant.2 j (omega arith), rewritten c.args.self.now l.invariant.3 w.self-is))
      | else-square w ↦ (let t = counted_no l.self.faint s l.i (omega arith) (omega arith) c.if-square.self.faint w.if-square.false (ap (λ (p : Progress). p.faint) w.self-is) in
          (t.0 ∙ l.invariant.0, l.invariant.1 ∙ t.1, λ j g. t.2 j g ∙ l.invariant.2 j (omega arith), rewritten c.args.self.now l.invariant.3 w.self-is))
    ]

pub returns : goal.returns
returns c =
    let l = c.loop-i in
    l.invariant.3 ∙ ap (with_faint c.args.self.now) (sym (l.invariant.1 ∙ updated_end counted l.self.faint c.args.squares.now l.i (omega arith)))
