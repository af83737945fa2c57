-- What is due is what a run, and a run that goes on, answers and leaves.
use Prim.Native.Nat.{ℕ}
use native.Mathlib.Omega.{arith}
use mathlib.Core.Path.{◌≡◌, sym, ap, ◌∙◌}
use mathlib.Core.Bool.{Bool, true, false}
use mathlib.Core.Option.{none, some}
use lib.Dec.{leb}
use Rattle.error.specs.Refusal.{refuse}
use Rattle.benettin.specs.Outputs.{Estimated, outputs_from}
use Rattle.calls.specs.Calls.{Brought, alone, keeping, going_on, others, kept, due}
use Rattle.calls.specs.Agreement.{KeptEnded, GoneOn}

-- the run alone, unless 27 is refused
by_room : (t : Bool) (b : Brought) (x : Estimated) → keeping t b ≡ x → x.refusal ≡ none → x ≡ alone b
unfolding outputs_from
by_room false b x e f = sym e
by_room true b x e f =
    let z : some (refuse 27 0) ≡ none = ap (λ (y : Estimated). y.refusal) e ∙ f in
    let y : ◌≡◌ {A = ℕ} 0 1 = cc in
    absurd (omega (arith, y))

pub kept_ended : KeptEnded
unfolding due
kept_ended h n b x e f =
    let z : keeping (leb 8 (others n h)) b ≡ x = cc in
    (by_room (leb 8 (others n h)) b x z f, f)

pub gone_on : GoneOn
unfolding due
gone_on h n b k x e f =
    let z : going_on (kept n h) b ≡ x = cc in
    sym z ∙ rw e
