-- dispatch::front::leave
use native.Mathlib.Omega.{arith}
use Prim.Native.Nat.{ℕ, ◌+◌, ◌-◌, ◌*◌, ◌≤◌}
use mathlib.Core.Path.{◌≡◌, ap, ◌∙◌}
use mathlib.Core.List.{List}
use borrow.Rule.Slice.PartMut.{put_mid}
use lib.ListN.{length, take, drop, replicate, length-replicate}
use lib.Seq.{sets}
use lib.Ieee.{Float, of_bits}
use Rattle.floats.specs.Arithmetic.{zero⁺}
use Rattle.floats.proofs.Parts.{put_is, part_many}
use Rattle.dispatch.specs.Turns.{Leaves}
use Rattle.dispatch.proofs.front.leave.Goals as goal

-- the directions of the slot are cleared
cleared : {j n : ℕ} (F : List Float) {q : List ℕ} → length F ≡ 2568 → Leaves j n q → {t : List Float} → (let a = 321 * j + 16 in
    t ≡ replicate (length (take (a + n - a) (drop a F))) zero⁺ → put_mid a (a + n - a) F t ≡ sets F a (replicate n zero⁺))
cleared {j} {n} F l P {t} e =
    let a = 321 * j + 16 in
    let h : a + n ≤ length F = omega (arith, l, P.few, P.slot) in
    let f : t ≡ replicate n zero⁺ = e ∙ ap (λ (i : ℕ). replicate i zero⁺) (part_many F a n h) in
    ap (put_mid a (a + n - a) F) f ∙ put_is F a n (replicate n zero⁺) h (length-replicate n zero⁺)

pub returns : goal.returns
unfolding of_bits
returns c = record { floats = cleared c.args.floats.now (omega arith) c.requires (c.fill.ensures.after (λ y h. h)); queue_is = c.dequeue.ensures }
