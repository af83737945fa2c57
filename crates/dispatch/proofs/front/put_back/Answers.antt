-- dispatch::front::put_back
use native.Mathlib.Omega.{arith}
use Prim.Native.Nat.{ℕ, ◌+◌, ◌*◌}
use mathlib.Core.Path.{refl, ap, ◌∙◌}
use mathlib.Core.List.{List}
use lib.ListN.{set}
use Rattle.benettin.specs.Estimate.{limit}
use Rattle.schedule.specs.Schedule.{rotated}
use Rattle.dispatch.proofs.front.put_back.Goals as goal

pub save_beside-requires : goal.save_beside-requires
save_beside-requires c = let p = c.requires in record { fits = record { slot = p.slot; entries = omega (arith, p.state, p.entries); few = p.few }; state = refl; made = limit + limit + 1; measured = limit + 1; bounded = p.bounded }

pub returns : goal.returns
returns c =
    let a = c.args in
    record {
      runs = c.save_beside.ensures;
      queue_is = ap (λ (q : List ℕ). set q (8 * a.slot + 7) c.warmed_after.result) c.requeue.ensures ∙ ap (set (rotated a.queue.now) (8 * a.slot + 7)) c.warmed_after.ensures;
    }
