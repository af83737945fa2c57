-- What each call answers and leaves in lent memory, for any content: the contracts cite it. Definitions only.
use Rattle.std.specs.Prelude.{ℕ, ◌+◌}
use Rattle.std.proofs.Math.Option.{Option, none, some}
use Rattle.error.specs.Refusal.{refuse}
use Rattle.error.specs.declared.Refusal.{Refusal}
use Rattle.system.specs.System.{dim}
use Rattle.benettin.specs.Run.{Status, ok, refused, course_of, course, initial}
use Rattle.benettin.specs.Estimate.{problem}
use Rattle.benettin.specs.Outputs.{Estimated, estimated, outputs, outputs_from, lengths_of}
use Rattle.continuation.specs.Continuation.{resumed}
use Rattle.store.specs.Slots.{Memory, slot_of, slot_for, first_index, tags_from, windows_at, stood_at, saved, freed}
use Rattle.calls.specs.Calls.{Brought, Call, keep, go_on, forget, Reply, ran, told, turned_away, alone}

pub record Served : Type 0 where
  pub reply : Reply
  pub memory : Memory

abbrev pub served : Reply → Memory → Served
served r m = record { reply = r; memory = m }

-- ---- keeping: 27 where there is no slot. A run that is not refused is laid down as it stands at its end

abbrev pub laid_down : Option Refusal → Status → ℕ → ℕ → Memory → Memory
laid_down none (ok c) j n m = saved j n c m
laid_down none (refused r) j n m = m
laid_down (some q) s j n m = m

abbrev pub keep_in : Option ℕ → ℕ → Brought → Memory → Served
keep_in none n b m = served (ran (turned_away 27 b)) m
keep_in (some j) n b m = served (ran (alone b)) (laid_down (alone b).refusal (course_of (problem b.input) b.rates).end j n m)

-- ---- going on: 26 where the number has no slot. Whatever the slot holds is taken for a run of the circuit that is brought

abbrev pub go_on_from : Option ℕ → Brought → Memory → Estimated
go_on_from none b m = turned_away 26 b
go_on_from (some j) b m =
    let i = b.input in
    let a = windows_at j m in
    outputs (a + i.windows) b.rows b.exponents b.final_state
    (resumed a i b.rates (lengths_of b.rows b.exponents b.final_state) (stood_at j (dim i.system) b.rates m))

-- ---- forgetting: 26, or the slot is free

abbrev pub forget_in : Option ℕ → Memory → Served
forget_in none m = served (told (some (refuse 26 0))) m
forget_in (some j) m = served (told none) (freed j m)

unfoldable pub serve : Memory → Call → Served
unfolding saved resumed estimated outputs_from first_index tags_from course initial problem
serve m (keep n b) = keep_in (slot_for n m) n b m
serve m (go_on n b) = served (ran (go_on_from (slot_of n m) b m)) m
serve m (forget n) = forget_in (slot_of n m) m
