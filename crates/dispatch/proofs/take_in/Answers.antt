-- dispatch::take_in
use borrow.Author.Rules.{rules}
use native.Mathlib.Omega.{arith}
use Prim.Native.Nat.{ℕ, ◌*◌, ◌≤◌, ◌<◌}
use mathlib.Core.Path.{◌≡◌, refl, sym, ap, ◌∙◌}
use Rattle.std.specs.Prelude.{Result, Ok, Err}
use Rattle.std.specs.Result.{MatchResult, IsErrAnd}
use Rattle.std.proofs.lemmas.Result.{err_from_is_err_and, IfOk-at_ok}
use mathlib.Core.List.{List, [], ◌∷◌, ◌++◌}
use lib.ListN.{length, take, drop, get_or, replicate, length-append}
use lib.Seq.{length-take-le, take_at}
use lib.Ieee.{Float, of_bits}
use Rattle.error.proofs.Tests.{handed_on}
use Rattle.benettin.specs.Estimate.{Input, input}
use Rattle.totals.specs.Ending.{Bounded}
use Rattle.store.specs.Slots as Slots
use Rattle.floats.specs.Arithmetic.{zero⁺}
use Rattle.system_numbers.specs.Numbers.{numbers}
use Rattle.progress.proofs.Bounds.{bounded_up}
use Rattle.turns.specs.Dispatcher.{least_free}
use Rattle.turns.proofs.Names.{least_most}
use Rattle.schedule.specs.Schedule.{Memory, memory, names_in}
use Rattle.schedule.proofs.Queue.{names_many}
use Rattle.dispatch.specs.Replies.{TakesIn}
use Rattle.dispatch.proofs.HandedIn.{count_kept, Room, has_room, drawn_refused, taken_is}
use Rattle.dispatch.proofs.take_in.Goals as goal

-- where an error is mapped, there was one
mapped : {T E F : Type 0} {Q : E → F → Type 0} {g : E → F} (r : Result T E) (s : Result T F) → ((e : E) (f : F) → Q e f → f ≡ g e) → MatchResult r (λ x. s ≡ Ok x) (λ e. IsErrAnd s (Q e)) → (f : F) → s ≡ Err f
    → (e : E) × (r ≡ Err e) × (f ≡ g e)
mapped (Ok x) s q m f h = let z : ◌≡◌ {A = ℕ} 0 1 = cc in absurd (omega arith)
mapped (Err e) s q m f h =
    let p = err_from_is_err_and s m in
    let z : f ≡ p.0 = cc in
    (e, refl, z ∙ q e p.0 p.2)

module _ {i : Input} {K : ℕ} {M : Memory} (T : TakesIn i K M) where
  room : Room i K
  room = has_room i K T.passed

  abbrev many : ℕ
  many = K * length i.state

  -- the array is as long as it was
  tangents_many : (t : List Float) → length t ≡ length (take many (replicate 256 zero⁺)) → length t ≡ many
  tangents_many t e = e ∙ length-take-le many (replicate 256 zero⁺) room.all

  -- what is lent of it comes back at its front
  array_room : (t : List Float) → length t ≡ length (take many (replicate 256 zero⁺)) → many ≤ length (t ++ drop many (replicate 256 zero⁺))
  array_room t e = rw (length-append t) (omega (arith, tangents_many t e))

  name_below : {n : ℕ} → length M.queue ≡ 73 → n ≡ least_free (names_in M.queue) → n < 8
  name_below l e = let q = M.queue in omega (arith, e, least_most (names_in q), names_many q l, T.room)

pub overflow_mul-kd : goal.overflow_mul-kd
overflow_mul-kd c = omega (arith, (room c.requires).all)

pub slice_bounds-tangents-end : goal.slice_bounds-tangents-end
slice_bounds-tangents-end c = omega (arith, (room c.requires).all)

pub slice_bounds-begin-end : goal.slice_bounds-begin-end
slice_bounds-begin-end c = sym (length-take-le _ _ (omega (arith, (room c.requires).all)))

pub begin-requires : goal.begin-requires
begin-requires c =
    let r = room c.requires in
    record { above = r.above; few = r.few; steps = r.steps; tangents = length-take-le _ _ (omega (arith, r.all)); clock = r.clock }

pub returns-in_err-begun : goal.returns-in_err-begun
returns-in_err-begun c =
    let a = c.args in
    let q = mapped {g = λ e. e.error} c.begin.result c.map_err.result (λ e f k. search rules) c.map_err.ensures.cases _ c.in_err-begun.was in
    rw (handed_on c.from_residual.result c.from_residual.ensures.1, q.2)
    (drawn_refused (input a.system [] a.time a.state.now a.config) a.config.top_k (memory (Slots.memory a.floats.now a.counts.now) a.settings.now a.queue.now)
    a.state.now c.begin.new.tangents c.begin.new.norms (c.begin.ensures.status a.system [] (room c.requires).state) q.1)

pub overflow_cast-name : goal.overflow_cast-name
overflow_cast-name c = omega (arith, name_below c.requires (omega arith) c.new_name-name.ensures)

pub slice_bounds-tangents-end-2 : goal.slice_bounds-tangents-end-2
unfolding of_bits
slice_bounds-tangents-end-2 c = array_room c.requires c.begin.new.tangents c.begin.auto.tangents

pub slice_bounds-save-end : goal.slice_bounds-save-end
unfolding of_bits
slice_bounds-save-end c = sym (length-take-le _ _ (array_room c.requires c.begin.new.tangents c.begin.auto.tangents))

pub save-requires : goal.save-requires
unfolding of_bits
save-requires c =
    let r = room c.requires in
    let e : c.begin.result ≡ Ok c.in_ok-begun.begun = grind arith in
    record {
      slot = name_below c.requires (omega arith) c.new_name-name.ensures;
      held =
          record {
            entries = r.entries;
            few = r.few;
            state = refl;
            tangents = length-take-le _ _ (array_room c.requires c.begin.new.tangents c.begin.auto.tangents);
          };
      bounded = bounded_up (omega arith) (omega arith) (IfOk-at_ok (Bounded c.args.config.top_k 0 0) e c.begin.ensures.bounded);
    }

pub save_settings-requires : goal.save_settings-requires
save_settings-requires c = name_below c.requires (omega arith) c.new_name-name.ensures

pub enqueue-requires : goal.enqueue-requires
enqueue-requires c =
    let a = c.args in
    let g₀ = a.config in
    let q = a.queue.now in
    let e = c.save_settings.ensures.1 in
    let k = ap (λ (x : List ℕ). get_or x 64 0) e ∙ count_kept q c.new_name-name.result ((numbers a.system).kind ∷ (numbers a.system).dimension ∷ g₀.top_k ∷ g₀.steps_per_window ∷ g₀.windows ∷ g₀.transient_windows ∷ g₀.steps_per_transient_window ∷ 0 ∷ []) (omega (arith, name_below c.requires (omega arith) c.new_name-name.ensures)) in
    let m : length c.save_settings.new.queue ≡ 73 = omega (arith, c.save_settings.auto.queue) in
    omega (arith, names_many c.save_settings.new.queue m, k, c.requires.room)

pub returns : goal.returns
unfolding of_bits
returns c =
    let a = c.args in
    let b = c.begin in
    let r = room c.requires in
    taken_is (input a.system [] a.time a.state.now a.config) a.config.top_k (memory (Slots.memory a.floats.now a.counts.now) a.settings.now a.queue.now) a.state.now b.new.tangents b.new.norms (b.ensures.status a.system [] r.state) c.in_ok-begun.begun c.new_name-name.result (grind arith) c.new_name-name.ensures
    (c.save.ensures ∙ rw (take_at b.new.tangents _ _ (tangents_many c.requires b.new.tangents b.auto.tangents), r.state)) c.save_settings.ensures.0 c.save_settings.ensures.1 c.enqueue.ensures
