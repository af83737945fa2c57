-- Lists of calls by computation, with replies as they may have been: what is kept, how many others are, and what is due.
use Rattle.std.specs.Prelude.{ℕ, ◌≡◌, refl, List, [], ◌∷◌, map, replicate}
use Rattle.std.proofs.Math.Option.{Option, none, some}
use Rattle.std.specs.Float.{nan}
use Rattle.error.specs.Refusal.{refuse}
use Rattle.error.specs.declared.Refusal.{Refusal}
use Rattle.floats.specs.Arithmetic.{zero⁺}
use Rattle.benettin.specs.Examples.{van_der_pol}
use Rattle.continuation.specs.Continuation.{went_on}
use Rattle.calls.specs.Calls.{Brought, brought, keep, go_on, forget, Reply, ran, told, Event, event, run_of, kept, others, alone, due}

-- ---- calls and replies

-- van der Pol for one rate, by its measured and its warm-up windows of two steps, with 90 floats for rows of three
abbrev wanted : ℕ → ℕ → Brought
wanted windows warm_up = brought (van_der_pol windows warm_up) 1 (replicate 90 nan) (replicate 2 nan) (replicate 3 nan)

-- a reply after so many windows and steps; what is kept depends on nothing of it but the refusal
abbrev replied : Option Refusal → ℕ → ℕ → Reply
replied r windows steps =
    ran (record { refusal = r; windows = windows; steps = steps; final_time = nan; measured_time = nan; faint = replicate 16 0; rows = []; exponents = []; final_state = [] })

-- 7 is kept twice and once refused in between, 31 refused once, kept and forgotten, and 9 kept; the last call first
abbrev first_calls : List Event
first_calls =
    event (keep 7 (wanted 12 4)) (replied (some (refuse 16 1)) 10 29)
    ∷ event (keep 31 (wanted 35 2)) (replied (some (refuse 13 0)) 0 0)
    ∷ event (keep 7 (wanted 3 5)) (replied none 3 16)
    ∷ []

abbrev all_calls : List Event
all_calls =
    event (forget 200) (told (some (refuse 26 0)))
    ∷ event (forget 31) (told none)
    ∷ event (go_on 7 (wanted 18 13)) (replied none 37 100)
    ∷ event (keep 9 (wanted 14 11)) (replied none 14 50)
    ∷ event (keep 7 (wanted 19 13)) (replied none 19 64)
    ∷ event (keep 31 (wanted 17 1)) (replied none 17 36)
    ∷ first_calls

-- ---- what is kept

pub kept_first : (kept 7 first_calls ≡ some (run_of (wanted 3 5))) × (kept 31 first_calls ≡ none)
unfolding kept
kept_first = (refl, refl)

pub kept_last : (kept 7 all_calls ≡ some (run_of (wanted 19 13))) × (kept 9 all_calls ≡ some (run_of (wanted 14 11))) × (kept 31 all_calls ≡ none) × (kept 200 all_calls ≡ none)
unfolding kept
kept_last = (refl, refl, refl, refl)

pub how_many : (others 7 first_calls ≡ 0) × (others 31 first_calls ≡ 1) × (others 9 all_calls ≡ 1) × (others 31 all_calls ≡ 2)
unfolding others
how_many = (refl, refl, refl, refl)

-- ---- what is due

-- refused before any other test, with the outputs as they were
abbrev turned : ℕ → Brought → Reply
turned number b =
    ran (record { refusal = some (refuse number 0); windows = 0; steps = 0; final_time = zero⁺; measured_time = zero⁺; faint = replicate 16 0; rows = b.rows; exponents = b.exponents; final_state = b.final_state })

-- going on from 7 is the run of 19 windows and those that are wanted more; there is no 31 to go on from or to forget
pub due_on : (due all_calls (go_on 7 (wanted 21 13)) ≡ ran (went_on 19 (van_der_pol 21 13) 1 (replicate 90 nan) (replicate 2 nan) (replicate 3 nan))) × (due all_calls (go_on 31 (wanted 23 1)) ≡ turned 26 (wanted 23 1))
unfolding due van_der_pol
due_on = (refl, refl)

pub due_forgotten : (due all_calls (forget 7) ≡ told none) × (due all_calls (forget 31) ≡ told (some (refuse 26 0)))
unfolding due
due_forgotten = (refl, refl)

-- eight numbers are kept
abbrev eight : List Event
eight = map (λ n. event (keep n (wanted 30 33)) (replied none 30 126)) (40 ∷ 255 ∷ 0 ∷ 99 ∷ 48 ∷ 128 ∷ 66 ∷ 201 ∷ [])

-- another one is turned away by 27, also with settings that would be refused; the number itself is not another one
pub due_full : (others 41 eight ≡ 8) × (due eight (keep 41 (wanted 0 22)) ≡ turned 27 (wanted 0 22)) × (others 99 eight ≡ 7) × (due eight (keep 99 (wanted 24 15)) ≡ ran (alone (wanted 24 15)))
unfolding due others
due_full = (refl, refl, refl, refl)

-- a forgotten place is used again
abbrev seven : List Event
seven = event (forget 66) (told none) ∷ eight

pub due_again : (others 41 seven ≡ 7) × (due seven (keep 41 (wanted 25 20)) ≡ ran (alone (wanted 25 20)))
unfolding due others
due_again = (refl, refl)
