-- Over every list of calls from an empty store, each call has the answer that is due by the calls before it. proofs/Agreement.antt proves it.
use Rattle.std.specs.Prelude.{ℕ, ◌<◌, ◌≡◌, List, [], ◌∷◌}
use Rattle.std.proofs.Math.Option.{none, some}
use Rattle.benettin.specs.Outputs as Outputs
use Rattle.benettin.specs.Outputs.{Estimated}
use Rattle.continuation.specs.Continuation.{Continues}
use Rattle.continuation.specs.LeadingContinued.{Ended}
use Rattle.store.specs.Slots.{Memory, emptied}
use Rattle.store.specs.Promises.{Sized}
use Rattle.calls.specs.Calls.{Brought, Call, keep, go_on, ran, Event, event, Kept, kept, due, Met, number}
use Rattle.calls.specs.Served.{serve}

-- a number is from 0 to 255
abbrev pub Numbered : List Call → Type 0
Numbered [] = Unit {0}
Numbered (c ∷ cs) = (number c < 256) × Numbered cs

-- each call on memory as the ones before left it: where the caller's condition is met, it answers what is due by them
unfoldable pub Agrees : Memory → List Event → List Call → Type 0
unfolding serve due
Agrees m h [] = Unit {0}
Agrees m h (c ∷ cs) = (Met h c → (serve m c).reply ≡ due h c) × Agrees (serve m c).memory (event c (serve m c).reply ∷ h) cs

-- the memory may hold anything before it is emptied
abbrev pub Agreement : Type 0
Agreement = (m : Memory) (cs : List Call) → Sized m → Numbered cs → Agrees (emptied m) [] cs

-- ---- what is due is what specs/LeadingContinued of crate continuation takes, so that both statements there are of these calls. proofs/Runs.antt proves it.

abbrev pub as_call : Brought → Estimated → Outputs.Call
as_call b x = Outputs.call b.rows b.exponents b.final_state x

-- a keep that is not refused is a run that ended
abbrev pub KeptEnded : Type 0
KeptEnded = (h : List Event) (n : ℕ) (b : Brought) (x : Estimated) → due h (keep n b) ≡ ran x → x.refusal ≡ none → Ended b.input.windows b.input b.rates (as_call b x)

-- a going on continues it after its windows
abbrev pub GoneOn : Type 0
GoneOn = (h : List Event) (n : ℕ) (b : Brought) (k : Kept) (x : Estimated) → kept n h ≡ some k → due h (go_on n b) ≡ ran x → Continues k.input.windows b.input b.rates (as_call b x)
