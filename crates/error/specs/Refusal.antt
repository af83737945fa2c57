-- Document 01, "Refusals by cause": the number and the place of each refusal. Definitions only.
use Rattle.std.specs.Prelude.{ℕ, Result, Ok, Err}
use Rattle.std.proofs.Math.Option.{Option, none, some}
use Rattle.error.specs.declared.LyapunovError.{LyapunovError}
use Rattle.error.specs.declared.LyapunovError.TheVariants.{ZeroTopK, InvalidStepSize, ZeroStepsPerWindow, ZeroWindows, CountAboveLimit, InvalidInitialTime, ZeroDimension, DimensionAboveLimit, MatrixMismatch, StateMismatch, NonFiniteInitialState, InvalidExponentCount, OutputTooShort, DegenerateTangent, InvalidWindowDuration, NonFiniteState, NonFiniteTangent, InvalidTime, TangentMismatch, NoExponents, TooManyExponents, NonFiniteExponent, IncompleteBytes, LogarithmDomain, TooFewCells, NoSuchNumber, StoreFull, DispatcherFull, ZeroStepsPerTransientWindow}
use Rattle.error.specs.declared.Refusal.{Refusal}

abbrev pub refuse : ℕ → ℕ → Refusal
refuse number place = record { number = number; place = place }

abbrev pub refusal : LyapunovError → Refusal
refusal ZeroTopK = refuse 1 0
refusal InvalidStepSize = refuse 2 0
refusal ZeroStepsPerWindow = refuse 3 0
refusal ZeroWindows = refuse 4 0
refusal (CountAboveLimit p) = refuse 5 p
refusal InvalidInitialTime = refuse 6 0
refusal ZeroDimension = refuse 7 0
refusal DimensionAboveLimit = refuse 8 0
refusal MatrixMismatch = refuse 9 0
refusal StateMismatch = refuse 10 0
refusal (NonFiniteInitialState p) = refuse 11 p
refusal InvalidExponentCount = refuse 12 0
refusal (OutputTooShort p) = refuse 13 p
refusal (DegenerateTangent p) = refuse 14 p
refusal InvalidWindowDuration = refuse 15 0
refusal (NonFiniteState p) = refuse 16 p
refusal (NonFiniteTangent p) = refuse 17 p
refusal InvalidTime = refuse 18 0
refusal TangentMismatch = refuse 19 0
refusal NoExponents = refuse 20 0
refusal TooManyExponents = refuse 21 0
refusal (NonFiniteExponent p) = refuse 22 p
refusal IncompleteBytes = refuse 23 0
refusal LogarithmDomain = refuse 24 0
-- added by document 02
refusal TooFewCells = refuse 25 0
refusal NoSuchNumber = refuse 26 0
refusal StoreFull = refuse 27 0
refusal DispatcherFull = refuse 28 0
refusal ZeroStepsPerTransientWindow = refuse 29 0

-- what a result reports: that nothing is refused, or what is
abbrev pub reported : {A : Type 0} → Result A LyapunovError → Option Refusal
reported (Ok x) = none
reported (Err e) = some (refusal e)

-- the number of what is refused, 0 for none, and its place
abbrev pub number_of : Option Refusal → ℕ
number_of none = 0
number_of (some r) = r.number

abbrev pub place_of : Option Refusal → ℕ
place_of none = 0
place_of (some r) = r.place

-- what is answered where there is a value to give: the value, or a refusal
pub data Answer {a} (A : Type a) : Type a where
  value : A → Answer A
  refused : Refusal → Answer A

abbrev pub refusal_in {a} : {A : Type a} → Answer A → Option Refusal
refusal_in (value x) = none
refusal_in (refused r) = some r

-- what the code's result stands for
abbrev pub answer : {A : Type 0} → Result A LyapunovError → Answer A
answer (Ok x) = value x
answer (Err e) = refused (refusal e)
