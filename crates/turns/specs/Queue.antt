-- Names, fairness, and turns as windows, told by the replies of a dispatcher. proofs/ has a file for each.
use Rattle.std.specs.Prelude.{ℕ, zero, suc, ◌+◌, ◌≤◌, ◌<◌, ◌≡◌, Bool, true, false, cond, List, [], ◌∷◌, ◌++◌, eqb, length, take, drop}
use Rattle.turns.specs.Dispatcher.{Reply, named, rejected, nobody, unfit, advanced, finished, Exchange, member}

-- ---- whether the run named n is unfinished after these exchanges

abbrev pub unfinished_by : ℕ → Reply → Bool → Bool
unfinished_by n (named k) b = cond (eqb n k) true b
unfinished_by n (finished k w x) b = cond (eqb n k) false b
unfinished_by n (rejected r) b = b
unfinished_by n nobody b = b
unfinished_by n (unfit k w r) b = b
unfinished_by n (advanced k w z) b = b

unfoldable pub unfinished_from : Bool → ℕ → List Exchange → Bool
unfinished_from b n [] = b
unfinished_from b n (e ∷ es) = unfinished_from (unfinished_by n e.reply b) n es

abbrev pub unfinished : ℕ → List Exchange → Bool
unfinished = unfinished_from false

-- ---- a new run's name is the least from 0 that no other unfinished run has

abbrev pub NamedBy : (ℕ → Bool) → Reply → Type 0
NamedBy used (named n) = (used n ≡ false) × ((k : ℕ) → k < n → used k ≡ true)
NamedBy used (rejected r) = Unit {0}
NamedBy used nobody = Unit {0}
NamedBy used (unfit k w r) = Unit {0}
NamedBy used (advanced k w z) = Unit {0}
NamedBy used (finished k w x) = Unit {0}

abbrev pub Named : (ℕ → Bool) → List Exchange → Type 0
Named used [] = Unit {0}
Named used (e ∷ es) = NamedBy used e.reply

abbrev pub LeastFree : List Exchange → Type 0
LeastFree es = (a : ℕ) → Named (λ n. unfinished n (take a es)) (drop a es)

-- ---- among any eight spent turns in a row each run that is unfinished at the first has one

abbrev pub spent_by : Reply → List ℕ
spent_by (advanced n w z) = n ∷ []
spent_by (finished n w x) = n ∷ []
spent_by (named n) = []
spent_by (rejected r) = []
spent_by nobody = []
spent_by (unfit n w r) = []

-- whose turns were spent, in order
unfoldable pub spent : List Exchange → List ℕ
spent [] = []
spent (e ∷ es) = spent_by e.reply ++ spent es

abbrev pub Fair : List Exchange → Type 0
Fair es = (a n : ℕ) → unfinished n (take a es) ≡ true → 8 ≤ length (spent (drop a es)) → member n (take 8 (spent (drop a es))) ≡ true

-- ---- the turns spent are the windows begun: those of the runs that are over, and those of the unfinished ones so far

abbrev pub over_by : Reply → ℕ
over_by (finished n w x) = w
over_by (named n) = 0
over_by (rejected r) = 0
over_by nobody = 0
over_by (unfit n w r) = 0
over_by (advanced n w z) = 0

unfoldable pub begun_by_over : List Exchange → ℕ
begun_by_over [] = 0
begun_by_over (e ∷ es) = over_by e.reply + begun_by_over es

abbrev pub begun_by : ℕ → Reply → ℕ → ℕ
begun_by n (advanced k w z) b = cond (eqb n k) w b
begun_by n (finished k w x) b = cond (eqb n k) 0 b
begun_by n (named k) b = b
begun_by n (rejected r) b = b
begun_by n nobody b = b
begun_by n (unfit k w r) b = b

-- by the run named n, 0 where there is none
unfoldable pub begun_from : ℕ → ℕ → List Exchange → ℕ
begun_from b n [] = b
begun_from b n (e ∷ es) = begun_from (begun_by n e.reply b) n es

unfoldable pub sum_below : ℕ → (ℕ → ℕ) → ℕ
sum_below zero f = 0
sum_below (suc n) f = f n + sum_below n f

abbrev pub TurnsAreWindows : List Exchange → Type 0
TurnsAreWindows es = length (spent es) ≡ begun_by_over es + sum_below 8 (λ n. begun_from 0 n es)
