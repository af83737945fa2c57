-- What a call leaves, read back by window and direction, is the answer of the run.
use Prim.Native.Nat.{ℕ, zero, suc, ◌+◌, ◌-◌, ◌*◌, ◌≤◌, ◌<◌}
use native.Mathlib.Nat.{sub-zero, suc-mul, mul-le-mul_right, le_trans}
use native.Mathlib.Omega.{arith}
use mathlib.Core.Path.{◌≡◌, refl, sym, ap, ap₂, ◌∙◌, subst}
use mathlib.Core.List.{List, [], ◌∷◌, ◌++◌, append_assoc}
use mathlib.Core.Bool.{Bool, true, false, cond}
use mathlib.Core.Option.{Option, none, some}
use lib.ListN.{length, take, drop, replicate, length-append, length-map}
use lib.Seq.{sets, take_at, drop_at, drop-drop, get_or_at}
use lib.Ieee.{Float, nan}
use Rattle.error.specs.Tests.{Test, first_failing}
use Rattle.error.specs.declared.Refusal.{Refusal}
use Rattle.system.specs.System.{dim}
use Rattle.system.specs.declared.System.{System}
use Rattle.rk4.proofs.Advance.{state_length}
use Rattle.gram_schmidt.proofs.Finished.{sets_start}
use Rattle.benettin.specs.Run.{Dynamics, Problem, Row, Course, Status, ok, refused, Spectrum, RunRefusal, RunAnswer, ended, stopped, answer, no_faint, run_tests, course_of, run_past, run}
use Rattle.benettin.specs.declared.OutputLengths.{OutputLengths}
use Rattle.benettin.specs.Estimate.{Input, problem_within, problem, dynamics, estimate}
use Rattle.benettin.specs.Outputs.{Call, Meets, lent, lengths_of, estimated, outputs_from, outputs, sixteen, flat_row, flat_rows}
use Rattle.benettin.specs.Refusals.{Wide}
use Rattle.benettin.specs.LeadingOutputs.{row_at, rows_from, read}
use Rattle.benettin.proofs.Sizes.{KeepsState, Has, Holds, Rows, course_rows}
use Rattle.benettin.proofs.RunTests.{ready}

-- ---- an answer that fits outputs of these lengths: K rates, d entries of state, w windows

pub record EndedFits (d K w : ℕ) (o : OutputLengths) (rs : List Row) (x : Spectrum) : Type 0 where
  pub wide : Wide K rs
  pub many : length rs ≡ w
  pub rows_room : length rs * (1 + 2 * K) ≤ o.rows
  pub exponents : length x.exponents ≡ K
  pub exponents_room : K ≤ o.exponents
  pub faint : length x.faint ≡ K
  pub state : length x.state ≡ d
  pub state_room : d ≤ o.state

pub record StoppedFits (K : ℕ) (o : OutputLengths) (rs : List Row) (r : RunRefusal) (f : List ℕ) : Type 0 where
  pub wide : Wide K rs
  pub many : length rs ≡ r.finished
  pub rows_room : length rs * (1 + 2 * K) ≤ o.rows
  pub faint : f ≡ no_faint K
  pub numbered : 0 < r.number

abbrev pub Fits : ℕ → ℕ → ℕ → OutputLengths → RunAnswer → Type 0
Fits d K w o (ended rs x) = EndedFits d K w o rs x
Fits d K w o (stopped rs r f) = StoppedFits K o rs r f

-- an answer with its finished windows counted from n on
abbrev pub counted_from : ℕ → RunAnswer → RunAnswer
counted_from n (ended rs x) = ended rs x
counted_from n (stopped rs r f) = stopped rs (record { number = r.number; place = r.place; finished = r.finished - n; steps = r.steps }) f

counted_from_0 : (a : RunAnswer) → counted_from 0 a ≡ a
counted_from_0 (ended rs x) = refl
counted_from_0 (stopped rs r f) = rw sub-zero

-- the answer for w windows behind n others
answer_fits : (M : Dynamics) (d K n w m : ℕ) (o : OutputLengths) (t : Course) → Rows d K n w t → w * (1 + 2 * K) ≤ o.rows → K ≤ o.exponents → d ≤ o.state
    → Fits d K w o (counted_from n (answer M m K t.rows t.end))
unfolding answer
answer_fits M d K n w m o t R hr he hs = go t.end R.end
  where
    room : length t.rows * (1 + 2 * K) ≤ o.rows
    room = le_trans (mul-le-mul_right (1 + 2 * K) R.few) hr

    go : (x : Status) → Holds (λ c. Has d K (n + length t.rows) c × (length t.rows ≡ w)) (n + length t.rows) x → Fits d K w o (counted_from n (answer M m K t.rows x))
    go (ok c) p =
        record {
          wide = R.wide;
          many = p.1;
          rows_room = room;
          exponents = length-map c.totals.sums _ ∙ p.0.sums;
          exponents_room = he;
          faint = p.0.faint;
          state = p.0.state;
          state_room = hs;
        }
    go (refused r) p = record { wide = R.wide; many = omega (arith, p.0); rows_room = room; faint = refl; numbered = p.1 }

-- no test refuses by 0
abbrev Numbered : List Test → Type 0
Numbered [] = Unit {0}
Numbered (t ∷ ts) = (0 < t.refusal.number) × Numbered ts

numbered_first : (ts : List Test) → Numbered ts → (r : Refusal) → some r ≡ first_failing ts → 0 < r.number
unfolding first_failing
numbered_first [] h r e = let z : ◌≡◌ {A = ℕ} 0 1 = cc in absurd (omega arith)
numbered_first (t ∷ ts) h r e = go t.passes (numbered_first ts h.1 r) e
  where
    go : (b : Bool) → (some r ≡ first_failing ts → 0 < r.number) → some r ≡ cond b (first_failing ts) (some t.refusal) → 0 < r.number
    go true f e = f e
    go false f e = let z : r ≡ t.refusal = cc in rw z h.0

pub dynamics_keeps : (S : System) (m : List Float) (h : Float) (n : ℕ) → KeepsState (dynamics S m h n)
unfolding dynamics
dynamics_keeps S m h n s x = state_length S m h x

-- windows of i that stand behind n others and are the last of `total`
module _ (total : ℕ) (i : Input) (K : ℕ) (o : OutputLengths) (n : ℕ) where
  numbered_tests : Numbered (run_tests (problem_within total i) K o)
  unfolding run_tests problem_within
  numbered_tests = omega arith

  pub refused_fits : (P : Problem) (r : Refusal) → some r ≡ first_failing (run_tests (problem_within total i) K o) → Fits (dim i.system) K i.windows o (counted_from n (run_past (some r) P K))
  unfolding run_past
  refused_fits P r e = record { wide = tt; many = omega arith; rows_room = omega arith; faint = refl; numbered = numbered_first (run_tests (problem_within total i) K o) numbered_tests r e }

  pub passed_fits : (M : Dynamics) (m : ℕ) (t : Course) → none ≡ first_failing (run_tests (problem_within total i) K o) → Rows (length i.state) K n i.windows t
      → Fits (dim i.system) K i.windows o (counted_from n (answer M m K t.rows t.end))
  passed_fits M m t e R =
      let g = ready total i K o e in
      subst (λ (d : ℕ). Fits d K i.windows o (counted_from n (answer M m K t.rows t.end))) g.step.state
      (answer_fits M (length i.state) K n i.windows m o t R g.rows g.exponents (rw g.step.state g.state))

module _ (i : Input) (K : ℕ) where
  pub estimate_rows : Rows (length i.state) K 0 i.windows (course_of (problem i) K)
  unfolding problem
  estimate_rows = course_rows (problem i) K (dynamics_keeps i.system i.matrix i.step_size i.steps)

  past_fits : (o : OutputLengths) (r : Option Refusal) → r ≡ first_failing (run_tests (problem i) K o) → Fits (dim i.system) K i.windows o (counted_from 0 (run_past r (problem i) K))
  unfolding run_past problem
  past_fits o (some r) e = refused_fits i.windows i K o 0 (problem i) r e
  past_fits o none e = passed_fits i.windows i K o 0 (problem i).dynamics i.windows (course_of (problem i) K) e estimate_rows

  pub estimate_fits : (o : OutputLengths) → Fits (dim i.system) K i.windows o (estimate i K o)
  unfolding estimate run
  estimate_fits o = subst (Fits (dim i.system) K i.windows o) (counted_from_0 (estimate i K o)) (past_fits o (first_failing (run_tests (problem i) K o)) refl)

-- ---- rows

pub flat_length : (K : ℕ) (rs : List Row) → Wide K rs → length (flat_rows rs) ≡ length rs * (1 + 2 * K)
unfolding flat_rows
flat_length K [] h = omega arith
flat_length K (r ∷ rs) h = simp (length-append, suc-mul) (omega (arith, h.0, h.1, flat_length K rs h.2))

-- a row behind the floats p and before the floats q
module _ (K a : ℕ) (p : List Float) (r : Row) (q : List Float) (e : length p ≡ a) (l : length r.locals ≡ K) (g : length r.runnings ≡ K) where
  behind : drop (a + 1) (p ++ (flat_row r ++ q)) ≡ r.locals ++ (r.runnings ++ q)
  behind = sym (drop-drop 1 a (p ++ (flat_row r ++ q))) ∙ ap (drop 1) (drop_at p (flat_row r ++ q) a e) ∙ append_assoc r.locals r.runnings q

  row_back : row_at K (p ++ (flat_row r ++ q)) a ≡ r
  row_back =
      let A = get_or_at p r.end_time (r.locals ++ r.runnings ++ q) nan a e in
      let B = ap (take K) behind ∙ take_at r.locals (r.runnings ++ q) K l in
      let C =
      ap (take K) (sym (drop-drop K (a + 1) (p ++ (flat_row r ++ q))) ∙ ap (drop K) behind ∙ drop_at r.locals (r.runnings ++ q) K l)
      ∙ take_at r.runnings q K g in
      λ j. record { end_time = A j; locals = B j; runnings = C j }

rows_back : (K w : ℕ) (p : List Float) (rs : List Row) (q : List Float) → length p ≡ w * (1 + 2 * K) → Wide K rs → rows_from K (p ++ (flat_rows rs ++ q)) w (length rs) ≡ rs
unfolding rows_from flat_rows
rows_back K w p [] q e h = refl
rows_back K w p (r ∷ rs) q e h =
    let z : length (p ++ flat_row r) ≡ suc w * (1 + 2 * K) = simp (length-append, suc-mul) (omega (arith, e, h.0, h.1)) in
    let o = ap (λ (l : List Float). p ++ l) (append_assoc (flat_row r) (flat_rows rs) q) in
    ap₂ (λ (a : Row) (l : List Row). a ∷ l)
    (ap (λ (l : List Float). row_at K l (w * (1 + 2 * K))) o ∙ row_back K (w * (1 + 2 * K)) p r (flat_rows rs ++ q) e h.0 h.1)
    (ap (λ (l : List Float). rows_from K l (suc w) (length rs)) (o ∙ sym (append_assoc p (flat_row r) (flat_rows rs ++ q))) ∙ rows_back K (suc w) (p ++ flat_row r) rs q z h.2)

pub rows_read : (K : ℕ) (rows : List Float) (rs : List Row) → Wide K rs → length rs * (1 + 2 * K) ≤ length rows → rows_from K (sets rows 0 (flat_rows rs)) 0 (length rs) ≡ rs
rows_read K rows rs h g =
    let l = flat_length K rs h in
    ap (λ (z : List Float). rows_from K z 0 (length rs)) (sets_start (flat_rows rs) rows (omega arith)) ∙ rows_back K 0 [] rs (drop (length (flat_rows rs)) rows) (omega arith) h

-- ---- faint counts

rest_same {a} : {A : Type a} (x : A) (k n : ℕ) → take k (replicate n x) ++ replicate (n - length (take k (replicate n x))) x ≡ replicate n x
rest_same x zero n = rw sub-zero
rest_same x (suc k) zero = refl
rest_same {A = A} x (suc k) (suc n) =
    let z : suc n - suc (length (take k (replicate n x))) ≡ n - length (take k (replicate n x)) = omega arith in
    ap (λ (l : List A). x ∷ l) (ap (λ (m : ℕ). take k (replicate n x) ++ replicate m x) z ∙ rest_same x k n)

pub none_faint : (K : ℕ) → sixteen (no_faint K) ≡ replicate 16 0
none_faint K = rest_same {A = ℕ} 0 K 16

-- ---- the answer

written_front : (n : ℕ) (l v : List Float) → length v ≡ n → n ≤ length l → take n (sets l 0 v) ≡ v
written_front n l v e h = ap (take n) (sets_start v l (omega arith)) ∙ take_at v _ n e

pub read_back : (d K w : ℕ) (rows es fs : List Float) (a : RunAnswer) → Fits d K w (lengths_of rows es fs) a → read d K (outputs w rows es fs a) ≡ a
unfolding outputs_from
read_back d K w rows es fs (ended rs x) h =
    rw (
      ← h.many,
      rows_read K rows rs h.wide h.rows_room,
      written_front K es x.exponents h.exponents h.exponents_room,
      written_front d fs x.state h.state h.state_room,
      take_at x.faint _ K h.faint,
    )
read_back d K w rows es fs (stopped rs r f) h =
    rw (h.faint, none_faint K, ← h.many, rows_read K rows rs h.wide h.rows_room)

-- A call that meets the contract reads as the run.
pub reads : (i : Input) (K : ℕ) (c : Call) → Meets i K c → read (dim i.system) K c.after ≡ estimate i K (lent c)
unfolding estimated
reads i K c m = ap (read (dim i.system) K) m ∙ read_back (dim i.system) K i.windows c.rows c.exponents c.final_state (estimate i K (lent c)) (estimate_fits i K (lent c))

-- what is refused has a number that is not 0
abbrev pub NotZero : Option Refusal → Type 0
NotZero none = Unit {0}
NotZero (some r) = 0 < r.number

outputs_number : (d K w : ℕ) (rows es fs : List Float) (a : RunAnswer) → Fits d K w (lengths_of rows es fs) a → NotZero (outputs w rows es fs a).refusal
unfolding outputs_from
outputs_number d K w rows es fs (ended rs x) h = tt
outputs_number d K w rows es fs (stopped rs r f) h = h.numbered

pub estimated_number : (i : Input) (K : ℕ) (rows es fs : List Float) → NotZero (estimated i K rows es fs).refusal
unfolding estimated
estimated_number i K rows es fs = outputs_number (dim i.system) K i.windows rows es fs (estimate i K (lengths_of rows es fs)) (estimate_fits i K (lengths_of rows es fs))
