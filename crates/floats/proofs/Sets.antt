-- Parts of a list, and runs of stores into it.
use Prim.Native.Nat.{ℕ, zero, suc, ◌+◌, ◌-◌, ◌≤◌, ◌<◌}
use native.Mathlib.Nat.{add-zero, sub-zero}
use native.Mathlib.Omega.{arith}
use mathlib.Core.Path.{◌≡◌, refl, sym, ap, ◌∙◌}
use mathlib.Core.List.{List, [], ◌∷◌, ◌++◌, append_assoc}
use lib.ListN.{length, take, drop, get_or, set, replicate, length-drop, take-append-drop}
use lib.Seq.{sets, sets-eq, length-sets, take_at, drop_at, take-add, length-take-le, drop-cons, drop-set-lt, take-set-le, set_comm}
use lib.Ieee.{Float, nan}
use Rattle.floats.specs.Vector.{part}

pub part_length {u} : {A : Type u} (a d : ℕ) (l : List A) → a + d ≤ length l → length (part a d l) ≡ d
part_length a d l h = length-take-le d (drop a l) (rw length-drop (omega arith))

pub part_cons : (a m : ℕ) (l : List Float) → a < length l → part a (suc m) l ≡ get_or l a nan ∷ part (suc a) m l
part_cons a m l h = rw (drop-cons l a nan h)

pub drop_replicate {a} : {A : Type a} (x : A) (k n : ℕ) → k ≤ n → drop k (replicate n x) ≡ replicate (n - k) x
drop_replicate x zero n h = rw sub-zero
drop_replicate x (suc k) zero h = absurd (omega arith)
drop_replicate x (suc k) (suc n) h = let z : suc n - suc k ≡ n - k = omega arith in rw z (drop_replicate x k n (omega arith))

-- ---- a store, and a run of stores, outside of a part

pub part_set {u} : {A : Type u} (b d : ℕ) (l : List A) (i : ℕ) (x : A) → b + d ≤ i → part b d (set l i x) ≡ part b d l
part_set zero d l i x h = take-set-le d l i x (omega arith)
part_set (suc b) d [] i x h = refl
part_set (suc b) d (y ∷ l) zero x h = absurd (omega arith)
part_set (suc b) d (y ∷ l) (suc i) x h = part_set b d l i x (omega arith)

pub part_before {u} : {A : Type u} (b d : ℕ) (l : List A) (i : ℕ) (w : List A) → b + d ≤ i → part b d (sets l i w) ≡ part b d l
part_before b d l i [] h = refl
part_before b d l i (x ∷ w) h = part_before b d (set l i x) (suc i) w (omega arith) ∙ part_set b d l i x h

pub take_before {u} : {A : Type u} (n : ℕ) (l : List A) (i : ℕ) (w : List A) → n ≤ i → take n (sets l i w) ≡ take n l
take_before n l i [] h = refl
take_before n l i (x ∷ w) h = take_before n (set l i x) (suc i) w (omega arith) ∙ take-set-le n l i x h

pub drop_behind {u} : {A : Type u} (n : ℕ) (l : List A) (i : ℕ) (w : List A) → i + length w ≤ n → drop n (sets l i w) ≡ drop n l
drop_behind n l i [] h = refl
drop_behind n l i (x ∷ w) h = drop_behind n (set l i x) (suc i) w (omega arith) ∙ drop-set-lt n l i x (omega arith)

-- ---- the part that was written

pub part_sets {u} : {A : Type u} (l : List A) (i : ℕ) (w : List A) (d : ℕ) → length w ≡ d → i + d ≤ length l → part i d (sets l i w) ≡ w
part_sets l i w d e h =
    rw (sets-eq w l i (omega arith), append_assoc (take i l) w (drop (i + length w) l), drop_at (take i l) (w ++ drop (i + length w) l) i (length-take-le i l (omega arith)))
    (take_at w (drop (i + length w) l) d e)

pub sets_over : (l : List Float) (i : ℕ) (a b : List Float) → length a ≡ length b → i + length b ≤ length l → sets (sets l i a) i b ≡ sets l i b
sets_over l i a b e h =
    sets-eq b (sets l i a) i (rw length-sets h) ∙ rw (take_before i l i a (omega arith), drop_behind (i + length b) l i a (omega arith)) (sym (sets-eq b l i h))

pub sets_append : (l : List Float) (i : ℕ) (a b : List Float) → sets l i (a ++ b) ≡ sets (sets l i a) (i + length a) b
sets_append l i [] b = rw add-zero
sets_append l i (x ∷ a) b =
    sets_append (set l i x) (suc i) a b ∙ ap (λ (n : ℕ). sets (sets (set l i x) (suc i) a) n b) (omega arith)

pub sets_own : (l : List Float) (i k : ℕ) → i + k ≤ length l → sets l i (part i k l) ≡ l
sets_own l i k h =
    let e : length (part i k l) ≡ k = part_length i k l h in
    sets-eq (part i k l) l i (omega arith) ∙ rw (e, ← take-add i k l) (take-append-drop (i + k) l)

-- a store before a run of stores
pub set_sets : (l : List Float) (i : ℕ) (w : List Float) (j : ℕ) (x : Float) → j < i → set (sets l i w) j x ≡ sets (set l j x) i w
set_sets l i [] j x h = refl
set_sets l i (y ∷ w) j x h =
    set_sets (set l i y) (suc i) w j x (omega arith) ∙ ap (λ (m : List Float). sets m (suc i) w) (set_comm l i j y x (λ e. omega arith))

-- two runs of stores that do not meet
pub sets_before : (l : List Float) (i : ℕ) (w : List Float) (j : ℕ) (v : List Float) → j + length v ≤ i → sets (sets l i w) j v ≡ sets (sets l j v) i w
sets_before l i w j [] h = refl
sets_before l i w j (x ∷ v) h = ap (λ (m : List Float). sets m (suc j) v) (set_sets l i w j x (omega arith)) ∙ sets_before (set l j x) i w (suc j) v (omega arith)
