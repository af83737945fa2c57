-- What the loops go by: one more iteration, and the end. What is left to do is a function of the list as it is and of the index.
use Prim.Native.Nat.{ℕ, suc, ◌+◌, ◌-◌, ◌*◌, ◌≤◌, ◌<◌}
use native.Mathlib.Nat.{suc-mul, add-mul}
use native.Mathlib.Numerals.{add-one}
use native.Mathlib.Omega.{arith}
use mathlib.Core.Path.{◌≡◌, refl, sym, ap, ◌∙◌}
use mathlib.Core.List.{List, [], ◌∷◌}
use lib.ListN.{length, drop, get_or, set, length-set, drop_of_length-le}
use lib.Seq.{sets, length-sets, drop-set-lt, drop-set-add, take-set-lt, get_or-take, get_or-drop, drop-drop, get_or-set_same, get_or-set_other}
use lib.Ieee.{Float, nan, binary64, add, sub, mul}
use Rattle.gram_schmidt.specs.Orthonormalise.{subtract_projection, orthogonalise, orthogonalise_twice}
use Rattle.floats.specs.Arithmetic.{◌⊖◌, ◌⊗◌}
use Rattle.floats.specs.Vector.{updated, dot_from, part, chunks}
use Rattle.floats.proofs.Sets.{part_length, part_cons, part_set, part_sets, sets_over, sets_own}
use Rattle.floats.proofs.Updated.{updated_cons, updated_length}
use Rattle.floats.proofs.Vector.{chunks_sets}

-- ---- a direction less a multiple of another one

-- the entry that iteration i writes
abbrev pub entry : Float → ℕ → ℕ → List Float → ℕ → Float
entry p b t xs i = sub binary64 (get_or xs (t + i) nan) (mul binary64 p (get_or xs (b + i) nan))

-- the entries from iteration i on
abbrev rest : Float → ℕ → ℕ → ℕ → List Float → ℕ → List Float
rest p b t d xs i = subtract_projection p (drop i (part t d xs)) (drop i (part b d xs))

abbrev pub subtracting : Float → ℕ → ℕ → ℕ → List Float → ℕ → List Float
subtracting p b t d xs i = sets xs (t + i) (rest p b t d xs i)

pub subtract_next : (p : Float) (b t d : ℕ) (xs : List Float) (i : ℕ) → i < d → b + d ≤ t → t + d ≤ length xs
    → subtracting p b t d xs i ≡ subtracting p b t d (set xs (t + i) (entry p b t xs i)) (i + 1)
subtract_next p b t d xs i h g k =
    let z = entry p b t xs i in
    let n : length (part t d xs) ≡ d = part_length t d xs k in
    let m : length (part b d xs) ≡ d = part_length b d xs (omega arith) in
    let e : t + (i + 1) ≡ suc (t + i) = omega arith in
    rw (part_set b d xs (t + i) z (omega arith), drop-set-add t xs i z, take-set-lt d (drop t xs) i z h, drop-set-lt (i + 1) (part t d xs) i z (omega arith), updated_cons (λ x y. x ⊖ p ⊗ y) (part t d xs) (part b d xs) i nan nan (omega arith) (omega arith))
    (rw (get_or-take d (drop t xs) i nan h, get_or-take d (drop b xs) i nan h, get_or-drop t xs i nan, get_or-drop b xs i nan, e) refl)

pub subtract_end : (p : Float) (b t d : ℕ) (xs : List Float) (i : ℕ) → d ≤ i → t + d ≤ length xs → subtracting p b t d xs i ≡ xs
unfolding updated
subtract_end p b t d xs i h g = let n : length (part t d xs) ≡ d = part_length t d xs g in rw (drop_of_length-le (part t d xs) {i = i} (omega arith))

-- ---- the product that is summed beside it, over the list as the loop leaves it

getD_before : (l : List Float) (j : ℕ) (w : List Float) (k : ℕ) → k < j → get_or (sets l j w) k nan ≡ get_or l k nan
getD_before l j [] k h = refl
getD_before l j (x ∷ w) k h = getD_before (set l j x) (suc j) w k (omega arith) ∙ get_or-set_other l j k x nan (λ e. omega arith)

abbrev pub summing : ℕ → ℕ → ℕ → List Float → Float → ℕ → Float
summing n t d zs s i = dot_from s (part (n + i) (d - i) zs) (part (t + i) (d - i) zs)

-- zs is what the list is left as: nothing before the entry that iteration i writes is written any more
pub summing_next : (p : Float) (n b t d : ℕ) (xs zs : List Float) (s : Float) (i : ℕ) → i < d → n ≤ t → t + d ≤ length xs
    → zs ≡ subtracting p b t d (set xs (t + i) (entry p b t xs i)) (i + 1)
    → summing n t d zs s i ≡ summing n t d zs (add binary64 s (mul binary64 (get_or (set xs (t + i) (entry p b t xs i)) (n + i) nan) (entry p b t xs i))) (i + 1)
unfolding dot_from
summing_next p n b t d xs zs s i h g k e =
    let ys = set xs (t + i) (entry p b t xs i) in
    let m : length zs ≡ length xs = ap length e ∙ length-sets ys (t + (i + 1)) (rest p b t d ys (i + 1)) ∙ length-set xs (t + i) (entry p b t xs i) in
    let kept : (j : ℕ) → j < t + (i + 1) → get_or zs j nan ≡ get_or ys j nan = λ j l. rw e (getD_before ys (t + (i + 1)) (rest p b t d ys (i + 1)) j l) in
    let e₁ : d - i ≡ suc (d - (i + 1)) = omega arith in
    let e₂ : t + (i + 1) ≡ suc (t + i) = omega arith in
    let e₃ : n + (i + 1) ≡ suc (n + i) = omega arith in
    let a = kept (n + i) (omega arith) in
    let z = kept (t + i) (omega arith) ∙ get_or-set_same xs (t + i) (entry p b t xs i) nan (omega arith) in
    rw (e₁, e₂, e₃, part_cons (n + i) (d - (i + 1)) zs (omega arith), part_cons (t + i) (d - (i + 1)) zs (omega arith), a, z)

pub summing_end : (n t d : ℕ) (zs : List Float) (s : Float) (i : ℕ) → d ≤ i → summing n t d zs s i ≡ s
unfolding dot_from
summing_end n t d zs s i h = let e : d - i ≡ 0 = omega arith in rw e

-- ---- a direction cleared of each earlier one

pub orthogonalise_length : (z : Float) (bs : List (List Float)) (v : List Float) → length (orthogonalise z bs v) ≡ length v
unfolding orthogonalise
orthogonalise_length z [] v = refl
orthogonalise_length z (b ∷ bs) v = orthogonalise_length z bs (subtract_projection (dot_from z b v) v b) ∙ updated_length _ v b

pub orthogonalise_twice_length : (z : Float) (bs : List (List Float)) (v : List Float) → length (orthogonalise_twice z bs v) ≡ length v
orthogonalise_twice_length z bs v = orthogonalise_length z bs _ ∙ orthogonalise_length z _ v

-- with sums from z; what is left to do from the earlier direction p on
module _ (z : Float) where
  abbrev pub orthogonalising : ℕ → ℕ → List Float → ℕ → List Float
  orthogonalising d v xs p = sets xs (v * d) (orthogonalise z (chunks d (v - p) (drop (p * d) xs)) (part (v * d) d xs))

  module _ (d v : ℕ) (xs : List Float) (g : v * d + d ≤ length xs) where
    -- an iteration as the code has it: r is the product, and ys what it leaves of xs
    pub orthogonalise_next : (p : ℕ) (r : Float) (ys : List Float) → p < v → r ≡ dot_from z (part (p * d) d xs) (part (v * d) d xs)
        → ys ≡ sets xs (v * d) (subtract_projection r (part (v * d) d xs) (part (p * d) d xs))
        → orthogonalising d v xs p ≡ orthogonalising d v ys (p + 1)
    unfolding orthogonalise chunks
    orthogonalise_next p r ys h e f =
        let m = v - (p + 1) in
        let w = subtract_projection (dot_from z (part (p * d) d xs) (part (v * d) d xs)) (part (v * d) d xs) (part (p * d) d xs) in
        let e₁ : v - p ≡ suc m = omega arith in
        let e₂ : (p + 1) * d ≡ p * d + d = rw (add-one, suc-mul) in
        let e₃ : v ≡ suc p + m = omega arith in
        let e₄ : v * d ≡ p * d + d + m * d = ap (λ (n : ℕ). n * d) e₃ ∙ rw (add-mul, suc-mul) in
        let e₅ : length w ≡ d = updated_length _ _ _ ∙ part_length (v * d) d xs g in
        let bs = chunks d m (drop (p * d + d) xs) in
        let e₆ : length w ≡ length (orthogonalise z bs w) = sym (orthogonalise_length z bs w) in
        rw (f, e, e₁, e₂, part_sets xs (v * d) w d e₅ g, chunks_sets d m (p * d + d) xs (v * d) w (omega arith), drop-drop d (p * d) xs)
        (sym (sets_over xs (v * d) w (orthogonalise z bs w) e₆ (omega arith)))

    pub orthogonalise_end : (p : ℕ) → v ≤ p → orthogonalising d v xs p ≡ xs
    unfolding orthogonalise chunks
    orthogonalise_end p h = let e : v - p ≡ 0 = omega arith in rw e (sets_own xs (v * d) d g)
