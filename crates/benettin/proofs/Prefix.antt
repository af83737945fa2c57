-- What is done to a prefix of the directions is the prefix of what is done to all of them: lists, the first entry that is not finite, and the orthonormaliser.
use Prim.Native.Nat.{ℕ, zero, suc, ◌*◌, ◌≤◌, ◌<◌}
use native.Mathlib.Nat.{not-suc-le-zero, le_of_suc-le-suc, zero-lt-suc}
use native.Mathlib.Omega.{arith}
use mathlib.Core.Path.{◌≡◌, refl, ap, ◌∙◌}
use mathlib.Core.Logic.{◌⊎◌, inl, inr}
use mathlib.Core.Bool.{Bool, true, false, cond}
use mathlib.Core.List.{List, [], ◌∷◌, ◌++◌, map}
use mathlib.Core.Option
use mathlib.Core.Option.{Option, none, some}
use lib.ListN.{length, take, replicate, length-map}
use lib.Ieee.{Float}
use Rattle.gram_schmidt.specs.Orthonormalise.{Lengths, Basis, orthonormalise, with_direction, orthogonalise, collapsed}
use Rattle.benettin.specs.Run.{Generator, draws, drawn_directions, generator_after}
use Rattle.floats.specs.Vector.{concat}
use lib.Ieee.Scale.{finite}
use Rattle.floats.specs.Finite.{first_not_finite}
use Rattle.floats.specs.Arithmetic.{◌⊘◌}
use Rattle.floats.proofs.Vector.{Sized, concat_take}
use Rattle.gram_schmidt.proofs.Loops.{orthogonalise_length}

-- ---- a place that is kept where it is below k

abbrev pub cut_at : ℕ → Option ℕ → Option ℕ
cut_at zero o = none
cut_at (suc k) none = none
cut_at (suc k) (some zero) = some zero
cut_at (suc k) (some (suc i)) = Option.map suc (cut_at k (some i))

pub cut_none : (k : ℕ) → cut_at k none ≡ none
cut_none zero = refl
cut_none (suc k) = refl

pub cut_map : (k : ℕ) (o : Option ℕ) → Option.map suc (cut_at k o) ≡ cut_at (suc k) (Option.map suc o)
cut_map k none = rw cut_none
cut_map k (some i) = refl

pub cut_some : (k i : ℕ) → (cut_at k (some i) ≡ some i) ⊎ (k ≤ i)
cut_some zero i = inr (omega arith)
cut_some (suc k) zero = inl refl
cut_some (suc k) (suc i) = go (cut_some k i)
  where
    go : (cut_at k (some i) ≡ some i) ⊎ (k ≤ i) → (Option.map suc (cut_at k (some i)) ≡ some (suc i)) ⊎ (suc k ≤ suc i)
    go (inl e) = inl (rw e)
    go (inr h) = inr (omega arith)

-- ---- lists

pub take_replicate {a} : {A : Type a} (x : A) (k n : ℕ) → k ≤ n → take k (replicate n x) ≡ replicate k x
take_replicate x zero n h = refl
take_replicate x (suc k) zero h = absurd (not-suc-le-zero h)
take_replicate x (suc k) (suc n) h = ap (λ t. x ∷ t) (take_replicate x k n (le_of_suc-le-suc h))

pub drawn_directions_take : (G : Generator) (d k n s : ℕ) → k ≤ n → take k (drawn_directions G d n s) ≡ drawn_directions G d k s
unfolding drawn_directions
drawn_directions_take G d zero n s h = refl
drawn_directions_take G d (suc k) zero s h = absurd (not-suc-le-zero h)
drawn_directions_take G d (suc k) (suc n) s h = ap (λ t. draws G d s ∷ t) (drawn_directions_take G d k n (generator_after G.next d s) (le_of_suc-le-suc h))

-- ---- directions of d entries each

pub draws_length : (G : Generator) (n s : ℕ) → length (draws G n s) ≡ n
unfolding draws
draws_length G zero s = refl
draws_length G (suc n) s = ap suc (draws_length G n (G.next s))

pub drawn_directions_sized : (G : Generator) (d n s : ℕ) → Sized d (drawn_directions G d n s)
unfolding drawn_directions
drawn_directions_sized G d zero s = tt
drawn_directions_sized G d (suc n) s = (draws_length G d s, drawn_directions_sized G d n (generator_after G.next d s))

pub drawn_directions_length : (G : Generator) (d n s : ℕ) → length (drawn_directions G d n s) ≡ n
unfolding drawn_directions
drawn_directions_length G d zero s = refl
drawn_directions_length G d (suc n) s = ap suc (drawn_directions_length G d n (generator_after G.next d s))

-- ---- the first entry that is not finite

pub first_not_finite_take : (k : ℕ) (l : List Float) → first_not_finite (take k l) ≡ cut_at k (first_not_finite l)
unfolding first_not_finite
first_not_finite_take zero l = refl
first_not_finite_take (suc k) [] = refl
first_not_finite_take (suc k) (x ∷ l) = go (finite x) (first_not_finite_take k l)
  where
    go : (b : Bool) → first_not_finite (take k l) ≡ cut_at k (first_not_finite l)
        → cond b (Option.map suc (first_not_finite (take k l))) (some zero) ≡ cut_at (suc k) (cond b (Option.map suc (first_not_finite l)) (some zero))
    go true e = rw e (cut_map k (first_not_finite l))
    go false e = refl

pub first_not_finite_directions : (d k : ℕ) (vs : List (List Float)) → Sized d vs → first_not_finite (concat (take k vs)) ≡ cut_at (k * d) (first_not_finite (concat vs))
first_not_finite_directions d k vs h = rw (concat_take d k vs h) (first_not_finite_take (k * d) (concat vs))

-- the place lies in the list
abbrev pub Below : ℕ → Option ℕ → Type 0
Below n none = Unit {0}
Below n (some i) = i < n

pub below_suc : (n : ℕ) (o : Option ℕ) → Below n o → Below (suc n) (Option.map suc o)
below_suc n none h = tt
below_suc n (some i) h = omega arith

pub first_not_finite_below : (l : List Float) → Below (length l) (first_not_finite l)
unfolding first_not_finite
first_not_finite_below [] = tt
first_not_finite_below (x ∷ l) = go (finite x) (first_not_finite_below l)
  where
    go : (b : Bool) → Below (length l) (first_not_finite l) → Below (suc (length l)) (cond b (Option.map suc (first_not_finite l)) (some zero))
    go true h = below_suc (length l) (first_not_finite l) h
    go false h = zero-lt-suc (length l)

-- ---- the orthonormaliser

abbrev pub cut : ℕ → Basis → Basis
cut k b = record { directions = take k b.directions; logs = take k b.logs; reports = take k b.reports; collapse = cut_at k b.collapse }

with_direction_take : (k : ℕ) (t : Bool) (w : List Float) (ws : List (List Float)) (u : List Float) (l q : Float) (r : Basis)
    → with_direction t w (take k ws) u l q (cut k r) ≡ cut (suc k) (with_direction t w ws u l q r)
unfolding with_direction
with_direction_take k true w ws u l q r = refl
with_direction_take k false w ws u l q r =
    λ i. record { directions = u ∷ take k r.directions; logs = l ∷ take k r.logs; reports = q ∷ take k r.reports; collapse = cut_map k r.collapse i }

pub orthonormalise_take : (R : Lengths) (k : ℕ) (finished vs : List (List Float)) → orthonormalise R finished (take k vs) ≡ cut k (orthonormalise R finished vs)
unfolding orthonormalise
orthonormalise_take R zero finished vs = refl
orthonormalise_take R (suc k) finished [] = refl
orthonormalise_take R (suc k) finished (v ∷ vs) =
    let w = orthogonalise R.start finished (orthogonalise R.start finished v) in
    let u = map (λ x. x ⊘ R.norm w) w in
    rw (orthonormalise_take R k (finished ++ (u ∷ [])) vs)
    (with_direction_take k (collapsed (R.norm w)) w vs u (R.log (R.norm w)) (R.report w) (orthonormalise R (finished ++ (u ∷ [])) vs))

with_direction_sized : (d : ℕ) (t : Bool) (w : List Float) (ws : List (List Float)) (u : List Float) (l q : Float) (r : Basis)
    → length w ≡ d → length u ≡ d → Sized d ws → Sized d r.directions → Sized d (with_direction t w ws u l q r).directions
unfolding with_direction
with_direction_sized d true w ws u l q r hw hu hs hr = (hw, hs)
with_direction_sized d false w ws u l q r hw hu hs hr = (hu, hr)

pub orthonormalise_sized : (R : Lengths) (d : ℕ) (finished vs : List (List Float)) → Sized d vs → Sized d (orthonormalise R finished vs).directions
unfolding orthonormalise
orthonormalise_sized R d finished [] h = tt
orthonormalise_sized R d finished (v ∷ vs) h =
    let w = orthogonalise R.start finished (orthogonalise R.start finished v) in
    let u = map (λ x. x ⊘ R.norm w) w in
    let hw : length w ≡ d = orthogonalise_length R.start finished (orthogonalise R.start finished v) ∙ orthogonalise_length R.start finished v ∙ h.0 in
    with_direction_sized d (collapsed (R.norm w)) w vs u (R.log (R.norm w)) (R.report w) (orthonormalise R (finished ++ (u ∷ [])) vs)
    hw (length-map w (λ x. x ⊘ R.norm w) ∙ hw) h.1 (orthonormalise_sized R d (finished ++ (u ∷ [])) vs h.1)

-- as many directions are left, and a place of collapse is one of them
abbrev pub Whole : ℕ → Basis → Type 0
Whole n b = (length b.directions ≡ n) × Below n b.collapse

with_direction_whole : (n : ℕ) (t : Bool) (w : List Float) (ws : List (List Float)) (u : List Float) (l q : Float) (r : Basis)
    → length ws ≡ n → Whole n r → Whole (suc n) (with_direction t w ws u l q r)
unfolding with_direction
with_direction_whole n true w ws u l q r hs hr = (ap suc hs, zero-lt-suc n)
with_direction_whole n false w ws u l q r hs hr = (ap suc hr.0, below_suc n r.collapse hr.1)

pub orthonormalise_whole : (R : Lengths) (finished vs : List (List Float)) → Whole (length vs) (orthonormalise R finished vs)
unfolding orthonormalise
orthonormalise_whole R finished [] = (refl, tt)
orthonormalise_whole R finished (v ∷ vs) =
    let w = orthogonalise R.start finished (orthogonalise R.start finished v) in
    let u = map (λ x. x ⊘ R.norm w) w in
    with_direction_whole (length vs) (collapsed (R.norm w)) w vs u (R.log (R.norm w)) (R.report w) (orthonormalise R (finished ++ (u ∷ [])) vs)
    refl (orthonormalise_whole R (finished ++ (u ∷ [])) vs)
