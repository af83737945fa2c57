-- Sums of products, and vectors that lie one after the other.
use Prim.Native.Nat.{ℕ, zero, suc, ◌+◌, ◌*◌, ◌≤◌, ◌<◌}
use native.Mathlib.Nat.{suc-mul, zero-mul, add_comm, mul-le-mul_right, not-suc-le-zero, le_of_suc-le-suc}
use native.Mathlib.Numerals.{add-one}
use native.Mathlib.Omega.{arith}
use mathlib.Core.Path.{◌≡◌, refl, sym, ap, ap₂, ◌∙◌}
use mathlib.Core.List.{List, [], ◌∷◌, ◌++◌, map, append_assoc, append-nil}
use lib.ListN.{length, take, drop, get_or, length-drop, length-append, drop_of_length-le}
use lib.Seq.{sets, take_at, drop_at, take-add, take-nil, take-append-add, length-take-le, drop-cons, drop-drop}
use lib.Ieee.{Float, nan}
use Rattle.floats.specs.Arithmetic.{◌⊕◌, ◌⊗◌}
use Rattle.floats.specs.Vector.{dot_from, part, chunks, concat}
use Rattle.floats.proofs.Sets.{part_before}

-- ---- a sum of products: one more, and the end

pub dot_next : (s : Float) (a b : List Float) (i : ℕ) → i < length a → i < length b
    → dot_from s (drop i a) (drop i b) ≡ dot_from (s ⊕ get_or a i nan ⊗ get_or b i nan) (drop (i + 1) a) (drop (i + 1) b)
unfolding dot_from
dot_next s a b i h g = rw (add-one, drop-cons a i nan h, drop-cons b i nan g)

pub dot_end : (s : Float) (a b : List Float) (i : ℕ) → length a ≤ i → dot_from s (drop i a) b ≡ s
unfolding dot_from
dot_end s a b i h = rw (drop_of_length-le a h)

-- ---- n vectors of d entries

pub chunks_at : (d n : ℕ) (m : List Float) (i : ℕ) → i < n → get_or (chunks d n m) i [] ≡ take d (drop (i * d) m)
unfolding chunks
chunks_at d zero m i h = absurd (not-suc-le-zero h)
chunks_at d (suc n) m zero h = rw zero-mul
chunks_at d (suc n) m (suc i) h = chunks_at d n (drop d m) i (le_of_suc-le-suc h) ∙ rw (drop-drop (i * d) d m, suc-mul, add_comm (i * d) d)

pub chunks_length : (d n : ℕ) (m : List Float) → length (chunks d n m) ≡ n
unfolding chunks
chunks_length d zero m = refl
chunks_length d (suc n) m = ap suc (chunks_length d n (drop d m))

pub chunks_sets : (d n b : ℕ) (l : List Float) (i : ℕ) (w : List Float) → b + n * d ≤ i → chunks d n (drop b (sets l i w)) ≡ chunks d n (drop b l)
unfolding chunks
chunks_sets d zero b l i w h = refl
chunks_sets d (suc n) b l i w h =
    let g : b + (n * d + d) ≤ i = rw suc-mul at h in
    ap₂ (λ (x : List Float) (xs : List (List Float)). x ∷ xs) (part_before b d l i w (omega arith))
    (rw (drop-drop d b (sets l i w), drop-drop d b l) (chunks_sets d n (b + d) l i w (omega arith)))

pub chunks_snoc : (d n : ℕ) (l : List Float) → chunks d (suc n) l ≡ chunks d n l ++ (part (n * d) d l ∷ [])
unfolding chunks
chunks_snoc d zero l = rw zero-mul
chunks_snoc d (suc n) l =
    ap (λ (xs : List (List Float)). take d l ∷ xs) (chunks_snoc d n (drop d l) ∙ rw (drop-drop (n * d) d l, suc-mul, add_comm (n * d) d))

pub concat_chunks : (d n : ℕ) (l : List Float) → concat (chunks d n l) ≡ take (n * d) l
unfolding chunks concat
concat_chunks d zero l = rw zero-mul
concat_chunks d (suc n) l = rw (concat_chunks d n (drop d l), suc-mul, add_comm (n * d) d) (sym (take-add d (n * d) l))

-- the last of n vectors lies before the end
pub vector_fits : (p v d : ℕ) → p < v → p * d + d ≤ v * d
vector_fits p v d h = let g : suc p * d ≤ v * d = mul-le-mul_right d h in rw suc-mul at g

-- ---- vectors of d entries each

abbrev pub Sized : ℕ → List (List Float) → Type 0
Sized d [] = Unit {0}
Sized d (v ∷ vs) = (length v ≡ d) × Sized d vs

pub concat_take : (d k : ℕ) (vs : List (List Float)) → Sized d vs → concat (take k vs) ≡ take (k * d) (concat vs)
unfolding concat
concat_take d zero vs h = rw zero-mul
concat_take d (suc k) [] h = sym (take-nil (suc k * d))
concat_take d (suc k) (v ∷ vs) h = rw (concat_take d k vs h.1, suc-mul, add_comm (k * d) d, ← h.0) (sym (take-append-add v (concat vs) (k * length v)))

pub length_concat : (d : ℕ) (vs : List (List Float)) → Sized d vs → length (concat vs) ≡ length vs * d
unfolding concat
length_concat d [] h = sym (zero-mul d)
length_concat d (v ∷ vs) h = rw (length-append, length_concat d vs h.1, suc-mul) (omega arith)

pub map_sized : (d : ℕ) (f : List Float → List Float) → ((v : List Float) → length v ≡ d → length (f v) ≡ d)
    → (vs : List (List Float)) → Sized d vs → Sized d (map f vs)
map_sized d f h [] s = tt
map_sized d f h (v ∷ vs) s = (h v s.0, map_sized d f h vs s.1)

pub chunks_sized : (d n : ℕ) (l : List Float) → n * d ≤ length l → Sized d (chunks d n l)
unfolding chunks
chunks_sized d zero l h = tt
chunks_sized d (suc n) l h =
    let g : n * d + d ≤ length l = rw suc-mul at h in
    (length-take-le d l (omega arith), chunks_sized d n (drop d l) (rw length-drop (omega arith)))

pub chunks_concat : (d : ℕ) (vs : List (List Float)) (l : List Float) → Sized d vs → chunks d (length vs) (concat vs ++ l) ≡ vs
unfolding chunks concat
chunks_concat d [] l h = refl
chunks_concat d (v ∷ vs) l h = rw (append_assoc v (concat vs) l, take_at v (concat vs ++ l) d h.0, drop_at v (concat vs ++ l) d h.0, chunks_concat d vs l h.1)

-- n vectors of d entries, put one after the other and taken apart again
pub chunks_back : (d n : ℕ) (vs : List (List Float)) → Sized d vs → length vs ≡ n → chunks d n (concat vs) ≡ vs
chunks_back d n vs h e = rw (← e, ← append-nil (concat vs)) (chunks_concat d vs [] h)
