-- Lists entry by entry: a map, a zip, and an update in place. Lengths, entries, fronts, and what a loop goes by.
use Prim.Native.Nat.{ℕ, zero, suc, ◌+◌, ◌≤◌, ◌<◌}
use native.Mathlib.Nat.{not-suc-le-zero, le_of_suc-le-suc}
use native.Mathlib.Numerals.{add-one}
use native.Mathlib.Omega.{arith}
use mathlib.Core.Path.{◌≡◌, refl, sym, ap, ◌∙◌}
use mathlib.Core.List.{List, [], ◌∷◌, ◌++◌, map}
use lib.ListN.{length, take, drop, get_or, set, drop_of_length-le, take-append-drop}
use lib.Seq.{drop-cons, take-suc-set, drop-set-lt, append_snoc, set-get_or}
use Rattle.floats.specs.Vector.{zip, updated}

-- ---- a map

pub map_take {a b} : {A : Type a} {B : Type b} (f : A → B) (k : ℕ) (l : List A) → map f (take k l) ≡ take k (map f l)
map_take f zero l = refl
map_take f (suc k) [] = refl
map_take f (suc k) (x ∷ l) = ap (λ t. f x ∷ t) (map_take f k l)

pub map_drop {a b} : {A : Type a} {B : Type b} (f : A → B) (k : ℕ) (l : List A) → map f (drop k l) ≡ drop k (map f l)
map_drop f zero l = refl
map_drop f (suc k) [] = refl
map_drop f (suc k) (x ∷ l) = map_drop f k l

pub map_at {a b} : {A : Type a} {B : Type b} (f : A → B) (l : List A) (i : ℕ) (x : A) (y : B) → i < length l → get_or (map f l) i y ≡ f (get_or l i x)
map_at f [] i x y h = absurd (not-suc-le-zero h)
map_at f (z ∷ l) zero x y h = refl
map_at f (z ∷ l) (suc i) x y h = map_at f l i x y (le_of_suc-le-suc h)

-- ---- a zip

module _ {a b c} {A : Type a} {B : Type b} {C : Type c} (f : A → B → C) where
  pub zip_take : (k : ℕ) (l : List A) (m : List B) → zip f (take k l) (take k m) ≡ take k (zip f l m)
  unfolding zip
  zip_take zero l m = refl
  zip_take (suc k) [] m = refl
  zip_take (suc k) (x ∷ l) [] = refl
  zip_take (suc k) (x ∷ l) (y ∷ m) = ap (λ t. f x y ∷ t) (zip_take k l m)

  pub zip_length : (l : List A) (m : List B) (n : ℕ) → length l ≡ n → length m ≡ n → length (zip f l m) ≡ n
  unfolding zip
  zip_length [] m n h g = h
  zip_length (x ∷ l) [] n h g = g
  zip_length (x ∷ l) (y ∷ m) zero h g = omega arith
  zip_length (x ∷ l) (y ∷ m) (suc n) h g = ap suc (zip_length l m n (omega arith) (omega arith))

-- ---- an update in place

module _ {a b} {A : Type a} {B : Type b} (f : A → B → A) where
  -- the next entry: what every loop below goes by
  pub updated_cons : (xs : List A) (ys : List B) (i : ℕ) (x : A) (y : B) → i < length xs → i < length ys
      → updated f (drop i xs) (drop i ys) ≡ f (get_or xs i x) (get_or ys i y) ∷ updated f (drop (i + 1) xs) (drop (i + 1) ys)
  unfolding updated
  updated_cons xs ys i x y h g = rw (add-one, drop-cons xs i x h, drop-cons ys i y g)

  updated_none : (xs : List A) → updated f xs [] ≡ xs
  unfolding updated
  updated_none [] = refl
  updated_none (x ∷ xs) = refl

  pub updated_length : (xs : List A) (ys : List B) → length (updated f xs ys) ≡ length xs
  unfolding updated
  updated_length [] ys = refl
  updated_length (x ∷ xs) [] = refl
  updated_length (x ∷ xs) (y ∷ ys) = ap suc (updated_length xs ys)

  updated_rest : (n : ℕ) (xs : List A) (ys : List B) → drop n (updated f xs ys) ≡ updated f (drop n xs) (drop n ys)
  unfolding updated
  updated_rest zero xs ys = refl
  updated_rest (suc n) [] ys = refl
  updated_rest (suc n) (x ∷ xs) [] = sym (updated_none (drop n xs))
  updated_rest (suc n) (x ∷ xs) (y ∷ ys) = updated_rest n xs ys

  -- the entries that were gone over, and those behind them
  pub updated_take : (xs : List A) (ys : List B) (k : ℕ) → length ys ≡ k → k ≤ length xs → take k (updated f xs ys) ≡ zip f (take k xs) ys
  unfolding updated zip
  updated_take xs [] zero e h = refl
  updated_take xs [] (suc k) e h = absurd (omega arith)
  updated_take xs (y ∷ ys) zero e h = absurd (omega arith)
  updated_take [] (y ∷ ys) (suc k) e h = absurd (omega arith)
  updated_take (x ∷ xs) (y ∷ ys) (suc k) e h = ap (λ (t : List A). f x y ∷ t) (updated_take xs ys k (omega arith) (omega arith))

  pub updated_drop : (xs : List A) (ys : List B) (k : ℕ) → length ys ≤ k → drop k (updated f xs ys) ≡ drop k xs
  updated_drop xs ys k e = updated_rest k xs ys ∙ rw (drop_of_length-le ys e) (updated_none (drop k xs))

  -- a loop that updates in place: one more entry, an entry that is left as it is, and the end
  pub updated_next : (xs : List A) (ys : List B) (i : ℕ) (x : A) (y : B) → i < length xs → i < length ys
      → take i xs ++ updated f (drop i xs) (drop i ys)
      ≡ take (i + 1) (set xs i (f (get_or xs i x) (get_or ys i y))) ++ updated f (drop (i + 1) (set xs i (f (get_or xs i x) (get_or ys i y)))) (drop (i + 1) ys)
  updated_next xs ys i x y h g =
      let z = f (get_or xs i x) (get_or ys i y) in
      rw (updated_cons xs ys i x y h g, drop-set-lt (i + 1) xs i z (omega arith), add-one, take-suc-set xs i z h)
      (sym (append_snoc (take i xs) z (updated f (drop (suc i) xs) (drop (suc i) ys))))

  pub updated_same : (xs : List A) (ys : List B) (i : ℕ) (x : A) (y : B) → i < length xs → i < length ys → f (get_or xs i x) (get_or ys i y) ≡ get_or xs i x
      → take i xs ++ updated f (drop i xs) (drop i ys) ≡ take (i + 1) xs ++ updated f (drop (i + 1) xs) (drop (i + 1) ys)
  updated_same xs ys i x y h g e = updated_next xs ys i x y h g ∙ rw (e, set-get_or xs i x)

  pub updated_end : (xs : List A) (ys : List B) (i : ℕ) → length ys ≤ i → take i xs ++ updated f (drop i xs) (drop i ys) ≡ xs
  updated_end xs ys i h = rw (drop_of_length-le ys h, updated_none (drop i xs)) (take-append-drop i xs)
