-- The queue in memory: how many names it has, and its first one.
use Rattle.std.proofs.Common.{◌≡◌, ℕ, zero, suc, ◌+◌, ◌-◌, ◌<◌, ◌≤◌, ◌≢◌, min, Bool, true, false, cond, ltb, List, [], ◌∷◌, ◌++◌, length, take, drop, replicate, get_or, set, refl, ap, ◌∙◌, arith, length-take, length-drop, get_or-drop, ltb-true}
use Rattle.std.proofs.Math.Option.{none, some}
use Rattle.std.proofs.lemmas.List.Edits.{sets}
use Rattle.std.proofs.lemmas.List.{length-replicate}
use lib.Seq.{take-take, drop-drop}
use borrow.Rule.Slice.PartMut.{put_mid}
use Rattle.floats.proofs.Parts.{put_is}
use Rattle.schedule.specs.Schedule.{names_in, first_name, next_in, rotated}

-- names are written from the second on, and the first behind them
placed : (m : ℕ) (xs zs : List ℕ) (y : ℕ) → m ≤ length xs → m < length zs → take (suc m) (set (take m xs ++ drop m zs) m y) ≡ take m xs ++ (y ∷ [])
placed zero xs [] y h g = absurd (omega arith)
placed zero xs (z ∷ zs) y h g = refl
placed (suc m) [] zs y h g = absurd (omega arith)
placed (suc m) (x ∷ xs) [] y h g = absurd (omega arith)
placed (suc m) (x ∷ xs) (z ∷ zs) y h g = ap (λ (k : List ℕ). x ∷ k) (placed m xs zs y (omega arith) (omega arith))

-- they are the first n of eight, rotated
turned : (m n : ℕ) (x zs : List ℕ) → n ≡ suc m → n ≤ 8 → length x ≡ 8 → length zs ≡ 8 → take n (set (take m (take 7 (drop 1 x)) ++ drop m zs) m (get_or x 0 0)) ≡ drop 1 (take n x) ++ take 1 (take n x)
turned m n [] zs g h e f = absurd (omega arith)
turned m n (y ∷ xs) zs g h e f = rw (g, take-take m 7 xs (omega arith)) (placed m xs zs y (omega arith) (omega arith))

module _ (q : List ℕ) (l : length q ≡ 73) where
  -- as many as the count at 64, and at most eight
  pub names_many : length (names_in q) ≡ min (get_or q 64 0) 8
  names_many = simp (length-take, length-drop) (omega arith)

  -- they are the entries from 65 on, up to b
  module _ (b : ℕ) (e : b ≡ 65 + length (names_in q)) where
    pub names_are : take (b - 65) (drop 65 q) ≡ names_in q
    names_are =
        let z : b - 65 ≡ length (names_in q) = omega arith in
        rw z (taken (get_or q 64 0) 8 (drop 65 q))
      where
        taken : (a b : ℕ) (x : List ℕ) → take (length (take a (take b x))) x ≡ take a (take b x)
        taken zero b x = refl
        taken (suc a) zero x = refl
        taken (suc a) (suc b) [] = refl
        taken (suc a) (suc b) (y ∷ x) = ap (λ (k : List ℕ). y ∷ k) (taken a b x)

    -- and these are rotated
    pub rotated_is : (new : List ℕ) → (let ns = take (b - 65) (drop 65 q) in length new ≡ length ns → new ≡ drop 1 ns ++ take 1 ns → put_mid 65 (b - 65) q new ≡ rotated q)
    rotated_is new f g =
        rw e (put_is q 65 (length (names_in q)) new (omega (arith, names_many)) (f ∙ ap length names_are)) ∙ ap (sets q 65) (g ∙ ap (λ (x : List ℕ). drop 1 x ++ take 1 x) names_are)

  -- the first n of them, written from the second on with the first behind them
  pub names_turned : (n : ℕ) → 0 < n → n ≤ 8 → (let ns = take (65 + n - 65) (drop 65 q) in take n (set (take (n - 1) (take 7 (drop 66 q)) ++ drop (n - 1) (replicate 8 0)) (n - 1) (get_or q 65 0)) ≡ drop 1 ns ++ take 1 ns)
  names_turned n p h =
      let z : 65 + n - 65 ≡ n = omega arith in
      rw (z, ← drop-drop 1 65 q, ← get_or-drop 65 q 0 0) (turned (n - 1) n (drop 65 q) (replicate 8 0) (omega (arith, p)) h (simp length-drop (omega arith)) (length-replicate {A = ℕ} 8 0))

  -- the first one is next, if it is a name
  pub next_is : get_or q 64 0 ≢ 0 → next_in q ≡ cond (ltb (get_or q 65 0) 8) (some (get_or q 65 0)) none
  next_is h = first (get_or q 64 0) (drop 65 q) h (rw length-drop (omega arith)) ∙ rw (get_or-drop 65 q 0 0)
    where
      first : (a : ℕ) (x : List ℕ) → a ≢ 0 → 0 < length x → first_name (take a (take 8 x)) ≡ cond (ltb (get_or x 0 0) 8) (some (get_or x 0 0)) none
      first zero x h g = absurd (h refl)
      first (suc a) [] h g = absurd (omega arith)
      first (suc a) (y ∷ x) h g = refl

-- a name that is next is below 8, and stands in front
pub next_below : (ns : List ℕ) (j : ℕ) → first_name ns ≡ some j → (j < 8) × (0 < length ns)
next_below [] j e = let z : ◌≡◌ {A = ℕ} 0 1 = cc in absurd (omega arith)
next_below (n ∷ ns) j e = go (ltb n 8) refl e
  where
    go : (b : Bool) → ltb n 8 ≡ b → cond b (some n) none ≡ some j → (j < 8) × (0 < suc (length ns))
    go true f h = let z : n ≡ j = cc in (omega (arith, ltb-true n 8 f, z), omega arith)
    go false f h = let z : ◌≡◌ {A = ℕ} 0 1 = cc in absurd (omega arith)
