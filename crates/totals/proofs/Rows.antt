-- A row, as `write_row` leaves it: the first entry, then the part lent on from the second, then the rest.
use Prim.Native.Nat.{ℕ, ◌+◌, ◌-◌, ◌*◌}
use native.Mathlib.Numerals.{add-one}
use native.Mathlib.Omega.{arith}
use mathlib.Core.Path.{◌≡◌, ap, ◌∙◌}
use mathlib.Core.List.{List, [], ◌∷◌, ◌++◌, append-nil}
use lib.ListN.{length, drop, set, length-append, length-drop, drop_of_length-le}
use lib.Seq.{take_at, drop_at}
use lib.Ieee.{Float}
use borrow.Rule.Slice.PartMut.{put_mid}

-- the row once the first part is back
abbrev pub mid : List Float → Float → List Float → ℕ → List Float
mid row time vs k = put_mid 1 (k + 1 - 1) (set row 0 time) vs

mid_is : (x : Float) (rest : List Float) (time : Float) (vs : List Float) (k : ℕ) → mid (x ∷ rest) time vs k ≡ time ∷ (vs ++ drop k rest)
mid_is x rest time vs k = let z : k + 1 - 1 ≡ k = omega arith in rw z

mid_length : (row : List Float) (time : Float) (vs : List Float) (k : ℕ) → length row ≡ 1 + 2 * k → length vs ≡ k → length (mid row time vs k) ≡ 1 + 2 * k
mid_length [] time vs k h g = absurd (omega arith)
mid_length (x ∷ rest) time vs k h g = ap length (mid_is x rest time vs k) ∙ simp (length-append, length-drop) (omega arith)

pub row_is : (row : List Float) (time : Float) (vs us : List Float) (k : ℕ) → length row ≡ 1 + 2 * k → length vs ≡ k → length us ≡ k
    → put_mid (k + 1) (length (mid row time vs k) - (k + 1)) (mid row time vs k) us ≡ time ∷ vs ++ us
row_is [] time vs us k h g f = absurd (omega arith)
row_is (x ∷ rest) time vs us k h g f =
    let e : length (mid (x ∷ rest) time vs k) - (k + 1) ≡ k = ap (λ (n : ℕ). n - (k + 1)) (mid_length (x ∷ rest) time vs k h g) ∙ omega arith in
    let z : drop k (drop k rest) ≡ [] = drop_of_length-le (drop k rest) {i = k} (rw length-drop (omega arith)) in
    rw (e, mid_is x rest time vs k, add-one, take_at vs (drop k rest) k g, drop_at vs (drop k rest) k g, z, append-nil)
