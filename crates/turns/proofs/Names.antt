-- The least free name.
use Prim.Native.Nat.{ℕ, zero, suc, ◌+◌, ◌≤◌, ◌<◌}
use native.Mathlib.Nat.{eq-or-lt_of_le}
use native.Mathlib.Omega.{arith}
use mathlib.Core.Path.{◌≡◌, refl, sym, ap, ◌∙◌}
use mathlib.Core.Bool.{Bool, true, false, cond}
use mathlib.Core.List.{List, [], ◌∷◌}
use mathlib.Core.Logic.{◌⊎◌, inl, inr}
use borrow.Author.Tests.{eqb-true}
use lib.Dec.{eqb}
use lib.ListN.{length}
use Rattle.turns.specs.Dispatcher.{member, free_from, least_free}

-- without n
unfoldable remove : ℕ → List ℕ → List ℕ
remove n [] = []
remove n (m ∷ ms) = cond (eqb n m) (remove n ms) (m ∷ remove n ms)

remove_length : (n : ℕ) (ms : List ℕ) → length (remove n ms) ≤ length ms
unfolding remove
remove_length n [] = omega arith
remove_length n (m ∷ ms) = go (eqb n m) (remove_length n ms)
  where
    go : (b : Bool) → length (remove n ms) ≤ length ms → length (cond b (remove n ms) (m ∷ remove n ms)) ≤ suc (length ms)
    go true l = omega (arith, l)
    go false l = omega (arith, l)

remove_less : (n : ℕ) (ms : List ℕ) → member n ms ≡ true → length (remove n ms) < length ms
unfolding remove member
remove_less n [] h = let z : ◌≡◌ {A = ℕ} 0 1 = cc in absurd (omega arith)
remove_less n (m ∷ ms) h = go (eqb n m) h (remove_less n ms)
  where
    go : (b : Bool) → cond b true (member n ms) ≡ true → (member n ms ≡ true → length (remove n ms) < length ms) → length (cond b (remove n ms) (m ∷ remove n ms)) < suc (length ms)
    go true g l = omega (arith, remove_length n ms)
    go false g l = omega (arith, l g)

differ : (n k m : ℕ) → n < k → n ≡ m → (b : Bool) → eqb k m ≡ b → b ≡ false
differ n k m h q true f = let z : k ≡ m = eqb-true k m f in absurd (omega (arith, h, q, z))
differ n k m h q false f = refl

-- another number is a member as before
remove_other : (n k : ℕ) (ms : List ℕ) → n < k → member k (remove n ms) ≡ member k ms
unfolding remove member
remove_other n k [] h = refl
remove_other n k (m ∷ ms) h = go (eqb n m) refl (remove_other n k ms h)
  where
    go : (b : Bool) → eqb n m ≡ b → member k (remove n ms) ≡ member k ms → member k (cond b (remove n ms) (m ∷ remove n ms)) ≡ cond (eqb k m) true (member k ms)
    go true e r = let d : eqb k m ≡ false = differ n k m h (eqb-true n m e) (eqb k m) refl in rw d r
    go false e r = ap (cond (eqb k m) true) r

-- with room for those of rs, which agree with ns from n on
from_free : (f n : ℕ) (ns rs : List ℕ) → length rs ≤ f → ((k : ℕ) → n ≤ k → member k rs ≡ member k ns) → member (free_from f n ns) ns ≡ false
unfolding free_from member
from_free zero n ns [] l h = sym (h n (omega arith))
from_free zero n ns (r ∷ rs) l h = absurd (omega (arith, l))
from_free (suc f) n ns rs l h =
    go (member n ns) refl
    (λ e. from_free f (suc n) ns (remove n rs) (omega (arith, remove_less n rs (h n (omega arith) ∙ e), l)) (λ k g. remove_other n k rs (omega (arith, g)) ∙ h k (omega (arith, g))))
  where
    go : (b : Bool) → member n ns ≡ b → (member n ns ≡ true → member (free_from f (suc n) ns) ns ≡ false) → member (cond b (free_from f (suc n) ns) n) ns ≡ false
    go true e r = r e
    go false e r = e

from_least : (f n : ℕ) (ns : List ℕ) (k : ℕ) → n ≤ k → k < free_from f n ns → member k ns ≡ true
unfolding free_from
from_least zero n ns k h g = absurd (omega (arith, h, g))
from_least (suc f) n ns k h g = go (member n ns) refl g (λ q u. from_least f (suc n) ns k q u)
  where
    go : (b : Bool) → member n ns ≡ b → k < cond b (free_from f (suc n) ns) n → (suc n ≤ k → k < free_from f (suc n) ns → member k ns ≡ true) → member k ns ≡ true
    go true e u r = by (eq-or-lt_of_le h)
      where
        by : (n ≡ k) ⊎ (suc n ≤ k) → member k ns ≡ true
        by (inl q) = ap (λ (i : ℕ). member i ns) (sym q) ∙ e
        by (inr q) = r q u
    go false e u r = absurd (omega (arith, h, u))

module _ (ns : List ℕ) where
  pub least_unused : member (least_free ns) ns ≡ false
  unfolding least_free
  least_unused = from_free (length ns) 0 ns ns (omega arith) (λ k g. refl)

  pub least_below : (k : ℕ) → k < least_free ns → member k ns ≡ true
  unfolding least_free
  least_below k g = from_least (length ns) 0 ns k (omega arith) g

  -- among n names, it is at most n
  from_most : (f n : ℕ) → free_from f n ns ≤ n + f
  unfolding free_from
  from_most zero n = omega arith
  from_most (suc f) n = go (member n ns) (from_most f (suc n))
    where
      go : (b : Bool) → free_from f (suc n) ns ≤ suc n + f → cond b (free_from f (suc n) ns) n ≤ n + suc f
      go true h = omega (arith, h)
      go false h = omega arith

  pub least_most : least_free ns ≤ length ns
  unfolding least_free
  least_most = omega (arith, from_most (length ns) 0)
