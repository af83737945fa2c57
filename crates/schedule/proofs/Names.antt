-- The names of the queue.
use Rattle.std.proofs.Common.{◌≡◌, ℕ, eqb, List, [], ◌∷◌, refl, arith}
use Rattle.std.specs.List.{list_any}
use Rattle.std.proofs.lemmas.Bool.Decides.{nat_tests}
use Rattle.turns.specs.Dispatcher.{member}

-- whether n is among the names, as the code asks
pub member_is : (n : ℕ) (ns : List ℕ) → list_any (λ m. eqb m n) ns ≡ member n ns
unfolding member
member_is n [] = refl
member_is n (m ∷ ns) = let h = member_is n ns in grind (arith, nat_tests, h)
