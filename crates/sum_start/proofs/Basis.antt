-- The orthonormaliser by sums from either zero: the same lengths, collapses and reports, and directions that differ in signs of zeros alone.
use Prim.Native.Nat.{zero, suc}
use native.Mathlib.Omega.{arith}
use mathlib.Core.Path.{◌≡◌, refl, sym, ap, ap₂, ◌∙◌}
use mathlib.Core.Logic.{◌⊎◌, inl, inr}
use mathlib.Core.Bool.{Bool, true, false, true≢false}
use mathlib.Core.List.{List, [], ◌∷◌, ◌++◌, map}
use mathlib.Core.Option
use mathlib.Core.Option.{some}
use lib.Dec.{T}
use lib.IntN.{pos}
use lib.ListN.{length}
use lib.Ieee.{Float, nan, inf, fin}
use Rattle.floats.specs.Arithmetic.{◌⊘◌}
use Rattle.floats.specs.Vector.{dot_from}
use Rattle.floats.proofs.Zero.{zero_equal}
use Rattle.sqrt.specs.SquareRoot.{root}
use Rattle.ln.specs.Logarithm.{log}
use Rattle.gram_schmidt.specs.Orthonormalise.{Lengths, Basis, collapsed, with_direction, orthogonalise_twice, orthonormalise}
use Rattle.gram_schmidt.specs.GramSchmidt.{squared_length, euclidean_from}
use Rattle.gram_schmidt.proofs.Degenerate.{unsigned, squares_unsigned, of_zero}
use Rattle.sum_start.specs.SumStart.{plain, plain_basis, OnlySigns}
use Rattle.sum_start.proofs.Plain.{Alike}
use Rattle.sum_start.proofs.Vectors.{plains, Alikes, AllAlike, plains_alike, all_alike, snoc_alike, dot_alike, twice_alike, divide_alike}

abbrev zero_of : Bool → Float
zero_of s = fin s zero (pos 0)

-- lengths by sums from the zero of a sign
abbrev pub signed : Bool → Lengths
signed s = euclidean_from (zero_of s)

-- ---- the squared length

unsigned_plain : (q : Float) → T (unsigned q) → plain q ≡ q
unsigned_plain nan h = refl
unsigned_plain (inf s) h = refl
unsigned_plain (fin true m e) h = absurd h
unsigned_plain (fin false zero e) h = refl
unsigned_plain (fin false (suc m) e) h = refl

zero_collapsed : (s : Bool) → collapsed (root (zero_of s)) ≡ true
zero_collapsed s = of_zero s (pos 0) ∙ zero_equal s (pos 0)

-- both collapse, or the squared lengths are equal
abbrev SameLength : Bool → Bool → List Float → List Float → Type 0
SameLength s s' w w' = ((collapsed ((signed s).norm w) ≡ true) × (collapsed ((signed s').norm w') ≡ true)) ⊎ (squared_length (zero_of s) w ≡ squared_length (zero_of s') w')

-- that of no entries is a zero, which collapses; any other has no sign, so that its zero does not tell the start
lengths_alike : (s s' : Bool) (w w' : List Float) → Alikes w w' → SameLength s s' w w'
unfolding dot_from
lengths_alike s s' [] [] p = inl (zero_collapsed s, zero_collapsed s')
lengths_alike s s' [] (y ∷ w') p = absurd (omega (arith, ap length p.same))
lengths_alike s s' (x ∷ w) [] p = absurd (omega (arith, ap length p.same))
lengths_alike s s' (x ∷ w) (y ∷ w') p =
    let e : Alike (zero_of s) (zero_of s') = record { same = refl } in
    inr (sym (unsigned_plain _ (squares_unsigned s x w).0) ∙ (dot_alike e p p).same ∙ unsigned_plain _ (squares_unsigned s' y w').0)

-- ---- one direction

abbrev finished : List Float → Float → Float → Basis → Basis
finished u l q b = record { directions = u ∷ b.directions; logs = l ∷ b.logs; reports = q ∷ b.reports; collapse = Option.map suc b.collapse }

direction_alike : (b b' : Bool) (w w' : List Float) (vs : List (List Float)) (u u' : List Float) (l l' q q' : Float) (r r' : Basis) → b ≡ b' → Alikes w w'
    → (b ≡ false → Alikes u u' × (l ≡ l') × (q ≡ q') × (plain_basis r ≡ plain_basis r'))
    → plain_basis (with_direction b w vs u l q r) ≡ plain_basis (with_direction b' w' (map plains vs) u' l' q' r')
unfolding with_direction
direction_alike true true w w' vs u u' l l' q q' r r' e p h =
    ap₂ (λ (a : List Float) (ls : List (List Float)). record { directions = a ∷ ls; logs = []; reports = []; collapse = some zero }) p.same (all_alike vs).same
direction_alike false false w w' vs u u' l l' q q' r r' e p h = let k = h refl in λ i. finished (k.0.same i) (k.1 i) (k.2 i) (k.3 i)
direction_alike true false w w' vs u u' l l' q q' r r' e p h = absurd (true≢false e)
direction_alike false true w w' vs u u' l l' q q' r r' e p h = absurd (true≢false (sym e))

-- ---- all of them

-- the direction w, cleared, and what becomes of those behind it once it is divided
abbrev followed : Lengths → List Float → List (List Float) → (List Float → Basis) → Basis
followed L w vs f = let r = L.norm w in let u = map (λ x. x ⊘ r) w in with_direction (collapsed r) w vs u (L.log r) (L.report w) (f u)

module _ (s s' : Bool) where
  followed_alike : (w w' : List Float) (vs : List (List Float)) → Alikes w w' → (f f' : List Float → Basis) → ((u u' : List Float) → Alikes u u' → plain_basis (f u) ≡ plain_basis (f' u'))
      → plain_basis (followed (signed s) w vs f) ≡ plain_basis (followed (signed s') w' (map plains vs) f')
  followed_alike w w' vs p f f' h = go (lengths_alike s s' w w' p)
    where
      go : SameLength s s' w w' → plain_basis (followed (signed s) w vs f) ≡ plain_basis (followed (signed s') w' (map plains vs) f')
      go (inl c) = direction_alike _ _ w w' vs _ _ _ _ _ _ _ _ (c.0 ∙ sym c.1) p (λ e. absurd (true≢false (sym c.0 ∙ e)))
      go (inr e) =
          let k = divide_alike (ap root e) p in
          direction_alike _ _ w w' vs _ _ _ _ _ _ _ _ (ap (λ (q : Float). collapsed (root q)) e) p (λ _. (k, ap (λ (q : Float). log (root q)) e, e, h _ _ k))

  basis_plain : (done done' vs : List (List Float)) → AllAlike done done' → plain_basis (orthonormalise (signed s) done vs) ≡ plain_basis (orthonormalise (signed s') done' (map plains vs))
  unfolding orthonormalise
  basis_plain done done' [] h = refl
  basis_plain done done' (v ∷ vs) h =
      let e : Alike (zero_of s) (zero_of s') = record { same = refl } in
      let rest : (u u' : List Float) → Alikes u u' → plain_basis (orthonormalise (signed s) (done ++ (u ∷ [])) vs) ≡ plain_basis (orthonormalise (signed s') (done' ++ (u' ∷ [])) (map plains vs)) =
      λ u u' k. basis_plain (done ++ (u ∷ [])) (done' ++ (u' ∷ [])) vs (snoc_alike h k) in
      followed_alike (orthogonalise_twice (zero_of s) done v) (orthogonalise_twice (zero_of s') done' (plains v)) vs (twice_alike e h (plains_alike v))
      (λ u. orthonormalise (signed s) (done ++ (u ∷ [])) vs) (λ u. orthonormalise (signed s') (done' ++ (u ∷ [])) (map plains vs)) rest

pub basis_alike : (s s' : Bool) (vs ws : List (List Float)) → AllAlike vs ws → plain_basis (orthonormalise (signed s) [] vs) ≡ plain_basis (orthonormalise (signed s') [] ws)
basis_alike s s' vs ws p =
    let none : AllAlike [] [] = record { same = refl } in
    basis_plain s s' [] [] vs none ∙ ap (λ (l : List (List Float)). plain_basis (orthonormalise (signed s') [] l)) p.same ∙ sym (basis_plain s' s' [] [] ws none)

pub only_signs : OnlySigns
only_signs vs = basis_alike true false vs vs (record { same = refl })
