-- What the two tests of a length tell, and what is left of a direction by them.
use Prim.Native.Nat.{ℕ, ◌+◌, ◌*◌, ◌≤◌, ◌<◌}
use native.Mathlib.Nat.{eq-or-lt_of_le}
use native.Mathlib.Omega.{arith}
use mathlib.Core.Path.{◌≡◌, refl, sym, ap, ◌∙◌}
use mathlib.Core.Logic.{◌⊎◌, inl, inr}
use mathlib.Core.Bool.{Bool, true, false, not, ◌||◌, cond}
use mathlib.Core.List.{List, map}
use borrow.Author.Tests.{ltb-false, lt-ltb, eq-eqb}
use lib.Dec.{ltb}
use lib.IntN.{negsuc}
use lib.Ieee.{Float, nan, inf, fin, up, down, below, level, lt, eq, le}
use lib.Ieee.Scale.{finite}
use Rattle.std.proofs.lemmas.Option.{some_pair_parts}
use Rattle.std.specs.Prelude.{Option, Some, None, Result, Ok, Err}
use Rattle.error.specs.Refusal.{value, refused, refusal, answer}
use Rattle.error.specs.declared.LyapunovError.{LyapunovError}
use Rattle.floats.specs.Arithmetic.{◌⊘◌, least_normal}
use Rattle.ln.specs.Logarithm.{log, normal, logarithm}
use Rattle.gram_schmidt.specs.Orthonormalise.{Lengths, collapsed}
use Rattle.gram_schmidt.specs.GramSchmidt.{normalised, divided}

or_true : (a : Bool) → (a || true) ≡ true
or_true true = refl
or_true false = refl

or_left : (a b : Bool) → (a || b) ≡ false → a ≡ false
or_left true b e = e
or_left false b e = refl

pub low : (r : Float) → le r least_normal ≡ true → collapsed r ≡ true
unfolding collapsed
low r h = rw h (or_true (not (finite r)))

pub high : (r : Float) → lt r (inf false) ≡ false → collapsed r ≡ true
unfolding collapsed lt
high nan h = refl
high (inf s) h = refl
high (fin s m e) h = let z : ◌≡◌ {A = ℕ} 0 1 = cc in absurd (omega arith)

pub held : (r : Float) → le r least_normal ≡ false → lt r (inf false) ≡ true → collapsed r ≡ false
unfolding collapsed lt eq le
held nan h g = sym g
held (inf true) h g = h
held (inf false) h g = sym g
held (fin s m e) h g = rw h

-- of two numbers with signs, one is at most the other
total : (s : Bool) (a b : ℕ) → (below s a false b || level s a false b) ≡ false → (below false b s a || level false b s a) ≡ true
total false a b h = go (eq-or-lt_of_le (ltb-false a b (or_left (ltb a b) _ h)))
  where
    go : (b ≡ a) ⊎ (b < a) → (below false b false a || level false b false a) ≡ true
    go (inl e) = rw (eq-eqb b a e) (or_true (ltb b a))
    go (inr l) = rw (lt-ltb b a l)
total true a b h =
    let z : a + b ≤ 0 = ltb-false 0 (a + b) (or_left (ltb 0 (a + b)) _ h) in
    let x : a ≡ 0 = omega arith in
    let y : b ≡ 0 = omega arith in
    rw (x, y)

pub normal_held : (r : Float) → le r least_normal ≡ false → lt r (inf false) ≡ true → normal r ≡ true
unfolding lt eq le
normal_held nan h g = g
normal_held (inf true) h g = sym h
normal_held (inf false) h g = g
normal_held (fin s m e) h g = rw (total s (m * up e * down (negsuc 1021)) (1 * up (negsuc 1021) * down e) h)

-- ---- what is left of a direction, for any lengths

abbrev chosen : Bool → Float → Float → Option (Float × Float)
chosen b l q = cond b None (Some (l, q))

chosen_divided : (b : Bool) (w u : List Float) (l₀ q₀ l q : Float) → chosen b l₀ q₀ ≡ Some (l, q) → (b ≡ false) × (cond b w u ≡ u) × (l ≡ l₀) × (q ≡ q₀)
chosen_divided true w u l₀ q₀ l q e = let z : ◌≡◌ {A = ℕ} 0 1 = cc in absurd (omega arith)
chosen_divided false w u l₀ q₀ l q e = let p = some_pair_parts _ _ _ _ e in (refl, refl, sym p.0, sym p.1)

chosen_collapsed : (b : Bool) (w u : List Float) (l₀ q₀ : Float) → chosen b l₀ q₀ ≡ None → (b ≡ true) × (cond b w u ≡ w)
chosen_collapsed true w u l₀ q₀ e = (refl, refl)
chosen_collapsed false w u l₀ q₀ e = let z : ◌≡◌ {A = ℕ} 0 1 = cc in absurd (omega arith)

module _ (L : Lengths) (w : List Float) where
  abbrev pub by_norm : List Float
  by_norm = map (λ x. x ⊘ L.norm w) w

  -- what is known from the answer
  pub was_divided : (l q : Float) → normalised L w ≡ Some (l, q) → (collapsed (L.norm w) ≡ false) × (divided L w ≡ by_norm) × (l ≡ L.log (L.norm w)) × (q ≡ L.report w)
  was_divided l q = chosen_divided (collapsed (L.norm w)) w by_norm (L.log (L.norm w)) (L.report w) l q

  pub was_collapsed : normalised L w ≡ None → (collapsed (L.norm w) ≡ true) × (divided L w ≡ w)
  was_collapsed = chosen_collapsed (collapsed (L.norm w)) w by_norm (L.log (L.norm w)) (L.report w)

  -- what is answered, r being the norm as it was computed
  module _ (r : Float) (e : r ≡ L.norm w) where
    pub norm_collapsed : collapsed r ≡ true → (None ≡ normalised L w) × (w ≡ divided L w)
    norm_collapsed h = let g : collapsed (L.norm w) ≡ true = rw e at h in (rw g, rw g)

    pub norm_divided : (q l : Float) (ys : List Float) → collapsed r ≡ false → q ≡ L.report w → l ≡ L.log r → ys ≡ map (λ x. x ⊘ r) w
        → (Some (l, q) ≡ normalised L w) × (ys ≡ divided L w)
    norm_divided q l ys h f k m = let g : collapsed (L.norm w) ≡ false = rw e at h in (rw (g, k, f, e), rw (g, m, e))

-- ---- what the logarithm answers

pub log_value : (r l : Float) (y : Result Float LyapunovError) → normal r ≡ true → answer y ≡ logarithm r → y ≡ Ok l → l ≡ log r
log_value r l y h e f = let g : value l ≡ value (log r) = sym (ap answer f) ∙ e ∙ rw h in cc

pub log_never : (r : Float) (y : Result Float LyapunovError) (x : LyapunovError) → normal r ≡ true → answer y ≡ logarithm r → y ≡ Err x → ⊥
log_never r y x h e f =
    let g : refused (refusal x) ≡ value (log r) = sym (ap answer f) ∙ e ∙ rw h in
    let z : ◌≡◌ {A = ℕ} 0 1 = cc in
    omega arith
