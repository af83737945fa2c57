-- A rounded value has the sign that it is given.
use mathlib.Core.Path.{◌≡◌, refl, sym, subst}
use mathlib.Core.Bool.{Bool, true, false, not, cond}
use Prim.Native.Nat.{ℕ, zero, suc, ◌+◌, ◌*◌, ◌^◌}
use lib.Dec.{T, ltb}
use lib.Ieee.{Float, nan, inf, fin, binary64, low, emax, odd, units, round, is_nan}
use lib.Ieee.Fits.{round_is}
use lib.Ieee.Order.{kept, drop}

-- what holds of both values holds of the one that is chosen
pub either : (P : Float → Type 0) (b : Bool) (x y : Float) → P x → P y → P (cond b x y)
either P true x y p q = p
either P false x y p q = q

abbrev pub Sign : Bool → Float → Type 0
Sign s nan = ⊥
Sign s (inf t) = t ≡ s
Sign s (fin t m e) = t ≡ s

odd_sign : (d : ℕ) (s : Bool) (q k l : ℕ) → Sign s (odd d s q k l)
unfolding odd
odd_sign d s zero k l = refl
odd_sign d s (suc q) k l = refl

units_sign : (s : Bool) (q k : ℕ) → Sign s (units binary64 s q k)
unfolding units
units_sign s q k = either (Sign s) (ltb (q * 2 ^ k) (2 ^ (low binary64 + suc (emax binary64)))) (odd 54 s q k (low binary64)) (inf s) (odd_sign 54 s q k (low binary64)) refl

pub round_sign : (s : Bool) (a b : ℕ) → Sign s (round binary64 s a b)
round_sign s a b = subst (Sign s) (sym (round_is binary64 s a b)) (units_sign s (kept 53 (a * 2 ^ 1074) b) (drop 53 (a * 2 ^ 1074) b))

pub sign_no_nan : (s : Bool) (x : Float) → Sign s x → T (not (is_nan x))
unfolding is_nan
sign_no_nan s nan h = h
sign_no_nan s (inf t) h = tt
sign_no_nan s (fin t m e) h = tt
