-- The output case by case, where each of the code's answers gives its text.
use mathlib.Core.Path.{◌≡◌, refl}
use mathlib.Core.List.{List}
use Prim.Native.Nat.{ℕ, ◌/◌, ◌%◌, ◌≤◌, ◌<◌}
use lib.ListN.{length}
use lib.Ieee.{Float}
use borrow.Author.Tests.{lt-ltb, le-ltb, eq-eqb, ne_eqb}
use Rattle.error.specs.declared.Refusal.{Refusal}
use Rattle.error.specs.Refusal.{value, refused, refuse}
use Rattle.diagnostics.specs.Rates.{dimension, entropy}
use Rattle.report.specs.Bytes.{decoded}
use Rattle.report.specs.Report.{values_text, refusal_text, diagnostics_text, exponents_text, output}

module _ (bs : List ℕ) where
  pub output_long : 2048 < length bs → refusal_text (refuse 21 0) ≡ output bs
  unfolding output
  output_long h = rw (lt-ltb 2048 (length bs) h)

  pub output_incomplete : length bs ≤ 2048 → (length bs % 8 ≡ 0 → ⊥) → refusal_text (refuse 23 0) ≡ output bs
  unfolding output
  output_incomplete h k = rw (le-ltb 2048 (length bs) h, ne_eqb (length bs % 8) 0 k)

  pub output_exponents : length bs ≤ 2048 → length bs % 8 ≡ 0 → exponents_text (decoded (length bs / 8) bs) ≡ output bs
  unfolding output
  output_exponents h k = rw (le-ltb 2048 (length bs) h, eq-eqb (length bs % 8) 0 k)

answers : (xs : List Float) → diagnostics_text (dimension xs) (entropy xs) ≡ exponents_text xs
unfolding exponents_text
answers xs = refl

module _ (xs : List Float) where
  pub text_values : (d e : Float) → value d ≡ dimension xs → value e ≡ entropy xs → values_text d e ≡ exponents_text xs
  text_values d e p q = rw (← answers xs, ← p, ← q)

  pub text_first : (r : Refusal) → refused r ≡ dimension xs → refusal_text r ≡ exponents_text xs
  text_first r p = rw (← answers xs, ← p)

  pub text_second : (d : Float) (r : Refusal) → value d ≡ dimension xs → refused r ≡ entropy xs → refusal_text r ≡ exponents_text xs
  text_second d r p q = rw (← answers xs, ← p, ← q)

pub ruleset output_steps = (output_long, output_incomplete, output_exponents)

pub ruleset rates_steps = (text_values, text_first, text_second)
