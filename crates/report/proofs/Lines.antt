-- A pattern's 16 hexadecimal digits, one after the other, and how long a line is.
use mathlib.Core.Path.{◌≡◌, refl, ap, ◌∙◌}
use mathlib.Core.List.{List, [], ◌∷◌, ◌++◌, append_assoc}
use Prim.Native.Nat.{ℕ, zero, suc, ◌+◌, ◌-◌, ◌*◌, ◌/◌, ◌%◌, ◌^◌, ◌<◌}
use native.Mathlib.Nat.{div-one}
use native.Mathlib.Numerals.{add-one}
use native.Mathlib.Omega.{arith}
use lib.ListN.{length, length-append}
use lib.Utf8.{encode}
use Rattle.std.proofs.lemmas.Bool.Decides.{nat_tests}
use Rattle.std.proofs.lemmas.Nat.{shr-shr}
use Rattle.std.proofs.lemmas.Str.{encode_ascii}
use Rattle.report.specs.Digits.{digit, digits}
use Rattle.report.specs.Report.{line}

pub digit_encoded : (c d : ℕ) → d < 16 → c ≡ digit d → encode c ≡ c ∷ []
digit_encoded c d h e = encode_ascii c (grind (arith, nat_tests))

-- ---- the first i digits
pub digits_none : (n : ℕ) → digits 16 0 n ≡ []
unfolding digits
digits_none n = refl

pub digits_next : (n i : ℕ) → i < 16 → digits 16 (i + 1) (n / 2 ^ (64 - 4 * (i + 1))) ≡ digits 16 i (n / 2 ^ (64 - 4 * i)) ++ (digit (n / 2 ^ (60 - 4 * i) % 16) ∷ [])
unfolding digits
digits_next n i h =
    let e : 64 - 4 * (i + 1) ≡ 60 - 4 * i = omega arith in
    let f : 60 - 4 * i + 4 ≡ 64 - 4 * i = omega arith in
    let s : n / 2 ^ (60 - 4 * i) / 16 ≡ n / 2 ^ (60 - 4 * i + 4) = shr-shr n (60 - 4 * i) 4 in
    rw (e, add-one i, s, f)

pub digits_all : (n i : ℕ) → i ≡ 16 → digits 16 i (n / 2 ^ (64 - 4 * i)) ≡ digits 16 16 n
digits_all n i e = rw (e, div-one)

-- ---- how long
pub digits_length : (k n : ℕ) → length (digits 16 k n) ≡ k
unfolding digits
digits_length zero n = refl
digits_length (suc k) n = length-append (digits 16 k (n / 16)) (digit (n % 16) ∷ []) ∙ ap (λ (m : ℕ). m + 1) (digits_length k (n / 16)) ∙ add-one k

pub line_length : (n : ℕ) → length (line n) ≡ 17
unfolding line
line_length n = simp length-append (let h = digits_length 16 n in omega arith)

pub ruleset line_steps = (digit_encoded, digits_none, digits_next, digits_all, digits_length, append_assoc)
