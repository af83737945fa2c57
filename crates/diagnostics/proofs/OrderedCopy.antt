-- A list that is accepted and its ordered copy have the same dimension.
use mathlib.Core.Path.{◌≡◌, refl, sym, ◌∙◌, subst}
use mathlib.Core.List.{List}
use mathlib.Core.Option.{none}
use Prim.Native.Nat.{ℕ, ◌≤◌}
use lib.Dec.{T}
use lib.Ieee.{Float, binary64, fits}
use lib.Ieee.Scale.{finite}
use Rattle.diagnostics.specs.Sorting.{descending, Binary64}
use Rattle.diagnostics.specs.Dimension.{kaplan_yorke}
use Rattle.diagnostics.specs.Rates.{refused_for, dimension}
use Rattle.diagnostics.specs.OrderedCopy.{CopyDimension}
use Rattle.diagnostics.proofs.Validation.{accepted, not_refused, all_finite, none_not_finite}
use Rattle.diagnostics.proofs.Order.{descending_all, descending_length, descending_ordered, descending_only}

descending_twice : (xs : List Float) → Binary64 xs → descending (descending xs) ≡ descending xs
descending_twice xs f =
    let g = descending_all (λ x. T (fits binary64 x)) xs f in
    sym (descending_only (descending xs) (descending xs) g g (descending_ordered xs) (λ b. refl))

copy_accepted : (xs : List Float) → refused_for xs ≡ none → refused_for (descending xs) ≡ none
copy_accepted xs h =
    let a = accepted xs h in
    let n = descending_length xs in
    not_refused (descending xs)
    (record { some_given = λ z. a.some_given (sym n ∙ z); few = subst (λ (k : ℕ). k ≤ 256) (sym n) a.few; finite = none_not_finite (descending xs) (descending_all (λ x. T (finite x)) xs (all_finite xs a.finite)) })

pub copy_dimension : CopyDimension
unfolding dimension kaplan_yorke
copy_dimension xs f h = rw (copy_accepted xs h, h, descending_twice xs f)
