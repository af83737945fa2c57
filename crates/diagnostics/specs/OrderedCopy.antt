-- Document 01, "Dimension": the ordered copy is in order, has the same floats equally often and is the only such list; the dimension is its own. proofs/Order.antt and proofs/OrderedCopy.antt prove it.
use Rattle.std.specs.Prelude.{◌≡◌, List, Float}
use Rattle.std.proofs.Math.Option.{none}
use Rattle.diagnostics.specs.Sorting.{descending, Descending, SameFloats, Binary64}
use Rattle.diagnostics.specs.Rates.{refused_for, dimension}

abbrev pub CopyInOrder : Type 0
CopyInOrder = (xs : List Float) → Descending (descending xs) × SameFloats (descending xs) xs

-- a list ys of binary64 values that is in order and has the floats of xs
abbrev pub OnlyCopy : Type 0
OnlyCopy = (xs ys : List Float) → Binary64 xs → Binary64 ys → Descending ys → SameFloats ys xs → ys ≡ descending xs

abbrev pub CopyDimension : Type 0
CopyDimension = (xs : List Float) → Binary64 xs → refused_for xs ≡ none → dimension (descending xs) ≡ dimension xs
