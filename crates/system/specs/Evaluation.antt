-- What evaluating a system asks for; a reader may skip this. Definitions only.
use Rattle.std.specs.Prelude.{List, Float}
use Rattle.lorenz96.specs.Around.{Cells}
use Rattle.matrix.specs.Matrix.{Held}
use Rattle.system.specs.declared.System.{System}
use Rattle.system.specs.declared.System.TheVariants.{Lorenz, Rossler, VanDerPol, Linear, Lorenz96}

-- a system whose dimension is fixed: it has no matrix
abbrev pub Fixed : System → Type 0
Fixed (Lorenz σ ρ β) = Unit {0}
Fixed (Rossler a b c) = Unit {0}
Fixed (VanDerPol μ) = Unit {0}
Fixed (Linear d) = ⊥
Fixed (Lorenz96 n F) = ⊥

-- what evaluating a system asks for: a linear one's columns, and a ring's cells
abbrev pub Columns : System → List Float → List Float → Type 0
Columns (Lorenz σ ρ β) m columns = Unit {0}
Columns (Rossler a b c) m columns = Unit {0}
Columns (VanDerPol μ) m columns = Unit {0}
Columns (Linear d) m columns = Held d m columns
Columns (Lorenz96 n F) m columns = Cells n
