-- A system as numbers. Definitions only.
use Rattle.std.specs.Prelude.{ℕ, cond, eqb, Float}
use Rattle.floats.specs.Arithmetic.{zero⁺}
use Rattle.system.specs.declared.System.{System}
use Rattle.system.specs.declared.System.TheVariants.{Lorenz, Rossler, VanDerPol, Linear, Lorenz96}
use Rattle.system_numbers.specs.declared.Numbered.{Numbered}

-- a number that names no system names one of dimension 0, which is refused by 7
abbrev pub system : ℕ → Float → Float → Float → ℕ → System
system kind p₀ p₁ p₂ d =
    cond (eqb kind 0) (Lorenz p₀ p₁ p₂)
    (cond (eqb kind 1) (Rossler p₀ p₁ p₂)
    (cond (eqb kind 2) (VanDerPol p₀)
    (cond (eqb kind 3) (Linear d)
    (cond (eqb kind 4) (Lorenz96 d p₀) (Linear 0)))))

abbrev numbered : ℕ → Float → Float → Float → ℕ → Numbered
numbered kind p₀ p₁ p₂ d = record { kind = kind; p0 = p₀; p1 = p₁; p2 = p₂; dimension = d }

-- the kind, the parameters and the dimension of a system: those that name it
abbrev pub numbers : System → Numbered
numbers (Lorenz σ ρ β) = numbered 0 σ ρ β 3
numbers (Rossler a b c) = numbered 1 a b c 3
numbers (VanDerPol μ) = numbered 2 μ zero⁺ zero⁺ 2
numbers (Linear d) = numbered 3 zero⁺ zero⁺ zero⁺ d
numbers (Lorenz96 n F) = numbered 4 F zero⁺ zero⁺ n
