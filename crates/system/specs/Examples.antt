-- Each field and tangent map at one state, by computation.
use Rattle.std.specs.Prelude.{◌≡◌, refl, true, false, [], ◌∷◌}
use Rattle.std.specs.Float.Ieee.{add, sub, mul, neg, of_int}
use Rattle.floats.specs.Arithmetic.{whole, minus}
use Rattle.system.specs.System.{matrix_fits, cells_fit, field, tangent}
use Rattle.system.specs.declared.System.TheVariants.{Lorenz, Rossler, VanDerPol, Linear, Lorenz96}

-- σ 10, ρ 28, β 4 at 1, 3, 6, with the direction 2, 7, 11
pub lorenz : (field (Lorenz (whole 10) (whole 28) (whole 4)) [] (whole 1 ∷ whole 3 ∷ whole 6 ∷ []) ≡ whole 20 ∷ whole 19 ∷ minus 21 ∷ [])
    × (tangent (Lorenz (whole 10) (whole 28) (whole 4)) [] (whole 1 ∷ whole 3 ∷ whole 6 ∷ []) (whole 2 ∷ whole 7 ∷ whole 11 ∷ []) ≡ whole 50 ∷ whole 26 ∷ minus 31 ∷ [])
unfolding field tangent add sub mul neg of_int
lorenz = (refl, refl)

-- a 2, b 3, c 5 at 7, 11, 17, with the direction 19, 23, 31
pub rossler : (field (Rossler (whole 2) (whole 3) (whole 5)) [] (whole 7 ∷ whole 11 ∷ whole 17 ∷ []) ≡ minus 28 ∷ whole 29 ∷ whole 37 ∷ [])
    × (tangent (Rossler (whole 2) (whole 3) (whole 5)) [] (whole 7 ∷ whole 11 ∷ whole 17 ∷ []) (whole 19 ∷ whole 23 ∷ whole 31 ∷ []) ≡ minus 54 ∷ whole 65 ∷ whole 385 ∷ [])
unfolding field tangent add sub mul neg of_int
rossler = (refl, refl)

-- μ 3 at 2, 5, with the direction 7, 11
pub van_der_pol : (field (VanDerPol (whole 3)) [] (whole 2 ∷ whole 5 ∷ []) ≡ whole 5 ∷ minus 47 ∷ [])
    × (tangent (VanDerPol (whole 3)) [] (whole 2 ∷ whole 5 ∷ []) (whole 7 ∷ whole 11 ∷ []) ≡ whole 11 ∷ minus 526 ∷ [])
unfolding field tangent add sub mul neg of_int
van_der_pol = (refl, refl)

-- the rows 2, 3 and 5, 7 at 11, 13, with the direction 17, 19
pub linear : (field (Linear 2) (whole 2 ∷ whole 3 ∷ whole 5 ∷ whole 7 ∷ []) (whole 11 ∷ whole 13 ∷ []) ≡ whole 61 ∷ whole 146 ∷ [])
    × (tangent (Linear 2) (whole 2 ∷ whole 3 ∷ whole 5 ∷ whole 7 ∷ []) (whole 11 ∷ whole 13 ∷ []) (whole 17 ∷ whole 19 ∷ []) ≡ whole 91 ∷ whole 218 ∷ [])
    × (matrix_fits (Linear 2) (whole 2 ∷ whole 3 ∷ whole 5 ∷ whole 7 ∷ []) ≡ true) × (matrix_fits (Linear 2) (whole 2 ∷ []) ≡ false)
unfolding field tangent add mul of_int
linear = (refl, refl, refl, refl)

-- F 23 at 2, 3, 7, 19, 5, with the direction 11, 13, 29, 31, 17; three cells are too few, and four are enough
pub lorenz_96 : (field (Lorenz96 5 (whole 23)) [] (whole 2 ∷ whole 3 ∷ whole 7 ∷ whole 19 ∷ whole 5 ∷ []) ≡ minus 59 ∷ whole 24 ∷ whole 67 ∷ whole 18 ∷ minus 77 ∷ [])
    × (tangent (Lorenz96 5 (whole 23)) [] (whole 2 ∷ whole 3 ∷ whole 7 ∷ whole 19 ∷ whole 5 ∷ []) (whole 11 ∷ whole 13 ∷ whole 29 ∷ whole 31 ∷ whole 17 ∷ []) ≡ minus 373 ∷ whole 33 ∷ whole 252 ∷ whole 55 ∷ minus 514 ∷ [])
    × (cells_fit (Lorenz96 3 (whole 23)) ≡ false) × (cells_fit (Lorenz96 4 (whole 23)) ≡ true)
unfolding field tangent add sub mul neg of_int
lorenz_96 = (refl, refl, refl, refl)
