-- A matrix that is not the system's own is not read: a run is that of its own input.
use Prim.Native.Nat.{ℕ}
use mathlib.Core.Path.{◌≡◌, refl, ap, sym, subst, ◌∙◌}
use mathlib.Core.List.{List}
use mathlib.Core.Option.{some}
use lib.Ieee.{Float}
use Rattle.system.specs.System.{matrix_fits, field, tangent}
use Rattle.system.specs.declared.System.{System}
use Rattle.system.specs.declared.System.TheVariants.{Lorenz, Rossler, VanDerPol, Linear, Lorenz96}
use Rattle.rk4.specs.Step.{advance}
use Rattle.benettin.specs.Run.{Problem, RunState, ok, course_of}
use Rattle.benettin.specs.Estimate.{Input, dynamics, problem}
use Rattle.continuation.specs.Continuation.{with_windows, Stood}
use Rattle.calls.specs.Calls.{Brought, Kept, own_matrix, own, Same}

own_dynamics : (S : System) (m : List Float) (h : Float) (n : ℕ) → dynamics S (own_matrix S m) h n ≡ dynamics S m h n
unfolding dynamics advance field tangent
own_dynamics (Lorenz σ ρ β) m h n = refl
own_dynamics (Rossler a b c) m h n = refl
own_dynamics (VanDerPol μ) m h n = refl
own_dynamics (Linear d) m h n = refl
own_dynamics (Lorenz96 c F) m h n = refl

own_fits : (S : System) (m : List Float) → matrix_fits S (own_matrix S m) ≡ matrix_fits S m
own_fits (Lorenz σ ρ β) m = refl
own_fits (Rossler a b c) m = refl
own_fits (VanDerPol μ) m = refl
own_fits (Linear d) m = refl
own_fits (Lorenz96 c F) m = refl

pub own_problem : (i : Input) → problem (own i) ≡ problem i
unfolding problem
own_problem i = rw (own_dynamics i.system i.matrix i.step_size i.steps, own_fits i.system i.matrix)

-- where the kept run stood, the one that is brought stood with as many windows
pub same_stood : (k : Kept) (b : Brought) (c : RunState) → Same (some k) b → Stood k.input k.rates c → Stood (with_windows k.input.windows b.input) b.rates c
same_stood k b c s h =
    let i = with_windows k.input.windows b.input in
    let e : problem k.input ≡ problem i = sym (own_problem k.input) ∙ ap problem s.0 ∙ own_problem i in
    subst (λ (K : ℕ). Stood i K c) s.1 (subst (λ (P : Problem). (course_of P k.rates).end ≡ ok c) e h)
