-- Options, as C hands them over: settings that came later than the arguments of a run, by their places. A run without one of them has what runs had before it came. Definitions only.
use Rattle.std.specs.Prelude.{ℕ, List, get_or}

-- at 0, by document 02, g): the steps of a warm-up window. Left out they are those of a measured one
abbrev pub transient_steps : ℕ → List ℕ → ℕ
transient_steps steps options = get_or options 0 steps
