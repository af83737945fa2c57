-- What the contracts of the functions over a dispatcher's memory say, by name. A reader may skip it. Definitions only.
use Rattle.std.specs.Prelude.{ℕ, ◌+◌, ◌*◌, ◌≡◌, Bool, ◌&&◌, List, ◌++◌, leb, ltb, length, get_or, Float}
use Rattle.std.specs.Float.{nan}
use Rattle.error.specs.Tests.{Test, first_failing}
use Rattle.system.specs.System.{dim}
use Rattle.system_validation.specs.Tests.{dimension_tests}
use Rattle.benettin.specs.Run.{count_tests}
use Rattle.benettin.specs.Estimate.{settings, config_tests}
use Rattle.system_numbers.specs.Numbers.{system}
use Rattle.store.specs.Promises as Store
use Rattle.schedule.specs.Schedule.{Memory, is_passed}
use Rattle.schedule.specs.declared.Settings.{Settings}

abbrev pub Sized : Memory → Type 0
Sized m = Store.Sized m.runs × (length m.settings ≡ 32) × (length m.queue ≡ 73)

-- what is set of the run named j, as the code holds it
abbrev pub settings_at : ℕ → List Float → List ℕ → Settings
settings_at j f q =
    record {
      system = system (get_or q (8 * j) 0) (get_or f (4 * j + 1) nan) (get_or f (4 * j + 2) nan) (get_or f (4 * j + 3) nan) (get_or q (8 * j + 1) 0);
      config = settings (get_or q (8 * j + 2) 0) (get_or f (4 * j) nan) (get_or q (8 * j + 3) 0) (get_or q (8 * j + 4) 0) (get_or q (8 * j + 5) 0) (get_or q (8 * j + 6) 0) 0;
      warmed = get_or q (8 * j + 7) 0;
    }

-- a run that is set so has finished so many windows, and not all of them
abbrev pub set_tests : Settings → List Test
set_tests s =
    let c = s.config in
    config_tests c.windows c ++ dimension_tests s.system ++ count_tests c.top_k (dim s.system)

abbrev pub unfinished_by : Settings → ℕ → Bool
unfinished_by s finished = is_passed (first_failing (set_tests s)) && ltb finished s.config.windows && leb s.warmed s.config.transient_windows
