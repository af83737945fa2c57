-- schedule::is_unfinished
use Rattle.std.proofs.Common.{◌≡◌, Result, Ok, Err, is_ok, refl, sym, ap, ◌∙◌, true, lt-ltb, arith}
use Rattle.std.specs.Result.{result_and}
use Rattle.error.specs.Refusal.{reported}
use Rattle.error.specs.Tests.{first_failing, ◌else◌}
use Rattle.error.specs.declared.LyapunovError.{LyapunovError}
use Rattle.error.proofs.Tests.{chained}
use Rattle.schedule.specs.Schedule.{is_passed}
use Rattle.schedule.specs.Promises.{set_tests}
use Rattle.schedule.proofs.is_unfinished.Goals as goal
use Rattle.schedule.proofs.is_unfinished.Goals.{After-and-2}

joined : (a b : Result Unit LyapunovError) → reported (result_and a b) ≡ (reported a else reported b)
unfolding ◌else◌
joined (Ok x) b = refl
joined (Err e) b = refl

passed : (r : Result Unit LyapunovError) → is_passed (reported r) ≡ is_ok r
passed (Ok x) = refl
passed (Err e) = refl

-- the blocks of tests, one behind the other
tested : (c : After-and-2) → is_passed (first_failing (set_tests c.args.settings)) ≡ is_ok c.and-2.result
tested c =
    let first = chained _ _ (ap reported c.and.ensures ∙ joined _ _) c.validate_settings-set.ensures c.validate_dimension-dimension.ensures in
    sym (ap is_passed (chained _ _ (ap reported c.and-2.ensures ∙ joined _ _) first c.validate_count-count.ensures)) ∙ passed _

pub returns-then-is_err : goal.returns-then-is_err
returns-then-is_err c = let t = tested (goal.at.returns-then-is_err c).After-and-2 in grind arith

pub returns-then-finished-config : goal.returns-then-finished-config
returns-then-finished-config c =
    let t = tested (goal.at.returns-then-finished-config c).After-and-2 in
    let e : is_ok c.and-2.result ≡ true = grind arith in
    rw (t, e, lt-ltb c.args.finished c.args.settings.config.windows (omega (arith, c.if-finished-config.true)))
