-- What is stated of a dispatcher's exchanges holds of those over lent memory.
use mathlib.Core.Path.{sym, subst}
use Rattle.turns.proofs.Alone as Alone
use Rattle.turns.proofs.Unfinished.{least_names}
use Rattle.turns.proofs.Fair as Fair
use Rattle.turns.proofs.Windows as Windows
use Rattle.dispatching.specs.Dispatched.{Dispatched, EachDispatched, EachLeading}
use Rattle.dispatching.proofs.Agreement.{agreement}

pub each_dispatched : EachDispatched
each_dispatched m cs S =
    subst Dispatched (sym (agreement m cs S)) (record { alone = Alone.alone cs; least_free = least_names cs; fair = Fair.fair cs; turns_are_windows = Windows.turns_are_windows cs })

pub each_leading : EachLeading
each_leading m n cs ds S T =
    Alone.leading_dispatched _ _ (each_dispatched m cs S).alone (each_dispatched n ds T).alone
