-- The exchanges of a list of calls: from any of them on, they are those of the later calls.
use Prim.Native.Nat.{ℕ, zero, suc}
use mathlib.Core.Path.{◌≡◌, refl, ap}
use mathlib.Core.List.{List, [], ◌∷◌}
use lib.ListN.{take, drop}
use Rattle.turns.specs.Dispatcher.{Call, Entry, next, serve, Exchange, exchange, exchanges, queue_after}

pub drop_exchanges : (a : ℕ) (q : List Entry) (cs : List Call) → drop a (exchanges q cs) ≡ exchanges (queue_after q (take a cs)) (drop a cs)
unfolding exchanges queue_after
drop_exchanges zero q cs = refl
drop_exchanges (suc a) q [] = refl
drop_exchanges (suc a) q (c ∷ cs) = drop_exchanges a (serve q c).queue cs

pub take_exchanges : (a : ℕ) (q : List Entry) (cs : List Call) → take a (exchanges q cs) ≡ exchanges q (take a cs)
unfolding exchanges
take_exchanges zero q cs = refl
take_exchanges (suc a) q [] = refl
take_exchanges (suc a) q (c ∷ cs) = ap (λ (es : List Exchange). exchange c (next q) (serve q c).reply ∷ es) (take_exchanges a (serve q c).queue cs)
