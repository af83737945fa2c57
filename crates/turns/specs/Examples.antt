-- Two runs of a dispatcher by computation, held against the bits that the Rust gives of each alone, with calls beside them that are refused; then the least free name.
use Rattle.std.specs.Prelude.{ℕ, ◌≡◌, refl, List, [], ◌∷◌, ◌++◌, map, take, drop, Float}
use Rattle.std.proofs.Math.Option.{Option, none, some}
use Rattle.std.specs.Float.{binary64}
use Rattle.std.specs.Float.Ieee.{of_bits, to_bits, add, sub, mul, div, neg, round, of_int, le, lt, eq}
use Rattle.error.specs.Refusal.{refuse, number_of, place_of}
use Rattle.floats.specs.Arithmetic.{whole}
use Rattle.floats.specs.Vector.{dot_from}
use Rattle.sqrt.specs.SquareRoot.{root}
use Rattle.ln.specs.Logarithm.{log}
use Rattle.splitmix64.specs.Mix.{mix, unit}
use Rattle.benettin.specs.Outputs.{Estimated}
use Rattle.benettin.specs.Estimate.{splitmix64}
use Rattle.benettin.specs.Examples.{van_der_pol}
use Rattle.turns.specs.Turn.{Slices, slices}
use Rattle.turns.specs.Dispatcher.{Call, hand_in, take_turn, Reply, named, rejected, nobody, unfit, advanced, finished, least_free, Exchange, exchanges}

-- ---- a reply as numbers

abbrev all_bits : List Float → List ℕ
all_bits = map (to_bits binary64)

abbrev ending : Estimated → List ℕ
ending x = number_of x.refusal ∷ place_of x.refusal ∷ x.windows ∷ x.steps ∷ []

abbrev told : Reply → List (List ℕ)
told (named n) = (n ∷ []) ∷ []
told (rejected r) = (r.number ∷ r.place ∷ []) ∷ []
told nobody = []
told (unfit n w r) = (n ∷ w ∷ r.number ∷ r.place ∷ []) ∷ []
told (advanced n w z) = (n ∷ w ∷ []) ∷ all_bits z.rows ∷ all_bits z.exponents ∷ all_bits z.final_state ∷ []
told (finished n w x) = (n ∷ w ∷ []) ∷ ending x ∷ all_bits x.rows ∷ all_bits x.exponents ∷ all_bits x.final_state ∷ []

-- whose turn was next, and the reply
abbrev answered : List Exchange → List (Option ℕ × List (List ℕ))
answered es = map (λ e. (e.next, told e.reply)) es

-- ---- van der Pol twice, for one rate: with a warm-up window and two measured ones, and with one measured window

unfoldable pub long : Slices
unfolding of_int
long = slices (map whole (21 ∷ 22 ∷ 23 ∷ 24 ∷ 25 ∷ 26 ∷ [])) (whole 31 ∷ []) (whole 41 ∷ whole 42 ∷ [])

unfoldable pub short : Slices
unfolding of_int
short = slices (map whole (51 ∷ 52 ∷ 53 ∷ [])) (whole 61 ∷ []) (whole 71 ∷ whole 72 ∷ [])

-- the second turn is lent no room for the final state; each turn of the first run is lent what it was lent at first
abbrev calls : List Call
calls =
    take_turn [] short
    ∷ hand_in (van_der_pol 2 1) 1
    ∷ hand_in (van_der_pol 0 1) 1
    ∷ hand_in (van_der_pol 1 0) 1
    ∷ take_turn [] long
    ∷ take_turn [] (slices short.rows short.exponents [])
    ∷ take_turn [] short
    ∷ take_turn [] long
    ∷ hand_in (van_der_pol 3 4) 2
    ∷ take_turn [] long
    ∷ []

pub van_der_pol_twice : answered (exchanges [] calls) ≡
    (none, told nobody)
    ∷ (none, told (named 0))
    ∷ (some 0, told (rejected (refuse 4 0)))
    ∷ (some 0, told (named 1))
    ∷ (some 0, told (advanced 0 1 long))
    ∷ (some 1, told (unfit 1 0 (refuse 13 2)))
    ∷ (some 1, (1 ∷ 1 ∷ []) ∷ (0 ∷ 0 ∷ 1 ∷ 2 ∷ []) ∷ (0x4015000000000000 ∷ 0xc00e1c0166c3fb8e ∷ 0xc00e1c0166c3fb8e ∷ []) ∷ (0xc00e1c0166c3fb8e ∷ []) ∷ (0x40082ad58d38d76b ∷ 0xbf9c3355084aa680 ∷ []) ∷ [])
    ∷ (some 0, (0 ∷ 2 ∷ []) ∷ (0x4016000000000000 ∷ 0xbff4a962d1ebe792 ∷ 0xbff4a962d1ebe792 ∷ all_bits (drop 3 long.rows)) ∷ all_bits long.exponents ∷ all_bits long.final_state ∷ [])
    ∷ (some 0, told (named 1))
    ∷ (some 0, (0 ∷ 3 ∷ []) ∷ (0 ∷ 0 ∷ 2 ∷ 6 ∷ []) ∷ (all_bits (take 3 long.rows) ++ (0x4017000000000000 ∷ 0x3f89df4bd4a20c74 ∷ 0xbfe475a43a42a379 ∷ [])) ∷ (0xbfe475a43a42a379 ∷ []) ∷ (0x40077e21542276ed ∷ 0xbfc8495b6dc33179 ∷ []) ∷ [])
    ∷ []
unfolding exchanges splitmix64 long short van_der_pol root log mix unit dot_from add sub mul div neg round of_int le lt eq to_bits of_bits
van_der_pol_twice = refl

-- ---- names

pub least : (least_free [] ≡ 0) × (least_free (0 ∷ 1 ∷ []) ≡ 2) × (least_free (5 ∷ 0 ∷ 3 ∷ 1 ∷ []) ≡ 2) × (least_free (6 ∷ 4 ∷ []) ≡ 0)
unfolding least_free
least = (refl, refl, refl, refl)
