-- totals::write_row
use Rattle.std.proofs.Common.{◌≡◌, List, ◌∷◌, ◌++◌, length, ap, ap₂, ◌∙◌, arith}
use lib.ListN.{take, length-map}
use lib.Seq.{length-take-le}
use lib.Ieee.{Float}
use Rattle.totals.proofs.Rows.{row_is}
use Rattle.totals.proofs.write_row.Goals as goal

pub returns : goal.returns
returns c =
    let k = length c.args.logs.now in
    let time = c.args.progress.now.time in
    let sums = c.args.progress.now.sums in
    let f : length c.write_rates.new.row ≡ k = ap length c.write_rates.ensures ∙ length-map c.args.logs.now _ in
    let g : length c.write_rates-2.new.row ≡ k = ap length c.write_rates-2.ensures ∙ length-map (take k sums) _ ∙ length-take-le k sums (omega (arith, c.requires.1)) in
    row_is c.args.row.now time c.write_rates.new.row c.write_rates-2.new.row k c.requires.0 f g
    ∙ ap₂ (λ (vs us : List Float). time ∷ vs ++ us) c.write_rates.ensures c.write_rates-2.ensures
