use Rattle.std.proofs.Common.{◌≡◌, ◌∙◌, ◌++◌, ◌∷◌, [], true, Some, length, ap, arith, rules}
use Rattle.cds_graph.specs.Amounts.{amount_in}
use Rattle.cds_graph.specs.Held.{row_shown}
use Rattle.cds_graph.specs.Rows.{is_sample}
use Rattle.cds_graph.proofs.FoundLaws.{map-numbered, map-numbered_whole}
use Rattle.cds_graph.proofs.amounts.amounts_in.Goals as goal

pub loop-place-preserved : goal.loop-place-preserved
loop-place-preserved c =
    let pushed : c.push.new.self.items ≡ c.loop-place.items.items ++ c.amount_in.result ∷ [] = search rules in
    pushed
    ∙ map-numbered (amount_in (row_shown c.args.row.now)) c.args.calibrations.now c.loop-place.place
    c.index-calibrations-place.result c.amount_in.result c.loop-place.items.items c.loop-place-test.true
    c.index-calibrations-place.is c.amount_in.ensures c.loop-place.invariant

pub returns : goal.returns
returns c =
    let is : is_sample c.args.row.now.row.kind ≡ true = search rules in
    let whole : c.loop-place.place ≡ length c.args.calibrations.now =
    omega (arith, c.loop-place-test.false, c.loop-place.auto.place-end) in
    rw is (ap Some (c.loop-place.invariant
    ∙ map-numbered_whole (amount_in (row_shown c.args.row.now)) c.args.calibrations.now c.loop-place.place whole))
