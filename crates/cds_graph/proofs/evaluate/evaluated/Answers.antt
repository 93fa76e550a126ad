use Rattle.std.proofs.Common.{◌∙◌, ◌≤◌, List, map, sym, ap, ap₂, subst}
use Rattle.std.specs.Prelude.{All}
use Rattle.cds_graph.specs.declared.calibration.Calibration.{Calibration}
use Rattle.cds_graph.specs.declared.found.FoundRow.{FoundRow as HeldRow}
use Rattle.cds_graph.specs.Amounts.{amounts_in}
use Rattle.cds_graph.specs.Checks.{verdict_of_checks}
use Rattle.cds_graph.specs.Found.{FoundRow}
use Rattle.cds_graph.specs.Held.{row_shown}
use Rattle.cds_graph.proofs.FoundLaws.{All-seen}
use Rattle.cds_graph.proofs.ResultLaws.{held-amounts, results-made}
use Rattle.cds_graph.proofs.evaluate.evaluated.Goals as goal

pub calibrations_of-requires : goal.calibrations_of-requires
calibrations_of-requires c = held-amounts c.args.found.standards.items c.requires.standards

pub amounts_of-requires-clause-diluted : goal.amounts_of-requires-clause-diluted
amounts_of-requires-clause-diluted c =
    subst (λ (rows : List HeldRow). All (λ (row : HeldRow). 1 ≤ row.row.v) rows) (sym c.as_slice-rows.ensures.value)
    (All-seen (λ (row : FoundRow). 1 ≤ row.row.v) row_shown c.args.found.rows.items c.requires.diluted)

pub returns-clause-value : goal.returns-clause-value
returns-clause-value c =
    let amounts = c.in_ok-amounts.ensures
    ∙ ap₂ (λ (cs : List Calibration) (rows : List HeldRow). map (λ (row : HeldRow). amounts_in cs (row_shown row)) rows)
    c.as_slice-of_components.ensures.value c.as_slice-rows.ensures.value in
    results-made c.args.found c.in_ok-calibrations.calibrations.items c.in_ok-amounts.amounts.items
    c.in_ok-checks.checks.items c.in_ok-verdict.verdict c.in_ok-calibrations.ensures amounts c.in_ok-checks.ensures
    (c.in_ok-verdict.ensures ∙ ap verdict_of_checks c.as_slice-of_checks.ensures.value)
