-- The results of a sequence as they are held.
use Rattle.std.proofs.Common.{◌≡◌, ◌∙◌, List, map, Option, Result, sym, ap}
use Rattle.std.specs.Prelude.{All}
use Rattle.std.proofs.lemmas.List.Elements.{All-weaker}
use Rattle.std.proofs.lemmas.Simd.{map-map}
use Rattle.cds_base.specs.declared.peak.Missing.{Missing}
use Rattle.cds_frac.specs.Fraction.{Fraction}
use Rattle.cds_suit.specs.declared.verdict.Verdict.{Verdict}
use Rattle.cds_integrate.specs.Seen.{seen}
use Rattle.cds_graph.specs.declared.calibration.Calibration.{Calibration}
use Rattle.cds_graph.specs.declared.check_line.CheckLine.{CheckLine}
use Rattle.cds_graph.specs.declared.found.FoundListed.{FoundListed as HeldListed}
use Rattle.cds_graph.specs.declared.found.FoundRow.{FoundRow as HeldRow}
use Rattle.cds_graph.specs.declared.found.FoundSequence.{FoundSequence as HeldSequence}
use Rattle.cds_graph.specs.Amounts.{amounts_in}
use Rattle.cds_graph.specs.Checks.{checks_of, verdict_of_checks}
use Rattle.cds_graph.specs.Found.{FoundRow, FoundStandard}
use Rattle.cds_graph.specs.Held.{found_shown, listed_shown, row_shown, standard_shown, HoldAmounts}
use Rattle.cds_graph.specs.Points.{calibrations_of}
use Rattle.cds_graph.specs.Ranges.{AreAmounts, StateAmounts}
use Rattle.cds_graph.specs.Results.{Results, evaluated}
use Rattle.cds_graph.proofs.FoundLaws.{All-seen}

-- results of these parts are those of the sequence
pub results-made : (held : HeldSequence) (calibrations : List Calibration)
    (amounts : List (Option (List (Result Fraction Missing)))) (checks : List (List CheckLine)) (verdict : Verdict) →
    calibrations ≡ calibrations_of (found_shown held) →
    amounts ≡ map (λ (row : HeldRow). amounts_in calibrations (row_shown row)) held.rows.items →
    checks ≡ checks_of (found_shown held) → verdict ≡ verdict_of_checks checks →
    let made : Results = record {
      rows = map (λ (row : HeldRow). seen row.node.value.part) held.rows.items;
      periods = map (λ (row : HeldRow). row.node.value.period) held.rows.items;
      calibrations = calibrations;
      amounts = amounts;
      noise = held.noise;
      checks = checks;
      verdict = verdict;
    } in made ≡ evaluated (found_shown held)
unfolding evaluated
results-made held calibrations amounts checks verdict by_points by_amounts by_checks by_verdict =
    let sequence = found_shown held in
    let rows = map-map (λ (r : FoundRow). r.found) row_shown held.rows.items in
    let periods = map-map (λ (r : FoundRow). r.period) row_shown held.rows.items in
    let all_amounts : amounts ≡ map (amounts_in (calibrations_of sequence)) sequence.rows =
    by_amounts ∙ ap (λ cs. map (λ (row : HeldRow). amounts_in cs (row_shown row)) held.rows.items) by_points
    ∙ sym (map-map (amounts_in (calibrations_of sequence)) row_shown held.rows.items) in
    let overall : verdict ≡ verdict_of_checks (checks_of sequence) = by_verdict ∙ ap verdict_of_checks by_checks in
    cc

-- the standards of listed sequences state amounts, as they are held
pub held-amounts : (standards : List HeldListed) → All StateAmounts (map listed_shown standards) →
    All HoldAmounts standards
held-amounts standards all =
    All-weaker (λ (l : HeldListed). StateAmounts (listed_shown l)) HoldAmounts
    (λ l each. All-seen (λ (s : FoundStandard). AreAmounts s.row.amounts) standard_shown l.rows.items each) standards
    (All-seen StateAmounts listed_shown standards all)
