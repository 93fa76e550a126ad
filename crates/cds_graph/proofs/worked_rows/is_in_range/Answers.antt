use Rattle.std.proofs.Common.{◌≡◌, ◌≤◌, List, length, map, sym, subst, arith, rules}
use Rattle.std.specs.Prelude.{All}
use Rattle.std.proofs.lemmas.List.{length-map}
use Rattle.std.proofs.lemmas.List.Elements.{All-map, All-weaker}
use Rattle.cds_sign.specs.declared.limits.TheConstants.{MOST_ROWS}
use Rattle.cds_graph.specs.declared.found.FoundListed.{FoundListed as HeldListed}
use Rattle.cds_graph.specs.declared.found.FoundRow.{FoundRow as HeldRow}
use Rattle.cds_graph.specs.Found.{FoundRow, FoundStandard}
use Rattle.cds_graph.specs.Held.{listed_shown, row_shown, standard_shown, HoldAmounts}
use Rattle.cds_graph.specs.Ranges.{AreAmounts, StateAmounts}
use Rattle.cds_graph.proofs.worked_rows.is_in_range.Goals as goal

pub returns : goal.returns
returns c some =
    let rows = c.args.found.now.rows.items in
    let standards = c.args.found.now.standards.items in
    let same_rows : c.as_slice-rows.result.now ≡ rows = c.as_slice-rows.ensures.value in
    let same_standards : c.as_slice-standards.result.now ≡ standards = c.as_slice-standards.ensures.value in
    let held_few : length c.as_slice-rows.result.now ≤ MOST_ROWS = search rules in
    let held_diluted : All (λ (r : HeldRow). 1 ≤ r.row.v) c.as_slice-rows.result.now = search rules in
    let held_amounts : All HoldAmounts c.as_slice-standards.result.now = search rules in
    record {
      few =
          let few : length rows ≤ MOST_ROWS = subst (λ (rs : List HeldRow). length rs ≤ MOST_ROWS) same_rows held_few in
          omega (arith, few, length-map rows row_shown);
      diluted = All-map (λ (r : FoundRow). 1 ≤ r.row.v) row_shown rows
          (subst (λ (rs : List HeldRow). All (λ (r : HeldRow). 1 ≤ r.row.v) rs) same_rows held_diluted);
      standards = All-map StateAmounts listed_shown standards
          (All-weaker HoldAmounts (λ (l : HeldListed). StateAmounts (listed_shown l))
          (λ l each. All-map (λ (s : FoundStandard). AreAmounts s.row.amounts) standard_shown l.rows.items each)
          standards (subst (All HoldAmounts) same_standards held_amounts));
      noise = c.is_some.ensures some;
    }
