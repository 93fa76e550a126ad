use Rattle.std.proofs.Common.{◌≡◌, ◌∙◌, ◌+◌, ◌++◌, List, length, map, sym, ap, subst, arith}
use Rattle.std.specs.List.{filter_map}
use Rattle.std.specs.Prelude.{IfOk, option_to_list}
use Rattle.cds_graph.specs.declared.check_line.CheckLine.{CheckLine}
use Rattle.cds_graph.specs.declared.found.FoundRow.{FoundRow as HeldRow}
use Rattle.cds_graph.specs.Checks.{or_too_few, row_line}
use Rattle.cds_graph.specs.Held.{found_shown, row_shown}
use Rattle.cds_graph.specs.Rows.{with_numbers}
use Rattle.cds_graph.proofs.FoundLaws.{given-one, numbered-seen, numbered-within, numbered-whole}
use Rattle.cds_graph.proofs.row_lines.row_lines.Goals as goal

pub loop-place-preserved : goal.loop-place-preserved
loop-place-preserved c =
    let line = row_line (found_shown c.args.found.now) c.args.check.now in
    let rows = c.as_slice-rows.result.now in
    let place = c.loop-place.place in
    let row : HeldRow = c.index-rows-place.result in
    c.in_ok-add_row.ensures
    ∙ ap (λ (ls : List CheckLine). ls ++ option_to_list (line (place + 1, row_shown row))) c.loop-place.invariant
    ∙ sym (given-one line (with_numbers (map row_shown rows)) place (place + 1, row_shown row)
    (numbered-within row_shown rows place c.loop-place-test.true)
    (numbered-seen row_shown rows place row c.loop-place-test.true c.index-rows-place.is))

pub returns : goal.returns
returns c =
    let line = row_line (found_shown c.args.found.now) c.args.check.now in
    let rows = c.as_slice-rows.result.now in
    let whole : c.loop-place.place ≡ length rows =
    omega (arith, c.loop-place-test.false, c.loop-place.auto.place-end) in
    let all : c.loop-place.lines ≡ filter_map line (with_numbers (map row_shown c.args.found.now.rows.items)) =
    c.loop-place.invariant ∙ ap (filter_map line) (numbered-whole row_shown rows c.loop-place.place whole)
    ∙ ap (λ (rs : List HeldRow). filter_map line (with_numbers (map row_shown rs))) c.as_slice-rows.ensures.value in
    subst (λ (ls : List CheckLine). IfOk c.or_too_few.result (λ given. given ≡ or_too_few ls)) all c.or_too_few.ensures
