use Rattle.std.proofs.Common.{◌∙◌, ap, arith, not}
use Rattle.cds_book.proofs.SequenceLaws.{counts-sequence, rows_within}
use Rattle.cds_book.proofs.tables.Tables.sequence_counts.Goals as goal
use mir.Val.{bool_byte}

pub overflow_sub-result : goal.overflow_sub-result
overflow_sub-result c = let within = rows_within _ c.rules.ensures c.args.name c.args.rows.now in omega (arith, within, c.row_count.ensures, c.rows_in_all.ensures.value, c.len.ensures)

pub returns : goal.returns
returns c edition version method standards =
    counts-sequence _ c.rules.ensures c.args.name edition version method standards c.args.rows.now _ _ _ _ _
    c.sequence_count.ensures (c.from.ensures ∙ ap bool_byte (ap not c.has_sequence.ensures)) c.rows_in_all.ensures.value c.len.ensures c.row_count.ensures
