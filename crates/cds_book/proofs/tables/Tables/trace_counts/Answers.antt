use Rattle.std.proofs.Common.{◌∙◌, ap}
use mir.Val.{bool_byte}
use Rattle.cds_book.proofs.HeldLaws.{counts-held}
use Rattle.cds_book.proofs.tables.Tables.trace_counts.Goals as goal

pub returns : goal.returns
returns c = counts-held c.self.inside _ _ c.args.trace.now _ _ _ _ c.self.invariant c.self.view_is c.len.ensures c.signals-versions.ensures (c.from.ensures ∙ ap bool_byte c.is_empty.ensures) (c.from-2.ensures ∙ c.len-2.ensures.value)
