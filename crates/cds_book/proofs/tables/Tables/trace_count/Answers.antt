use Rattle.std.proofs.Common.{length, arith, ap}
use Rattle.cds_book.proofs.TraceLaws.{few_signals}
use Rattle.cds_book.proofs.tables.Tables.trace_count.Goals as goal

pub overflow_cast-count : goal.overflow_cast-count
overflow_cast-count c = let few = few_signals _ c.rules.ensures c.args.name in let same = ap length c.signals.ensures in omega (arith, few, same)

pub overflow_add-result : goal.overflow_add-result
overflow_add-result c = let few = few_signals _ c.rules.ensures c.args.name in let same = ap length c.signals.ensures in grind (arith, few, same, c.one_if.ensures.few)
