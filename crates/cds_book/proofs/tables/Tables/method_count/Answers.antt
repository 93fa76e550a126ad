use Rattle.std.proofs.Common.{length, arith, ap}
use Rattle.cds_book.proofs.MethodLaws.{few_texts}
use Rattle.cds_book.proofs.tables.Tables.method_count.Goals as goal

pub overflow_cast-count : goal.overflow_cast-count
overflow_cast-count c = let few = few_texts _ c.rules.ensures c.args.name in let same = ap length c.texts.ensures in omega (arith, few, same)

pub overflow_add-result : goal.overflow_add-result
overflow_add-result c = let few = few_texts _ c.rules.ensures c.args.name in let same = ap length c.texts.ensures in grind (arith, few, same, c.one_if.ensures.few)
