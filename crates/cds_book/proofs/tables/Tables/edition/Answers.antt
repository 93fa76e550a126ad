use Rattle.std.proofs.Common.{sym}
use Rattle.cds_book.proofs.SequenceLaws.{few_editions}
use Rattle.cds_book.proofs.tables.Tables.edition.Goals as goal

pub returns-clause-few : goal.returns-clause-few
returns-clause-few c = few_editions _ c.rules.ensures c.args.name _ (sym c.in-Some.ensures)
