use Rattle.std.proofs.Common.{subst}
use Rattle.cds_book.specs.Kept.{IsTables}
use Rattle.cds_book.specs.Tables.{TablesValue}
use Rattle.cds_book.proofs.tables.Tables.rules.Goals as goal

-- what is held is what the tables are seen as
pub returns : goal.returns
returns c = subst (λ (w : TablesValue). IsTables w.state) c.self.view_is c.self.invariant.tables
