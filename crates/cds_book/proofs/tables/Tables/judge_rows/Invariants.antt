use Rattle.cds_book.proofs.Judging.{Judged}
use Rattle.cds_book.specs.Judged.{row_judged}
use Rattle.cds_book.proofs.tables.Tables.judge_rows.Given as goal

abbrev pub invariant-loop-place : goal.invariant-loop-place
invariant-loop-place l = Judged (row_judged l.self.state) l.asked l.place l.rows.items
