use Rattle.cds_book.proofs.Judging.{Judged}
use Rattle.cds_book.specs.Judged.{standard_judged}
use Rattle.cds_book.proofs.tables.Tables.judge_standards.Given as goal

abbrev pub invariant-loop-place : goal.invariant-loop-place
invariant-loop-place l = Judged (λ _. standard_judged l.self.state l.name) l.listed l.place l.names.items
