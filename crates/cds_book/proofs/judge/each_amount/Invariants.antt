use Rattle.cds_book.proofs.Judging.{Judged}
use Rattle.cds_book.specs.Judged.{amount_judged}
use Rattle.cds_book.proofs.judge.each_amount.Given as goal

abbrev pub invariant-loop-place : goal.invariant-loop-place
invariant-loop-place l = Judged (λ _. amount_judged l.number) l.asked l.place l.amounts.items
