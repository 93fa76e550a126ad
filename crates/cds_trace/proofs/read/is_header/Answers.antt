use Rattle.std.proofs.Common.{arith}
use Rattle.std.proofs.lemmas.Bool.Decides.{nat_tests}
use Rattle.csv.specs.Records.{fields_of}
use Rattle.cds_trace.proofs.TextLaws.{is_header-field_at}
use Rattle.cds_trace.proofs.read.is_header.Goals as goal

pub returns-then-is_word_at : goal.returns-then-is_word_at
returns-then-is_word_at c = rw (is_header-field_at (fields_of c.args.row.now)) (grind (arith, nat_tests))

pub returns-else-is_word_at : goal.returns-else-is_word_at
returns-else-is_word_at c = rw (is_header-field_at (fields_of c.args.row.now)) (grind (arith, nat_tests))
