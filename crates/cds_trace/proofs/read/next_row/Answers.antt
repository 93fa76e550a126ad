use Rattle.cds_trace.proofs.RecordLaws.{rows_left-ended, rows_left-found}
use Rattle.cds_trace.proofs.read.next_row.Goals as goal

pub returns-in-Ok-clause-found : goal.returns-in-Ok-clause-found
returns-in-Ok-clause-found c h =
    rows_left-found c.args.reader.now c.read_byte_record.new.self _ c.requires (rw h at (c.in-Ok.ensures.reads c.requires.untrimmed c.requires.ready))

pub returns-in-Ok-clause-ended : goal.returns-in-Ok-clause-ended
returns-in-Ok-clause-ended c h =
    rows_left-ended c.args.reader.now c.read_byte_record.new.self _ c.requires (rw h at (c.in-Ok.ensures.reads c.requires.untrimmed c.requires.ready))
