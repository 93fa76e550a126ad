use Rattle.std.proofs.Common.{◌^◌, ◌≤◌}
use Rattle.cds_trace.specs.Rows.{IsReading, rows_left}
use Rattle.cds_trace.proofs.TextLaws.{IsTold}
use Rattle.cds_trace.proofs.read.read_samples.Given as goal

abbrev pub invariant-loop-index : goal.invariant-loop-index
invariant-loop-index l = record {
  reading : IsReading l.reader;
  small : l.period ≤ 10 ^ 12;
  told : IsTold (rows_left l.initial.reader) l.index l.period l.samples.items (rows_left l.reader);
}
