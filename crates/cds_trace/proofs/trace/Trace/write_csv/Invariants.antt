use Rattle.std.proofs.Common.{◌≡◌, ◌++◌, drop}
use Rattle.std.specs.Prelude.{codes}
use Rattle.cds_trace.specs.WrittenText.{lines_of}
use Rattle.cds_trace.proofs.trace.Trace.write_csv.Given as goal

abbrev pub invariant-loop-i : goal.invariant-loop-i
invariant-loop-i l = l.text.items ++ lines_of l.period l.i (drop l.i l.samples) ≡ codes "time_us,signal\n" ++ lines_of l.period 0 l.samples
