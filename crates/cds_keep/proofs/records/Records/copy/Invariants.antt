use Rattle.std.proofs.Common.{◌≡◌, take}
use Rattle.cds_keep.proofs.records.Records.copy.Given as goal

abbrev pub invariant-loop-record : goal.invariant-loop-record
invariant-loop-record l = l.copied ≡ take l.record-index l.record-items
