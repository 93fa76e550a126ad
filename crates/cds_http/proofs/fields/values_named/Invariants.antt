use Rattle.std.proofs.Common.{map, take}
use Rattle.httparse.specs.Spans.{header_bytes}
use Rattle.http1.specs.Fields.{values_named}
use Rattle.cds_http.specs.Scan.{AreValues}
use Rattle.cds_http.proofs.fields.values_named.Given as goal

-- the values of the fields so far
abbrev pub invariant-loop-field : goal.invariant-loop-field
invariant-loop-field l = AreValues l.values (values_named l.name (map (header_bytes l.head) (take l.field-index l.fields)))
