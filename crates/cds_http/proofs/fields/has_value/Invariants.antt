use Rattle.std.proofs.Common.{◌≡◌, map, drop}
use Rattle.std.specs.List.{list_any}
use Rattle.httparse.specs.Spans.{header_bytes}
use Rattle.http1.specs.Text.{eq_ignore_case}
use Rattle.http1.specs.Fields.{values_named}
use Rattle.cds_http.proofs.fields.has_value.Given as goal

-- the fields that are left have one with the value exactly where all have
abbrev pub invariant-loop-field : goal.invariant-loop-field
invariant-loop-field l =
    list_any (λ v. eq_ignore_case v l.value) (values_named l.name (map (header_bytes l.head) (drop l.field-index l.fields)))
    ≡ list_any (λ v. eq_ignore_case v l.value) (values_named l.name (map (header_bytes l.head) l.fields))
