use Rattle.std.proofs.Common.{◌-◌, ◌≤◌, length, drop}
use Rattle.cds_http.specs.Totality.{HaveItems}
use Rattle.cds_http.proofs.laws.each_stream_has_items.Given as goal

abbrev pub invariant-loop-size : goal.invariant-loop-size
invariant-loop-size l = record {
  in_range : l.at ≤ length l.bytes;
  goes_on : HaveItems l.at (drop l.at l.bytes) l.ended → HaveItems 0 l.bytes l.ended;
}

abbrev pub decreases-loop-size : goal.decreases-loop-size
decreases-loop-size l = length l.bytes - l.at
