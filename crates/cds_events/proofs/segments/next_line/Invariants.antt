use Rattle.std.proofs.Common.{◌≡◌, ◌<◌, ◌≤◌, ◌⊎◌, Contains, take}
use Rattle.std.specs.Prelude.{All}
use Rattle.cds_events.specs.Segments.{IsOutside}
use Rattle.cds_events.proofs.segments.next_line.Given as goal

abbrev pub invariant-loop-at : goal.invariant-loop-at
invariant-loop-at l = record {
  behind : l.from < l.to;
  before : l.to ≤ l.end;
  line : (l.to ≡ l.end) ⊎ Contains l.drops l.to;
  clear : All (IsOutside l.from l.to) (take l.at-index l.drops);
}
