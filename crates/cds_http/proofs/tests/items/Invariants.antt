use Rattle.std.proofs.Common.{◌≡◌, ◌+◌, ◌-◌, ◌≤◌, false, length}
use Rattle.cds_http.proofs.tests.items.Given as goal

-- the bytes before `at` were fed
abbrev pub invariant-loop-piece : goal.invariant-loop-piece
invariant-loop-piece l = record {
  closed : l.messages.closed ≡ false;
  total : l.messages.place + length l.messages.bytes ≡ l.at;
  ordered : l.at ≤ l.end;
  in_range : l.end ≤ length l.stream;
}

abbrev pub decreases-loop-piece : goal.decreases-loop-piece
decreases-loop-piece l = length l.stream - l.end
