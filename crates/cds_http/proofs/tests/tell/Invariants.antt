use Rattle.std.proofs.Common.{◌≡◌, ◌+◌, false, length}
use Rattle.cds_http.proofs.tests.tell.Given as goal

-- the stream is not closed, and no more of it came
abbrev pub invariant-loop : goal.invariant-loop
invariant-loop l = record {
  closed : l.messages.closed ≡ false;
  total : l.messages.place + length l.messages.bytes ≡ l.fn.messages.place + length l.fn.messages.bytes;
}
