use Rattle.std.proofs.Common.{◌≡◌, ◌-◌, ◌≤◌, length, take}
use Rattle.cds_base.specs.Told.{then_more}
use Rattle.cds_respond.proofs.sending.send.Given as goal

abbrev pub invariant-loop-sent : goal.invariant-loop-sent
invariant-loop-sent g l = record {
  within : l.sent ≤ length l.text;
  written : (g.W.Sink.told l.sink).written ≡ then_more (g.W.Sink.told l.initial.sink).written (take l.sent l.text);
  kept : (g.W.Sink.told l.sink).faults ≡ (g.W.Sink.told l.initial.sink).faults;
}

abbrev pub decreases-loop-sent : goal.decreases-loop-sent
decreases-loop-sent g l = length l.text - l.sent
