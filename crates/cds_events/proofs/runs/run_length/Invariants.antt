use Rattle.std.proofs.Common.{◌≡◌, ◌+◌, ◌-◌, ◌≤◌, length, drop}
use Rattle.cds_events.specs.Runs.{fused, fused_after, run_length}
use Rattle.cds_events.proofs.RunLaws.{peak_at}
use Rattle.cds_events.proofs.runs.run_length.Given as goal

abbrev pub invariant-loop-count : goal.invariant-loop-count
invariant-loop-count l = record {
  some : 1 ≤ l.count;
  within : l.count ≤ length l.peaks;
  value : l.count + fused_after (fused l.gap l.pieces) (peak_at l.peaks (l.count - 1))
      (drop l.count l.peaks) ≡ run_length (fused l.gap l.pieces) l.peaks;
}

abbrev pub decreases-loop-count : goal.decreases-loop-count
decreases-loop-count l = length l.peaks - l.count
