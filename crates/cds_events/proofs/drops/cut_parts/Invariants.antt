use Rattle.std.proofs.Common.{◌≡◌, ◌+◌, ◌-◌, ◌*◌, ◌≤◌, take}
use Rattle.std.specs.List.{sum_by}
use Rattle.cds_events.specs.Drops.{cut_all}
use Rattle.cds_events.proofs.drops.cut_parts.Given as goal

abbrev pub invariant-loop-part : goal.invariant-loop-part
invariant-loop-part g l = record {
  value : l.pieces.items ≡ cut_all l.trace (take l.part-index l.parts) l.drops;
  least : l.fn.steps ≤ l.steps;
  most : l.steps ≤ l.fn.steps + sum_by (λ part. 2 * (part.end - part.start)) (take l.part-index l.parts);
}
