use Rattle.std.proofs.Common.{◌≡◌, ◌+◌, ◌≤◌, ◌++◌, length, fold}
use Rattle.cds_base.specs.declared.cluster.Cut.TheVariants.{Start}
use Rattle.cds_events.specs.Parts.{parts_from}
use Rattle.cds_events.specs.Arrangement.{start_of, end_of}
use Rattle.cds_events.specs.Ordered.{AreOrdered, next_apex}
use Rattle.cds_events.proofs.valleys.parts_of_run.Given as goal

abbrev pub invariant-loop-rest : goal.invariant-loop-rest
invariant-loop-rest g l = record {
  value : l.parts.items ++ parts_from l.trace l.start l.left l.rest ≡ parts_from l.trace (start_of l.run) Start l.run;
  ordered : AreOrdered l.trace l.rest;
  least : l.fn.steps ≤ l.steps;
  ends : fold (λ end peak. peak.end) l.start l.rest ≡ end_of l.run;
  most : l.steps + next_apex 0 l.run ≤ l.fn.steps + next_apex l.start l.rest;
}

abbrev pub decreases-loop-rest : goal.decreases-loop-rest
decreases-loop-rest g l = length l.rest
