use Rattle.std.proofs.Common.{◌↔◌, Contains}
use Rattle.cds_names.specs.Naming.{Pair}
use Rattle.cds_names.proofs.Wants.{WantedBelow}
use Rattle.cds_names.proofs.wanted.wanted_pairs.Given as goal

abbrev pub invariant-loop-component : goal.invariant-loop-component
invariant-loop-component l = (q : Pair) → Contains l.pairs.items q ↔ WantedBelow l.windows l.times l.component q
