use Rattle.std.proofs.Common.{◌≡◌, vec_len}
use Rattle.cds_base.specs.Told.{more_before}
use Rattle.cds_respond.proofs.receiving.receive.Given as goal

abbrev pub invariant-loop-source : goal.invariant-loop-source
invariant-loop-source g l = record {
  left : (g.S.Source.told l.initial.source).left ≡ more_before l.bytes.items (g.S.Source.told l.source).left;
  piece : vec_len l.piece ≡ 65536;
  kept : (g.S.Source.told l.source).faults ≡ (g.S.Source.told l.initial.source).faults;
}

abbrev pub decreases-loop-source : goal.decreases-loop-source
decreases-loop-source g l = (g.S.Source.told l.source).bound
