use Rattle.std.proofs.Common.{◌≡◌, ℕ, List, ◌+◌, ◌*◌, ◌^◌, ◌<◌, ◌≤◌, true, false, None, length, vec_len, if◌then◌else◌}
use Rattle.cds_http.specs.Stream.{fault_in}
use Rattle.cds_desk.specs.Serving.{world, reading, FindsOn}
use Rattle.cds_desk.proofs.ServingLaws.{SoFar}
use Rattle.cds_desk.proofs.desk.Desk.serve_connection.Given as goal

abbrev pub invariant-loop-source : goal.invariant-loop-source
invariant-loop-source g l = record {
  so_far : SoFar
      (world (g.W.Sink.told l.initial.sink).written l.initial.self (g.K.Keeper.told l.initial.keeper) l.initial.steps (g.C.Clock.moments l.initial.clock))
      (world (g.W.Sink.told l.sink).written l.self (g.K.Keeper.told l.keeper) l.steps (g.C.Clock.moments l.clock))
      (reading (g.S.Source.told l.initial.source).given (g.S.Source.told l.initial.source).left)
      (reading (g.S.Source.told l.source).given (g.S.Source.told l.source).left)
      l.messages;
  finds : (name : List ℕ) → FindsOn (g.K.Keeper.finds l.initial.keeper name) (g.K.Keeper.finds l.keeper name) (g.K.Keeper.told l.initial.keeper) (g.K.Keeper.told l.keeper);
  opened : (g.K.Keeper.told l.keeper).is_open ≡ true;
  no_fault : fault_in l.messages.last ≡ None;
  not_closed : l.messages.closed ≡ false;
  piece : vec_len l.piece ≡ 65536;
  total : l.messages.place + length l.messages.bytes + (g.S.Source.told l.source).bound ≡ (g.S.Source.told l.initial.source).bound;
  bounded : 0 < l.messages.place + length l.messages.bytes → (g.S.Source.told l.initial.source).bound < 2 ^ 64;
  source_kept : (g.S.Source.told l.source).faults ≡ (g.S.Source.told l.initial.source).faults;
  sink_kept : (g.W.Sink.told l.sink).faults ≡ (g.W.Sink.told l.initial.sink).faults;
  keeper_counts : (g.K.Keeper.told l.initial.keeper).faults ≤ (g.K.Keeper.told l.keeper).faults;
}

abbrev pub decreases-loop-source : goal.decreases-loop-source
decreases-loop-source g l = 4 * (g.S.Source.told l.source).bound + 2 * length l.messages.bytes + (if l.messages.continued then 0 else 1)
