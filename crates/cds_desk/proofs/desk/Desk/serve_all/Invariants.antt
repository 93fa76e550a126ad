use Rattle.std.proofs.Common.{◌≡◌, ℕ, List, ◌≤◌, true}
use Rattle.cds_desk.specs.Serve.{served}
use Rattle.cds_desk.specs.Serving.{lasting, FindsOn}
use Rattle.cds_desk.proofs.ServeLaws.{VisitedSo}
use Rattle.cds_desk.proofs.desk.Desk.serve_all.Given as goal

abbrev pub invariant-loop-count : goal.invariant-loop-count
invariant-loop-count g l = record {
  so : VisitedSo l.count
      (served (lasting l.initial.self (g.K.Keeper.told l.initial.keeper) l.initial.steps (g.C.Clock.moments l.initial.clock)) (g.D.Door.told l.initial.door))
      (served (lasting l.self (g.K.Keeper.told l.keeper) l.steps (g.C.Clock.moments l.clock)) (g.D.Door.told l.door));
  finds : (name : List ℕ) → FindsOn (g.K.Keeper.finds l.initial.keeper name) (g.K.Keeper.finds l.keeper name) (g.K.Keeper.told l.initial.keeper) (g.K.Keeper.told l.keeper);
  opened : (g.K.Keeper.told l.keeper).is_open ≡ true;
  keeper_counts : (g.K.Keeper.told l.initial.keeper).faults ≤ (g.K.Keeper.told l.keeper).faults;
  door_counts : (g.D.Door.told l.initial.door).faults ≤ (g.D.Door.told l.door).faults;
}
