use Rattle.std.proofs.Common.{◌≡◌, ◌≤◌, [], take}
use Rattle.cds_desk.specs.Opening.{Opens}
use Rattle.cds_desk.proofs.desk.state_of.Given as goal

-- the records so far make the state
abbrev pub invariant-loop-place : goal.invariant-loop-place
invariant-loop-place g l = record {
  opens : Opens (take l.place l.records) l.state.held;
  counts : l.initial.steps ≤ l.steps;
  no_step : l.records ≡ [] → l.steps ≡ l.initial.steps;
}
