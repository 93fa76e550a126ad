use Rattle.std.proofs.Common.{◌≡◌, take}
use Rattle.cds_sign.proofs.same.are_same.Given as goal

abbrev pub invariant-loop-place : goal.invariant-loop-place
invariant-loop-place g l = take l.place l.these ≡ take l.place l.those
