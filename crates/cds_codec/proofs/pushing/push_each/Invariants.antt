use Rattle.std.proofs.Common.{◌≡◌, ◌++◌, take}
use Rattle.std.specs.Prelude.{flat_map}
use Rattle.cds_codec.proofs.pushing.push_each.Given as goal

abbrev pub invariant-loop-place : goal.invariant-loop-place
invariant-loop-place g l = l.bytes.items ≡ l.fn.bytes.items ++ flat_map g.T.Field.spelled (take l.place l.items)
