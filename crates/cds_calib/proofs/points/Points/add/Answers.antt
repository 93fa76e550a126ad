use Rattle.std.proofs.Common.{rules}
use Rattle.cds_calib.proofs.Kept.{IsSmall-kept, IsKept-insert}
use Rattle.cds_calib.proofs.points.Points.add.Goals as goal

pub with-self-inside-requires-clause-room : goal.with-self-inside-requires-clause-room
with-self-inside-requires-clause-room c = IsSmall-kept _ _ _ c.self.invariant

pub invariant_of-self : goal.invariant_of-self
invariant_of-self c =
    IsKept-insert c.self.inside.items.items _ c.args.place _ _ c.self.inside.sums _ (record { amount = c.args.amount; area = c.args.area })
    c.self.invariant (record { some = c.requires.some; amount = c.requires.amount; area = c.requires.area })
    (search rules) (search rules) c.in-Ok.ensures.items c.insert.ensures.capacity c.with-self-inside.ensures
