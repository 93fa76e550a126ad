use Rattle.std.proofs.Common.{rules}
use Rattle.cds_calib.proofs.Kept.{IsKept-remove}
use Rattle.cds_calib.proofs.points.Points.remove.Goals as goal

pub invariant_of-self : goal.invariant_of-self
invariant_of-self c =
    IsKept-remove c.self.inside.items.items _ c.args.place _ _ c.self.inside.sums _ c.remove-point.result
    c.self.invariant (search rules) c.remove-point.ensures.value c.remove-point.ensures.items c.remove-point.ensures.capacity c.without-self-inside.ensures
