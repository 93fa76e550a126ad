use Rattle.std.proofs.Common.{rules}
use Rattle.cds_fields.specs.Section.{only}
use Rattle.cds_fields.proofs.Unknown.{least_name-found}
use Rattle.cds_fields.proofs.section.Section.only.Goals as goal

pub returns-in-Some : goal.returns-in-Some
unfolding only
returns-in-Some g c =
    rw (least_name-found g.V.TextValue.shown c.args.known.now c.args.self.now.fields.now.entries c.first_unknown.ensures.ordered, ← c.in-Some.ensures.found) (search rules)

pub returns-in-None : goal.returns-in-None
unfolding only
returns-in-None g c =
    rw (least_name-found g.V.TextValue.shown c.args.known.now c.args.self.now.fields.now.entries c.first_unknown.ensures.ordered, ← c.in-None.ensures.found)
