use Rattle.cds_fields.proofs.Lookup.{field_at-found}
use Rattle.cds_fields.proofs.section.Section.value.Goals as goal

pub returns : goal.returns
returns g c = field_at-found g.V.TextValue.shown c.get.result c.args.name.now c.args.self.now.fields.now.entries c.get.ensures.value
