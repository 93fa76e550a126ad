use Rattle.std.proofs.Common.{rules, string_bytes}
use Rattle.cds_fields.specs.Section.{each_named}
use Rattle.cds_fields.specs.Seen.{fields_seen}
use Rattle.cds_fields.specs.Values.{signed_in}
use Rattle.cds_fields.proofs.NamedLaws.{named-names, named-rising}
use Rattle.cds_fields.proofs.named.each_number.Goals as goal

pub returns-clause-names : goal.returns-clause-names
unfolding each_named
returns-clause-names g c =
    named-names (signed_in c.args.least c.args.most) (string_bytes c.args.section.now.front) g.E.Refusal.told
    (fields_seen g.V.TextValue.shown c.args.section.now.fields.now.entries) c.loop-key.numbers.items (search rules)

pub returns-clause-rising : goal.returns-clause-rising
unfolding each_named
returns-clause-rising g c =
    named-rising (signed_in c.args.least c.args.most) (string_bytes c.args.section.now.front) g.E.Refusal.told
    g.V.TextValue.shown c.args.section.now.fields.now.entries c.loop-key.numbers.items c.iter-key-items.ensures.ordered (search rules)
