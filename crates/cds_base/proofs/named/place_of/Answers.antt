use Rattle.std.proofs.Common.{rules}
use Rattle.std.proofs.lemmas.List.Sorted.{answers_always}
use Rattle.cds_base.specs.declared.named.Named.{Named}
use Rattle.cds_base.proofs.NamedLaws.{searched}
use Rattle.cds_base.proofs.named.place_of.Goals as goal

-- the closure gives an entry's name
pub returns : goal.returns
returns g c =
    let facts = c.binary_search_by_key.ensures in
    let by_name = facts.position (λ (e : Named g.row.V.Denot). e.name) (answers_always _ _ _ (λ f a r h called. search rules)) in
    let found = searched (λ (e : Named g.row.V.Denot). e.name) c.args.entries.now c.args.name c.requires _ facts.bound by_name in
    record { found = found.0; absent = found.1 }
