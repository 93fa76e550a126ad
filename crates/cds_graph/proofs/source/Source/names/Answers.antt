use Rattle.std.proofs.Common.{◌≡◌, ◌∙◌, refl, sym, ap}
use Rattle.std.proofs.Common.{List, IfOk, map, option_copied, subst, ℕ}
use Rattle.cds_base.specs.Named.{placed}
use Rattle.cds_base.specs.declared.named.Named.{Named}
use Rattle.cds_base.proofs.NamedLaws.{map-placed}
use Rattle.cds_graph.proofs.NameLaws.{names-unplaced, names-one_placed}
use Rattle.cds_graph.proofs.source.Source.names.Goals as goal

pub reserve-requires : goal.reserve-requires
reserve-requires c = rw c.in_ok-list.ensures c.rules.ensures.sequences.names

pub returns-in_default : goal.returns-in_default
returns-in_default c =
    subst (λ (l : List (List ℕ)). IfOk c.names_in.result (λ names. names.items ≡ l))
    (c.in_ok-list.ensures ∙ sym (names-unplaced c.args.self.now.tables.now.state (option_copied
    c.args.self.now.change) (sym c.in_default.is ∙ c.placed.ensures)))
    c.names_in.ensures

pub returns : goal.returns
returns c =
    let entry : Named (Unit {0}) = record { name = c.in-Some.name; value = tt } in
    let name_of : Named (Unit {0}) → List ℕ = λ e. e.name in
    subst (λ (l : List (List ℕ)). IfOk c.names_in-2.result (λ names. names.items ≡ l))
    (ap (map name_of) c.put.ensures.value
    ∙ map-placed name_of (λ (n : List ℕ). n) c.reserve.new.self.entries.items entry
    ∙ ap (λ (l : List (List ℕ)). placed (λ (n : List ℕ). n) l c.in-Some.name)
    (ap (map name_of) c.reserve.ensures.stay ∙ c.in_ok-list.ensures)
    ∙ sym (names-one_placed c.args.self.now.tables.now.state (option_copied c.args.self.now.change) c.in-Some.name
    (sym c.in-Some.is ∙ c.placed.ensures)))
    c.names_in-2.ensures
