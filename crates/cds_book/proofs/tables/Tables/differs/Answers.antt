use Rattle.std.proofs.Common.{◌≡◌, ◌∙◌, sym, subst}
use Rattle.std.specs.Prelude.{IfOk}
use Rattle.cds_book.specs.Inputs.{Bindings, inputs_by, inputs_of}
use Rattle.cds_book.specs.Plan.{are_others, inputs_differ}
use Rattle.cds_book.proofs.ReachLaws.{differ-unreached}
use Rattle.cds_book.proofs.tables.Tables.differs.Goals as goal

pub returns-then-is_reached : goal.returns-then-is_reached
unfolding inputs_differ
returns-then-is_reached c = subst (λ (b : Bindings). IfOk c.compare.result
    (λ r. r ≡ are_others (inputs_of c.args.self.now.state c.args.name) (inputs_by b c.args.name)))
    c.requires c.compare.ensures

pub returns : goal.returns
returns c = sym (differ-unreached c.args.self.now.state c.args.change.now c.args.name
    (sym c.is_reached.ensures ∙ c.if-is_reached.false))
