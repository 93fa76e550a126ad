use Rattle.std.proofs.Common.{◌≡◌, ◌∙◌, sym, ap, subst}
use Rattle.std.specs.Prelude.{IfOk}
use Rattle.cds_book.specs.Inputs.{inputs_by}
use Rattle.cds_book.proofs.BasisLaws.{inputs_of-applied}
use Rattle.cds_book.proofs.tables.Tables.inputs_after.Goals as goal

pub returns : goal.returns
returns c = subst (λ inputs. IfOk c.inputs_over.result (λ made. made ≡ inputs)) (ap (λ bound. inputs_by bound c.args.name) c.in_ok-over.ensures ∙ sym (inputs_of-applied c.args.self.now.state c.args.change.now c.args.name)) c.inputs_over.ensures
