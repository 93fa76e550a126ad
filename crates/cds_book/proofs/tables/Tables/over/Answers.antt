use Rattle.std.proofs.Common.{refl}
use Rattle.cds_book.specs.Plan.{signature}
use Rattle.cds_book.proofs.BindingLaws.{bindings-trace, bindings-draft, bindings-sign}
use Rattle.cds_book.proofs.tables.Tables.over.Goals as goal

pub returns-in-Trace : goal.returns-in-Trace
returns-in-Trace c = rw c.in-Trace.is (bindings-trace _ _ _)

pub returns-in-Draft : goal.returns-in-Draft
returns-in-Draft c = rw c.in-Draft.is (bindings-draft _ _ _)

pub returns-in-Sign : goal.returns-in-Sign
returns-in-Sign c = rw c.in-Sign.is (bindings-sign c.args.self.now.state c.in-Sign.sequence (signature c.in-Sign.number c.in-Sign.basis c.in-Sign.moment c.in-Sign.name c.in-Sign.meaning c.in-Sign.text) _ refl)
