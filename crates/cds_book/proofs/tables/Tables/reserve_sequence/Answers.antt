use Rattle.std.proofs.Common.{◌≡◌, ◌∙◌, ◌≤◌, sym, subst}
use Rattle.cds_sign.specs.declared.limits.TheConstants.{MOST_BASIS}
use Rattle.cds_sign.specs.declared.sequence.Sequence.{Sequence}
use Rattle.cds_book.proofs.BindingLaws.{bindings-carried}
use Rattle.cds_book.proofs.KeptLaws.{few-made}
use Rattle.cds_book.proofs.tables.Tables.reserve_sequence.Goals as goal

-- what the sequence that a change makes makes other
pub rises_over-requires : goal.rises_over-requires
rises_over-requires c = bindings-carried c.args.self.now.state c.args.change.now c.args.name c.in-Some.made
    c.requires.makes (sym c.in-Some.is ∙ c.in_ok-made.ensures)

pub differs-requires : goal.differs-requires
differs-requires c = bindings-carried c.args.self.now.state c.args.change.now c.args.name c.in-Some.made
    c.requires.makes (sym c.in-Some.is ∙ c.in_ok-made.ensures)

pub with_basis-made-requires : goal.with_basis-made-requires
with_basis-made-requires c =
    let same : c.in-Some.made ≡ c.in-Sequence.made = cc in
    let few = few-made c.args.self.now.state c.rules.ensures c.args.change.now c.in-Some.made
    (sym c.in_ok-made.ensures ∙ c.in-Some.is) in
    record { small = subst (λ (s : Sequence). s.basis ≤ MOST_BASIS) same few }
