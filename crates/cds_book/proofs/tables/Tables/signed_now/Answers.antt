use Rattle.std.proofs.Common.{◌∙◌, sym}
use Rattle.cds_book.specs.Plan.{signature}
use Rattle.cds_book.proofs.SignedLaws.{no_inputs, signed-inputs}
use Rattle.cds_book.proofs.tables.Tables.signed_now.Goals as goal

-- a sequence that is there has inputs
pub unreachable-requires : goal.unreachable-requires
unreachable-requires c = no_inputs c.args.self.now.state c.args.sequence c.requires.there (sym c.in_default.is ∙ c.in_ok-inputs.ensures)

pub returns : goal.returns
returns c =
    rw (c.in_ok-name.ensures, c.in_ok-meaning.ensures, c.from_vec-text.ensures ∙ c.in_ok-from_slice.ensures.items ∙ c.as_slice.ensures)
    (signed-inputs c.args.self.now.state c.args.sequence (signature c.args.number c.args.basis c.args.moment c.args.name.now c.args.meaning.now c.args.text.now) c.in-Some.inputs (sym c.in-Some.is ∙ c.in_ok-inputs.ensures))
