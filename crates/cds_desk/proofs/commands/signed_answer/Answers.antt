use Rattle.std.proofs.Common.{◌∙◌, sym, ap, subst}
use Rattle.cds_book.specs.Kept.{IsTables}
use Rattle.cds_book.specs.Tables.{TablesState, signed_of}
use Rattle.cds_desk.proofs.SignLaws.{kept_moment}
use Rattle.cds_desk.proofs.commands.signed_answer.Goals as goal

pub date_text-requires : goal.date_text-requires
date_text-requires c =
    kept_moment c.args.state.now.held.tables (subst IsTables c.tables.ensures c.rules.ensures) c.args.sequence c.args.number c.in-Some.signed.now
    (sym (c.in-Some.ensures ∙ ap (λ (t : TablesState). signed_of t c.args.sequence c.args.number) c.tables-2.ensures))
