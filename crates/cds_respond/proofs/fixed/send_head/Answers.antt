use Rattle.std.proofs.Common.{◌∙◌, ap, decimal}
use Rattle.cds_respond.proofs.RefusalTexts.{head_pieces}
use Rattle.cds_respond.proofs.SendingLaws.{text_ok, text_err}
use Rattle.cds_respond.proofs.fixed.send_head.Goals as goal

pub returns-clause-whole : goal.returns-clause-whole
returns-clause-whole g c =
    text_ok _ _ _ _ _ c.send_parts.ensures.whole
    (head_pieces c.args.status c.args.count c.args.close _ _ _ _ (c.as_bytes.ensures.value ∙ c.format.ensures.text ∙ ap decimal c.as_u16.ensures.value) c.phrase.ensures (c.as_bytes-2.ensures.value ∙ c.format-2.ensures.text) c.close_field.ensures)

pub returns-clause-prefix : goal.returns-clause-prefix
returns-clause-prefix g c =
    text_err _ _ _ _ _ c.send_parts.ensures.prefix
    (head_pieces c.args.status c.args.count c.args.close _ _ _ _ (c.as_bytes.ensures.value ∙ c.format.ensures.text ∙ ap decimal c.as_u16.ensures.value) c.phrase.ensures (c.as_bytes-2.ensures.value ∙ c.format-2.ensures.text) c.close_field.ensures)
