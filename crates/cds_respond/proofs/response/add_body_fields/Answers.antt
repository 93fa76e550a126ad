use Rattle.std.proofs.Common.{◌∙◌}
use Rattle.cds_respond.proofs.RefusalTexts.{fields_added}
use Rattle.cds_respond.proofs.response.add_body_fields.Goals as goal

pub returns : goal.returns
returns c = fields_added _ _ _ _ _ _ _ c.in_ok-add_field-2.ensures c.in_ok-add_field.ensures c.media_type.ensures (c.as_bytes.ensures.value ∙ c.format.ensures.text)
