use Rattle.std.proofs.Common.{◌++◌, [], codes}
use Rattle.cds_respond.specs.Response.{refusal_body}
use Rattle.cds_respond.proofs.RefusalTexts.{body_parts}
use Rattle.cds_respond.proofs.SendingLaws.{text_ok, text_err}
use Rattle.cds_respond.proofs.fixed.send_body.Goals as goal

pub returns-clause-whole : goal.returns-clause-whole
returns-clause-whole g c =
    text_ok _ _ _ _ _ c.send_parts.ensures.whole
    (rw c.as_bytes.ensures.value (body_parts (codes "{\"error\":\"") c.args.error.now (codes "\",\"number\":0,\"value\":") c.args.digits.now (codes "}")))

pub returns-clause-prefix : goal.returns-clause-prefix
returns-clause-prefix g c =
    text_err c.send_parts.result (g.W.Sink.told c.args.sink.now).written (g.W.Sink.told c.send_parts.new.sink).written
    (codes "{\"error\":\"" ++ (c.as_bytes.result.now ++ (codes "\",\"number\":0,\"value\":" ++ (c.args.digits.now ++ (codes "}" ++ [])))))
    (refusal_body c.args.error.now c.args.digits.now)
    c.send_parts.ensures.prefix
    (rw c.as_bytes.ensures.value (body_parts (codes "{\"error\":\"") c.args.error.now (codes "\",\"number\":0,\"value\":") c.args.digits.now (codes "}")))
