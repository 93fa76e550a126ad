use Rattle.std.proofs.Common.{sym, ap}
use Rattle.cds_respond.specs.Response.{all_parts}
use Rattle.cds_respond.proofs.SendingLaws.{behind_err, text_err}
use Rattle.cds_respond.proofs.sending.+send_parts.Goals as goal

pub returns-clause-prefix : goal.returns-clause-prefix
returns-clause-prefix g n c =
    text_err c.send_parts.result _ _ _ _ (behind_err _ _ _ _ _ _ c.in_ok-send.ensures.whole c.send_parts.ensures.prefix) (sym (ap all_parts c.in-Some.ensures.cases.0))
