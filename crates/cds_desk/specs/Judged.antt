-- What is judged of a request: its reply, and what it changes if it changes anything.
use Rattle.std.specs.Prelude.{Option, Some, None}
use Rattle.cds_sign.specs.declared.command.Change.{Change}
use Rattle.cds_respond.specs.declared.reply.Reply.{Reply}
use Rattle.cds_desk.specs.declared.judged.Judged.{Judged}
use Rattle.cds_desk.specs.declared.judged.Judged.TheVariants as judging

-- the reply
abbrev pub reply_of : Judged → Reply
reply_of (judging.Reply reply) = reply
reply_of (judging.Change reply change) = reply

-- the change, if there is one
abbrev pub change_of : Judged → Option Change
change_of (judging.Reply reply) = None
change_of (judging.Change reply change) = Some change
