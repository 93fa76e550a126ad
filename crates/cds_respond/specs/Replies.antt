-- Replies that know no tables: to what is refused, to faults of a stream, and where memory or the keeper is wanting. This
-- project's own form.
use Rattle.std.specs.Prelude.{ℕ, List, codes, None}
use Rattle.cds_http.specs.declared.limits.TheConstants.{MOST_BODY_BYTES, MOST_HEAD_BYTES, MOST_FIELDS}
use Rattle.cds_http.specs.declared.next.Fault.{Fault}
use Rattle.cds_http.specs.declared.next.Fault.TheVariants as because
use Rattle.cds_wire.specs.Reply.{reply_text}
use Rattle.cds_wire.specs.declared.answer.Answer.{Answer}
use Rattle.cds_wire.specs.declared.answer.Answer.TheVariants as answer
use Rattle.cds_wire.specs.declared.answer.Shown.{Shown}
use Rattle.cds_wire.specs.declared.answer.Shown.TheVariants.{Number}
use Rattle.cds_respond.specs.declared.reply.Content.TheVariants as content
use Rattle.cds_respond.specs.declared.reply.Reply.{Reply}

-- the reply with an answer as its body
abbrev pub answered : ℕ → Answer → Reply
answered status a = record { status = status; content = content.Json; allow = None; body = reply_text a }

-- the reply to what is refused: the word and the number of the refusal, and the value that it shows
abbrev pub refusal_reply : ℕ → List ℕ → ℕ → Shown → Reply
refusal_reply status error number value = answered status (answer.Refusal error number value)

-- memory is wanting
abbrev pub memory_reply : Reply
memory_reply = refusal_reply 507 (codes "memory") 0 (Number 0)

-- the store failed
abbrev pub keeper_reply : Reply
keeper_reply = refusal_reply 503 (codes "keeper") 0 (Number 0)

-- the reply to a fault of the stream; a place is the number of bytes before the message
abbrev pub fault_reply : Fault → Reply
fault_reply (because.Head place) = refusal_reply 400 (codes "head") 0 (Number place)
fault_reply (because.Truncated place) = refusal_reply 400 (codes "truncated") 0 (Number place)
fault_reply (because.LengthRequired place) = refusal_reply 411 (codes "length") 0 (Number place)
fault_reply because.BodyTooLarge = refusal_reply 413 (codes "body") 0 (Number MOST_BODY_BYTES)
fault_reply because.HeadTooLarge = refusal_reply 431 (codes "size") 0 (Number MOST_HEAD_BYTES)
fault_reply because.TooManyFields = refusal_reply 431 (codes "fields") 0 (Number MOST_FIELDS)
