-- What is replied to a request that is refused. This project's own form.
use Rattle.std.specs.Prelude.{ℕ, Bool, true, false, List, [], codes, Option, Some, None, unwrap_or}
use Rattle.cds_trace.specs.Refusal.{number_of_refusal as number_of_trace_refusal, record_of_refusal}
use Rattle.cds_trace.specs.declared.error.TraceError.{TraceError}
use Rattle.cds_rules.specs.Refusal.{number_of_refusal as number_of_method_refusal, field_of_refusal}
use Rattle.cds_rules.specs.declared.error.MethodError.{MethodError}
use Rattle.cds_book.specs.Refusal.{number_of_refusal}
use Rattle.cds_sign.specs.declared.command.Command.{Command}
use Rattle.cds_sign.specs.declared.command.Command.TheVariants as command
use Rattle.cds_book.specs.declared.error.PlanError.{PlanError}
use Rattle.cds_book.specs.declared.error.PlanError.TheVariants as refused
use Rattle.cds_respond.specs.Replies.{refusal_reply}
use Rattle.cds_respond.specs.declared.reply.Reply.{Reply}
use Rattle.cds_wire.specs.declared.error.BodyError.{BodyError}
use Rattle.cds_wire.specs.declared.error.BodyError.TheVariants as body_error
use Rattle.cds_wire.specs.declared.answer.Shown.{Shown}
use Rattle.cds_wire.specs.declared.answer.Shown.TheVariants.{Number, Word}

-- ---- the route and the method

-- no pattern fits the path
abbrev pub no_route : Reply
no_route = refusal_reply 404 (codes "route") 0 (Word [])

-- another method than the one of the path
abbrev pub other_method : List ℕ → Reply
other_method method = record (refusal_reply 405 (codes "method") 0 (Word method)) { allow = Some method }

-- ---- the body

-- the trace is refused: the number of the refusal, and the record at fault, 0 where there is none
abbrev pub csv_reply : TraceError → Reply
csv_reply error =
    refusal_reply 400 (codes "csv") (unwrap_or (number_of_trace_refusal error) 0)
    (Number (unwrap_or (record_of_refusal error) 0))

-- the text states no method: the number of the refusal, and the field or the name at fault
abbrev pub toml_reply : MethodError → Reply
toml_reply error =
    refusal_reply 400 (codes "toml") (unwrap_or (number_of_method_refusal error) 0) (Word (field_of_refusal error))

-- the field of a body that is refused, if it is a field that is
abbrev pub refused_field : BodyError → Option (List ℕ)
refused_field (body_error.Field path) = Some path
refused_field _ = None

-- the body states nothing: a field of it is refused, or it is no JSON
abbrev pub body_reply : Option (List ℕ) → Reply
body_reply (Some path) = refusal_reply 400 (codes "field") 0 (Word path)
body_reply None = refusal_reply 400 (codes "json") 0 (Word [])

-- ---- what isn't there

-- what a path names isn't there
abbrev pub absent_reply : ℕ → Shown → Reply
absent_reply number value = refusal_reply 404 (codes "absent") number value

-- A version isn't there: the version is shown where the name has versions or a draft, and else the name, with this
-- number of refusal.
abbrev pub absent_version : ℕ → List ℕ → ℕ → Option ℕ → Reply
absent_version number name version (Some count) = absent_reply 3 (Number version)
absent_version number name version None = absent_reply number (Word name)

-- a sequence isn't there
abbrev pub absent_sequence : List ℕ → Reply
absent_sequence name = absent_reply 4 (Word name)

-- A row isn't there: its number is shown where the sequence is there, and else the name of the sequence.
abbrev pub absent_row : List ℕ → ℕ → Bool → Reply
absent_row name n true = absent_reply 5 (Number n)
absent_row name n false = absent_sequence name

-- A signature isn't there: its number is shown where the sequence is there, and else the name of the sequence.
abbrev pub absent_signature : List ℕ → ℕ → Bool → Reply
absent_signature name number true = absent_reply 6 (Number number)
absent_signature name number false = absent_sequence name

-- ---- what the tables refuse

-- how it is told that something isn't there which the path names
abbrev pub in_path : ℕ × List ℕ
in_path = (404, codes "absent")

-- how it is told that the body names something that isn't there, or breaks a rule of the tables
abbrev pub in_body : ℕ × List ℕ
in_body = (422, codes "rule")

-- how it is told that there is no such method: a freeze names it in the path, and a sequence that is put in the body
abbrev pub missing_method : Command → ℕ × List ℕ
missing_method (command.Freeze name version) = in_path
missing_method _ = in_body

-- how it is told that there is no such sequence: a sequence that is put names those that it lists in the body, and any
-- other command its sequence in the path
abbrev pub missing_sequence : Command → ℕ × List ℕ
missing_sequence (command.Sequence name edition method version standards rows) = in_body
missing_sequence _ = in_path

-- the status and the word of a refusal of a command
abbrev pub told_as : Command → PlanError → ℕ × List ℕ
told_as asked (refused.NoTrace name) = in_body
told_as asked (refused.NoMethod name) = missing_method asked
told_as asked (refused.NoVersion name) = in_body
told_as asked (refused.NoSequence name) = missing_sequence asked
told_as asked (refused.NoRow row) = in_path
told_as asked (refused.NoRecord number) = in_path
told_as asked (refused.Edition kept) = (409, codes "conflict")
told_as asked (refused.Basis kept) = (409, codes "conflict")
told_as asked (refused.Number next) = (409, codes "conflict")
told_as asked (refused.Full limit) = (422, codes "full")
told_as asked (refused.TwoLabels label) = in_body
told_as asked (refused.BadAmount row) = in_body
told_as asked refused.NoMemory = in_body

-- what a refusal shows: the name that isn't there or stands twice, the number that isn't there, the kept edition or
-- basis, the next number, the limit, or the row
abbrev pub value_told : PlanError → Shown
value_told (refused.NoTrace name) = Word name
value_told (refused.NoMethod name) = Word name
value_told (refused.NoVersion name) = Word name
value_told (refused.NoSequence name) = Word name
value_told (refused.NoRow row) = Number row
value_told (refused.NoRecord number) = Number number
value_told (refused.Edition kept) = Number kept
value_told (refused.Basis kept) = Number kept
value_told (refused.Number next) = Number next
value_told (refused.Full limit) = Number limit
value_told (refused.TwoLabels label) = Word label
value_told (refused.BadAmount row) = Number row
value_told refused.NoMemory = Word []

-- the reply to a command that the tables refuse
abbrev pub plan_reply : Command → PlanError → Reply
plan_reply asked error =
    refusal_reply (told_as asked error).0 (told_as asked error).1 (unwrap_or (number_of_refusal error) 0)
    (value_told error)
