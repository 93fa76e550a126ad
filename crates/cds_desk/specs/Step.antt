-- What the machine answers to a request, and what it changes: a function of what it holds, of the request and of the
-- moment.
use Rattle.std.specs.Prelude.{ℕ, List, [], ◌∷◌, bytes_eq, Option, Some, None, Result, Ok, Err, option_map, is_some}
use Rattle.std.specs.Prelude.{unwrap_or, if◌then◌else◌}
use Rattle.std.specs.Option.{option_and_then}
use Rattle.cds_trace.specs.Signal.{Signal}
use Rattle.cds_trace.specs.TraceText.{csv_trace}
use Rattle.cds_trace.specs.WrittenText.{csv_text}
use Rattle.cds_trace.specs.declared.error.TraceError.{TraceError}
use Rattle.cds_rules.specs.Fields.{Fields}
use Rattle.cds_rules.specs.Stated.{stated}
use Rattle.cds_rules.specs.declared.error.MethodError.{MethodError}
use Rattle.cds_book.specs.Tables.{trace_of, trace_versions_of, method_of, method_versions_of, sequence_of, signed_of}
use Rattle.cds_sign.specs.declared.command.Command.{Command}
use Rattle.cds_sign.specs.declared.command.Command.TheVariants as command
use Rattle.cds_sign.specs.declared.sequence.Sequence.{Sequence}
use Rattle.cds_sign.specs.declared.signed.Signed.{Signed}
use Rattle.cds_sign.specs.declared.command.Change.{Change}
use Rattle.cds_codec.specs.Record.{record_of}
use Rattle.cds_http.specs.Items.{Message}
use Rattle.cds_respond.specs.declared.reply.Content.{Content}
use Rattle.cds_respond.specs.declared.reply.Content.TheVariants as content
use Rattle.cds_respond.specs.declared.reply.Reply.{Reply}
use Rattle.cds_wire.specs.Stated.{body as stated_in, freeze_of}
use Rattle.cds_wire.specs.Stated.{sequence_of as stated_sequence, put_events_of, reprocess_of, sign_of}
use Rattle.cds_wire.specs.declared.sign.SignBody.{SignBody}
use Rattle.cds_wire.specs.declared.error.BodyError.{BodyError}
use Rattle.cds_desk.specs.State.{State, after_change}
use Rattle.cds_desk.specs.Routes.{target_of, method_of as method_on}
use Rattle.cds_desk.specs.Judged.{reply_of, change_of}
use Rattle.cds_desk.specs.Refusals.{no_route, other_method, csv_reply, toml_reply, refused_field, body_reply}
use Rattle.cds_desk.specs.Refusals.{absent_version, absent_sequence, absent_row, absent_signature}
use Rattle.cds_report.specs.Reported.{reported_of}
use Rattle.cds_report.specs.RowText.{row_text}
use Rattle.cds_report.specs.SequenceText.{sequence_text}
use Rattle.cds_report.specs.SignedText.{Signature, signed_text}
use Rattle.cds_report.specs.SuitabilityText.{suitability_text}
use Rattle.cds_desk.specs.Commands.{commanded}
use Rattle.cds_desk.specs.declared.judged.Judged.{Judged}
use Rattle.cds_desk.specs.declared.judged.Judged.TheVariants as judging
use Rattle.cds_desk.specs.declared.judged.Wanted.{Wanted}
use Rattle.cds_desk.specs.declared.judged.Wanted.TheVariants as wanting
use Rattle.cds_desk.specs.declared.routes.Route.{Route}
use Rattle.cds_desk.specs.declared.routes.Route.TheVariants as route
use Rattle.cds_desk.specs.declared.target.Target.{Target}

-- ---- what the routes come to

-- the reply with a plain text
abbrev pub plain_reply : List ℕ → Reply
plain_reply text = record { status = 200; content = content.Plain; allow = None; body = text }

-- the reply with a text, where it is there, and else this refusal
abbrev pub text_shown : Reply → Option (List ℕ) → Reply
text_shown absent (Some text) = plain_reply text
text_shown absent None = absent

-- the reply with the text of a version, where it is there
abbrev pub version_shown : ℕ → List ℕ → ℕ → Option ℕ → Content → Option (List ℕ) → Reply
version_shown number name version count media (Some text) =
    record { status = 200; content = media; allow = None; body = text }
version_shown number name version count media None = absent_version number name version count

-- a trace that is stated is put
abbrev pub trace_put : State → List ℕ → Result Signal TraceError → Judged
trace_put state name (Ok signal) = commanded state (command.Trace name signal)
trace_put state name (Err error) = judging.Reply (csv_reply error)

-- a text that states a method is put as the draft, as it was sent
abbrev pub draft_put : State → List ℕ → List ℕ → Result Fields MethodError → Judged
draft_put state name text (Ok method) = commanded state (command.Draft name text)
draft_put state name text (Err error) = judging.Reply (toml_reply error)

-- the command that a body states, or the refusal of the body
abbrev pub asked_in : State → Result Command BodyError → Judged
asked_in state (Ok asked) = commanded state asked
asked_in state (Err error) = judging.Reply (body_reply (refused_field error))

-- the reply with the text of a signature, where it is there
abbrev pub signature_shown : List ℕ → ℕ → Option Sequence → Option Signed → Reply
signature_shown name number sequence (Some signed) =
    record { status = 200; content = content.Plain; allow = None; body = signed.text }
signature_shown name number sequence None = absent_signature name number (is_some sequence)

-- the draft is frozen as the version that the body names
abbrev pub draft_frozen : State → List ℕ → Result ℕ BodyError → Judged
draft_frozen state name (Ok version) = commanded state (command.Freeze name version)
draft_frozen state name (Err error) = judging.Reply (body_reply (refused_field error))

-- ---- what a request wants

-- the signature that a body states of the sequence of a name, or the refusal of the body
abbrev pub signature_wanted : List ℕ → Result SignBody BodyError → Wanted
signature_wanted name (Ok asked) = wanting.Signature name asked
signature_wanted name (Err error) = wanting.Judged (judging.Reply (body_reply (refused_field error)))

-- what a signature that is asked for says, made at a moment
abbrev pub signing : SignBody → ℕ → Signature
signing asked moment = record {
  number = asked.number;
  name = asked.name;
  meaning = asked.meaning;
  moment = moment;
}

-- the text of a signature that is asked for, made at a moment; nothing where there is no such sequence
abbrev pub signed_at : State → List ℕ → SignBody → ℕ → List ℕ
signed_at state sequence asked moment =
    unwrap_or (option_map (signed_text (signing asked moment)) (reported_of state.tables sequence)) []

-- the command of a signature that is asked for, made at a moment
abbrev pub signature_at : State → List ℕ → SignBody → ℕ → Command
signature_at state sequence asked moment =
    command.Sign sequence asked.number asked.basis moment asked.name asked.meaning
    (signed_at state sequence asked moment)

-- what a request on this route wants, with the name and the number of its path
unfoldable pub wanted_on : State → Route → List ℕ → ℕ → List ℕ → Wanted
wanted_on state route.PutTrace name number body = wanting.Judged (trace_put state name (csv_trace body))
wanted_on state route.GetTrace name version body =
    wanting.Judged (judging.Reply (version_shown 1 name version (trace_versions_of state.tables name) content.Csv
    (option_map csv_text (trace_of state.tables name version))))
wanted_on state route.PutDraft name number body = wanting.Judged (draft_put state name body (stated body))
wanted_on state route.PostVersion name number body =
    wanting.Judged (draft_frozen state name (stated_in freeze_of body))
wanted_on state route.GetMethod name version body =
    wanting.Judged (judging.Reply (version_shown 2 name version (method_versions_of state.tables name) content.Toml
    (method_of state.tables name version)))
wanted_on state route.PutSequence name number body =
    wanting.Judged (asked_in state (stated_in (stated_sequence name) body))
wanted_on state route.PutEvents name row body =
    wanting.Judged (asked_in state (stated_in (put_events_of name row) body))
wanted_on state route.PostReprocess name number body =
    wanting.Judged (asked_in state (stated_in (reprocess_of name) body))
wanted_on state route.PostSignature name number body = signature_wanted name (stated_in sign_of body)
wanted_on state route.GetResults name number body =
    wanting.Judged (judging.Reply (text_shown (absent_sequence name)
    (option_map sequence_text (reported_of state.tables name))))
wanted_on state route.GetRow name n body =
    wanting.Judged (judging.Reply (text_shown (absent_row name n (is_some (sequence_of state.tables name)))
    (option_and_then (row_text n) (reported_of state.tables name))))
wanted_on state route.GetSuitability name number body =
    wanting.Judged (judging.Reply (text_shown (absent_sequence name)
    (option_map suitability_text (reported_of state.tables name))))
wanted_on state route.GetSignature name number body =
    wanting.Judged (judging.Reply (signature_shown name number (sequence_of state.tables name)
    (signed_of state.tables name number)))

-- what a request with the right method wants
abbrev pub wanted_target : State → Target → List ℕ → Wanted
wanted_target state t body = wanted_on state t.route t.name t.number body

-- the method is judged after the route
abbrev pub wanted_method : State → Target → List ℕ → List ℕ → Wanted
wanted_method state t method body =
    if bytes_eq method (method_on t.route)
    then wanted_target state t body
    else wanting.Judged (judging.Reply (other_method (method_on t.route)))

-- the route is judged first
abbrev pub wanted_route : State → Option Target → List ℕ → List ℕ → Wanted
wanted_route state (Some t) method body = wanted_method state t method body
wanted_route state None method body = wanting.Judged (judging.Reply no_route)

-- what a request wants
abbrev pub wanted : State → Message → Wanted
wanted state m = wanted_route state (target_of m.target) m.method m.body

-- ---- what is judged of a request

-- what is judged of what a request wants, at a moment: a signature is a command of its moment
abbrev pub at_moment : State → ℕ → Wanted → Judged
at_moment state moment (wanting.Judged j) = j
at_moment state moment (wanting.Signature sequence asked) = commanded state (signature_at state sequence asked moment)

-- what is judged of a request at a moment
abbrev pub judged : State → Message → ℕ → Judged
judged state m moment = at_moment state moment (wanted state m)

-- ---- the step

-- the records of a change, if there is one
abbrev pub records_of : Option Change → List (List ℕ)
records_of (Some change) = record_of change ∷ []
records_of None = []

-- a reply, and the state after it
pub record Stepped : Type 0 where
  pub reply : Reply
  pub state : State

-- one step of the machine: the reply to a request, and the state after it
abbrev pub step : State → Message → ℕ → Stepped
step state m moment = record {
  reply = reply_of (judged state m moment);
  state = after_change state (change_of (judged state m moment));
}
