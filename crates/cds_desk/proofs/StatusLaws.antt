-- A step answers neither 503 nor 507.
use Rattle.std.proofs.Common.{◌≡◌, ◌<◌, ℕ, Bool, true, false, List, Option, Some, None, Result, Ok, Err, refl, arith}
use Rattle.std.specs.Prelude.{◌≢◌, bytes_eq, is_some, option_map}
use Rattle.std.specs.Option.{option_and_then}
use Rattle.cds_rules.specs.Fields.{Fields}
use Rattle.cds_rules.specs.Stated.{stated}
use Rattle.cds_rules.specs.declared.error.MethodError.{MethodError}
use Rattle.cds_trace.specs.Signal.{Signal}
use Rattle.cds_trace.specs.TraceText.{csv_trace}
use Rattle.cds_trace.specs.WrittenText.{csv_text}
use Rattle.cds_trace.specs.declared.error.TraceError.{TraceError}
use Rattle.cds_book.specs.Plan.{planned, command_of}
use Rattle.cds_book.specs.Tables.{trace_of, trace_versions_of, draft_of, method_of, method_versions_of, sequence_of, signed_of}
use Rattle.cds_sign.specs.declared.sequence.Sequence.{Sequence}
use Rattle.cds_sign.specs.declared.signed.Signed.{Signed}
use Rattle.cds_sign.specs.declared.command.Command.{Command}
use Rattle.cds_sign.specs.declared.command.Command.TheVariants as command
use Rattle.cds_book.specs.declared.command.Plan.{Plan}
use Rattle.cds_book.specs.declared.command.Plan.TheVariants as plan
use Rattle.cds_book.specs.declared.error.PlanError.{PlanError}
use Rattle.cds_book.specs.declared.error.PlanError.TheVariants as refused
use Rattle.cds_http.specs.Items.{Message}
use Rattle.cds_wire.specs.Stated.{body as stated_in, freeze_of}
use Rattle.cds_wire.specs.Stated.{sequence_of as stated_sequence, put_events_of, reprocess_of, sign_of}
use Rattle.cds_wire.specs.declared.sign.SignBody.{SignBody}
use Rattle.cds_wire.specs.declared.error.BodyError.{BodyError}
use Rattle.cds_report.specs.Reported.{reported_of}
use Rattle.cds_report.specs.RowText.{row_text}
use Rattle.cds_report.specs.SequenceText.{sequence_text}
use Rattle.cds_report.specs.SuitabilityText.{suitability_text}
use Rattle.cds_respond.specs.declared.reply.Content.{Content}
use Rattle.cds_respond.specs.declared.reply.Content.TheVariants as content
use Rattle.cds_desk.specs.State.{State}
use Rattle.cds_desk.specs.Routes.{target_of, method_of as method_on}
use Rattle.cds_desk.specs.Judged.{reply_of}
use Rattle.cds_desk.specs.Refusals.{refused_field, body_reply, absent_sequence, absent_row, absent_signature, missing_method, missing_sequence, told_as}
use Rattle.cds_desk.specs.Commands.{draft_status, sequence_status, made_status, decided, commanded}
use Rattle.cds_desk.specs.Step.{step, at_moment, wanted_on, wanted_method, wanted_route, signature_wanted, signature_at, trace_put, draft_put, draft_frozen, asked_in, text_shown, signature_shown, version_shown}
use Rattle.cds_respond.specs.declared.reply.Reply.{Reply}
use Rattle.cds_desk.specs.declared.judged.Judged.{Judged}
use Rattle.cds_desk.specs.declared.target.Target.{Target}
use Rattle.cds_desk.specs.declared.routes.Route.{Route}
use Rattle.cds_desk.specs.declared.routes.Route.TheVariants as route

-- the status lies below both
abbrev Plain : ℕ → Type 0
Plain status = status < 503

-- the status of what is judged lies below both
abbrev IsPlain : Judged → Type 0
IsPlain j = Plain (reply_of j).status

made-plain : (state : State) (asked : Command) → Plain (made_status state asked)
made-plain state (command.Trace name signal) = omega arith
made-plain state (command.Freeze name version) = omega arith
made-plain state (command.Events name edition row events) = omega arith
made-plain state (command.Rebind name edition version) = omega arith
made-plain state (command.Sign sequence number basis moment name meaning text) = omega arith
made-plain state (command.Sequence name edition method version standards rows) = on (sequence_of state.tables name)
  where
    on : (s : Option Sequence) → Plain (sequence_status s)
    on None = omega arith
    on (Some s) = omega arith
made-plain state (command.Draft name text) = on (draft_of state.tables name)
  where
    on : (draft : Option (List ℕ)) → Plain (draft_status draft)
    on None = omega arith
    on (Some draft) = omega arith

missing-plain : (asked : Command) → Plain (missing_method asked).0
missing-plain (command.Trace name signal) = omega arith
missing-plain (command.Draft name text) = omega arith
missing-plain (command.Freeze name version) = omega arith
missing-plain (command.Sequence name edition method version standards rows) = omega arith
missing-plain (command.Events name edition row events) = omega arith
missing-plain (command.Rebind name edition version) = omega arith
missing-plain (command.Sign sequence number basis moment name meaning text) = omega arith

unlisted-plain : (asked : Command) → Plain (missing_sequence asked).0
unlisted-plain (command.Trace name signal) = omega arith
unlisted-plain (command.Draft name text) = omega arith
unlisted-plain (command.Freeze name version) = omega arith
unlisted-plain (command.Sequence name edition method version standards rows) = omega arith
unlisted-plain (command.Events name edition row events) = omega arith
unlisted-plain (command.Rebind name edition version) = omega arith
unlisted-plain (command.Sign sequence number basis moment name meaning text) = omega arith

told-plain : (asked : Command) (error : PlanError) → Plain (told_as asked error).0
told-plain asked (refused.NoTrace name) = omega arith
told-plain asked (refused.NoMethod name) = missing-plain asked
told-plain asked (refused.NoVersion name) = omega arith
told-plain asked (refused.NoSequence name) = unlisted-plain asked
told-plain asked (refused.NoRow row) = omega arith
told-plain asked (refused.NoRecord number) = omega arith
told-plain asked (refused.Edition kept) = omega arith
told-plain asked (refused.Basis kept) = omega arith
told-plain asked (refused.TwoLabels label) = omega arith
told-plain asked (refused.BadAmount row) = omega arith
told-plain asked (refused.Number next) = omega arith
told-plain asked (refused.Full limit) = omega arith
told-plain asked refused.NoMemory = omega arith

decided-plain : (state : State) (asked : Command) (p : Result Plan PlanError) → IsPlain (decided state asked p)
decided-plain state asked (Ok plan.Unchanged) = omega arith
decided-plain state asked (Ok (plan.Change c)) = made-plain state (command_of c)
decided-plain state asked (Err error) = told-plain asked error

command-plain : (state : State) (asked : Command) → IsPlain (commanded state asked)
command-plain state asked = decided-plain state asked (planned state.tables asked)

shown-plain : (number : ℕ) (name : List ℕ) (version : ℕ) (count : Option ℕ) (media : Content) (text : Option (List ℕ)) → Plain (version_shown number name version count media text).status
shown-plain number name version count media (Some text) = omega arith
shown-plain number name version (Some count) media None = omega arith
shown-plain number name version None media None = omega arith

body-plain : (field : Option (List ℕ)) → Plain (body_reply field).status
body-plain None = omega arith
body-plain (Some path) = omega arith

trace-plain : (state : State) (name : List ℕ) (r : Result Signal TraceError) → IsPlain (trace_put state name r)
trace-plain state name (Ok signal) = command-plain state (command.Trace name signal)
trace-plain state name (Err error) = omega arith

draft-plain : (state : State) (name text : List ℕ) (r : Result Fields MethodError) → IsPlain (draft_put state name text r)
draft-plain state name text (Ok method) = command-plain state (command.Draft name text)
draft-plain state name text (Err error) = omega arith

freeze-plain : (state : State) (name : List ℕ) (r : Result ℕ BodyError) → IsPlain (draft_frozen state name r)
freeze-plain state name (Ok version) = command-plain state (command.Freeze name version)
freeze-plain state name (Err error) = body-plain (refused_field error)

asked-plain : (state : State) (r : Result Command BodyError) → IsPlain (asked_in state r)
asked-plain state (Ok asked) = command-plain state asked
asked-plain state (Err error) = body-plain (refused_field error)

absent-plain : (name : List ℕ) (number : ℕ) (has_sequence : Bool) → Plain (absent_signature name number has_sequence).status
absent-plain name number true = omega arith
absent-plain name number false = omega arith

signature-plain : (name : List ℕ) (number : ℕ) (sequence : Option Sequence) (signed : Option Signed)
    → Plain (signature_shown name number sequence signed).status
signature-plain name number sequence (Some signed) = omega arith
signature-plain name number sequence None = absent-plain name number (is_some sequence)

row-absent : (name : List ℕ) (n : ℕ) (has_sequence : Bool) → Plain (absent_row name n has_sequence).status
row-absent name n true = omega arith
row-absent name n false = omega arith

text-plain : (absent : Reply) (text : Option (List ℕ)) → Plain absent.status → Plain (text_shown absent text).status
text-plain absent (Some text) is = omega arith
text-plain absent None is = is

signature-plain-at : (state : State) (moment : ℕ) (name : List ℕ) (r : Result SignBody BodyError) →
    IsPlain (at_moment state moment (signature_wanted name r))
signature-plain-at state moment name (Ok asked) = command-plain state (signature_at state name asked moment)
signature-plain-at state moment name (Err error) = body-plain (refused_field error)

target-plain : (state : State) (moment : ℕ) (r : Route) (name : List ℕ) (number : ℕ) (body : List ℕ) → IsPlain (at_moment state moment (wanted_on state r name number body))
unfolding wanted_on
target-plain state moment route.PutTrace name number body = trace-plain state name (csv_trace body)
target-plain state moment route.GetTrace name version body = shown-plain 1 name version (trace_versions_of state.tables name) content.Csv (option_map csv_text (trace_of state.tables name version))
target-plain state moment route.PutDraft name number body = draft-plain state name body (stated body)
target-plain state moment route.PostVersion name number body = freeze-plain state name (stated_in freeze_of body)
target-plain state moment route.GetMethod name version body = shown-plain 2 name version (method_versions_of state.tables name) content.Toml (method_of state.tables name version)
target-plain state moment route.PutSequence name number body = asked-plain state (stated_in (stated_sequence name) body)
target-plain state moment route.PutEvents name row body = asked-plain state (stated_in (put_events_of name row) body)
target-plain state moment route.PostReprocess name number body = asked-plain state (stated_in (reprocess_of name) body)
target-plain state moment route.PostSignature name number body = signature-plain-at state moment name (stated_in sign_of body)
target-plain state moment route.GetResults name number body =
    text-plain (absent_sequence name) (option_map sequence_text (reported_of state.tables name)) (omega arith)
target-plain state moment route.GetRow name n body =
    let there = is_some (sequence_of state.tables name) in
    text-plain (absent_row name n there) (option_and_then (row_text n) (reported_of state.tables name))
    (row-absent name n there)
target-plain state moment route.GetSuitability name number body =
    text-plain (absent_sequence name) (option_map suitability_text (reported_of state.tables name)) (omega arith)
target-plain state moment route.GetSignature name number body =
    signature-plain name number (sequence_of state.tables name) (signed_of state.tables name number)

method-plain : (state : State) (moment : ℕ) (t : Target) (method body : List ℕ) (same : Bool) →
    bytes_eq method (method_on t.route) ≡ same → IsPlain (at_moment state moment (wanted_method state t method body))
method-plain state moment t method body true is = rw is (target-plain state moment t.route t.name t.number body)
method-plain state moment t method body false is = rw is omega arith

judged-plain : (state : State) (moment : ℕ) (t : Option Target) (method body : List ℕ) →
    IsPlain (at_moment state moment (wanted_route state t method body))
judged-plain state moment None method body = omega arith
judged-plain state moment (Some t) method body =
    method-plain state moment t method body (bytes_eq method (method_on t.route)) refl

-- a step answers neither
pub step_status : (state : State) (m : Message) (moment : ℕ) → ((step state m moment).reply.status ≢ 503) × ((step state m moment).reply.status ≢ 507)
step_status state m moment =
    let low = judged-plain state moment (target_of m.target) m.method m.body in
    (λ e. omega (arith, e, low), λ e. omega (arith, e, low))
