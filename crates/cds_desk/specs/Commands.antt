-- What a command comes to: nothing, a change, or a refusal; and what is replied to each.
use Rattle.std.specs.Prelude.{ℕ, ◌<◌, ⊤, Bool, true, false, List, [], length, Option, Some, None, Result, Ok, Err}
use Rattle.std.specs.Prelude.{unwrap_or}
use Rattle.cds_book.specs.Tables.{trace_versions_of, draft_of, method_versions_of, sequence_of, signed_of}
use Rattle.cds_book.specs.Plan.{planned, command_of, Accepts}
use Rattle.cds_sign.specs.Ranges.{IsChange}
use Rattle.cds_sign.specs.declared.command.Command.{Command}
use Rattle.cds_sign.specs.declared.command.Command.TheVariants as command
use Rattle.cds_sign.specs.declared.command.Change.{Change}
use Rattle.cds_book.specs.declared.command.Plan.{Plan}
use Rattle.cds_book.specs.declared.command.Plan.TheVariants as plan
use Rattle.cds_book.specs.declared.error.PlanError.{PlanError}
use Rattle.cds_respond.specs.Replies.{answered}
use Rattle.cds_respond.specs.declared.reply.Reply.{Reply}
use Rattle.cds_wire.specs.declared.answer.Answer.{Answer}
use Rattle.cds_wire.specs.declared.answer.Answer.TheVariants as answer
use Rattle.cds_sign.specs.declared.sequence.Sequence.{Sequence}
use Rattle.cds_sign.specs.declared.signed.Signed.{Signed}
use Rattle.cds_report.specs.Dates.{date_of}
use Rattle.cds_desk.specs.State.{State, with_change}
use Rattle.cds_desk.specs.Refusals.{plan_reply}
use Rattle.cds_desk.specs.declared.signing.TheConstants.{SIGNED_LIMIT}
use Rattle.cds_desk.specs.declared.judged.Judged.{Judged}
use Rattle.cds_desk.specs.declared.judged.Judged.TheVariants as judging

-- a command whose record can be kept: the text of a signature is below its limit
abbrev pub IsBrief : Command → Type 0
IsBrief (command.Trace name signal) = ⊤
IsBrief (command.Draft name text) = ⊤
IsBrief (command.Freeze name version) = ⊤
IsBrief (command.Sequence name edition method version standards rows) = ⊤
IsBrief (command.Events name edition row events) = ⊤
IsBrief (command.Rebind name edition version) = ⊤
IsBrief (command.Sign sequence number basis moment name meaning text) = length text < SIGNED_LIMIT

-- a change that is planned in this state, whose parts are in their ranges, and whose record can be kept
pub record IsPlanned (state : State) (change : Change) : Type 0 where
  pub accepts : Accepts state.tables change
  pub content : IsChange change
  pub brief : IsBrief (command_of change)

-- what is answered of a sequence: its basis and its edition; there is none where the command named none
abbrev pub sequence_answer : Bool → Option Sequence → Answer
sequence_answer unchanged (Some s) = answer.Sequence s.basis s.edition unchanged
sequence_answer unchanged None = answer.Sequence 0 0 unchanged

-- what is answered of a signature: its basis, its number and the date of its moment
abbrev pub signature_answer : Bool → Option Signed → Answer
signature_answer unchanged (Some s) = answer.Sign s.basis s.number (date_of s.moment) unchanged
signature_answer unchanged None = answer.Sign 0 0 [] unchanged

-- what is answered to an accepted command, from the state after it and whether nothing changed
abbrev pub answer_of : Command → Bool → State → Answer
answer_of (command.Trace name signal) unchanged after =
    answer.Trace (length signal.samples) unchanged (unwrap_or (trace_versions_of after.tables name) 0)
answer_of (command.Draft name text) unchanged after = answer.Draft unchanged
answer_of (command.Freeze name version) unchanged after =
    answer.Freeze unchanged (unwrap_or (method_versions_of after.tables name) 0)
answer_of (command.Sequence name edition method version standards rows) unchanged after =
    sequence_answer unchanged (sequence_of after.tables name)
answer_of (command.Events name edition row events) unchanged after =
    sequence_answer unchanged (sequence_of after.tables name)
answer_of (command.Rebind name edition version) unchanged after =
    sequence_answer unchanged (sequence_of after.tables name)
answer_of (command.Sign sequence number basis moment name meaning text) unchanged after =
    signature_answer unchanged (signed_of after.tables sequence number)

-- a first draft is made, and a later one only replaced
abbrev pub draft_status : Option (List ℕ) → ℕ
draft_status None = 201
draft_status (Some draft) = 200

-- a first edition of a sequence is made, and a later one only changed
abbrev pub sequence_status : Option Sequence → ℕ
sequence_status None = 201
sequence_status (Some s) = 200

-- the status of a command that changes this state: a version and a signature are made
abbrev pub made_status : State → Command → ℕ
made_status before (command.Trace name signal) = 201
made_status before (command.Draft name text) = draft_status (draft_of before.tables name)
made_status before (command.Freeze name version) = 201
made_status before (command.Sequence name edition method version standards rows) =
    sequence_status (sequence_of before.tables name)
made_status before (command.Events name edition row events) = 200
made_status before (command.Rebind name edition version) = 200
made_status before (command.Sign sequence number basis moment name meaning text) = 201

-- the reply to a command that changes nothing in this state
abbrev pub unchanged_reply : State → Command → Reply
unchanged_reply state asked = answered 200 (answer_of asked true state)

-- the reply to a command that was accepted as this change of the state
abbrev pub changed_reply : State → Change → Reply
changed_reply before change =
    answered (made_status before (command_of change)) (answer_of (command_of change) false (with_change before change))

-- what a command comes to by what is planned of it
abbrev pub decided : State → Command → Result Plan PlanError → Judged
decided state asked (Ok plan.Unchanged) = judging.Reply (unchanged_reply state asked)
decided state asked (Ok (plan.Change change)) = judging.Change (changed_reply state change) change
decided state asked (Err error) = judging.Reply (plan_reply asked error)

-- what a command comes to
abbrev pub commanded : State → Command → Judged
commanded state asked = decided state asked (planned state.tables asked)
