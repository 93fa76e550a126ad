-- A request that changed the state, repeated at once; and a request that is refused.
use Rattle.std.proofs.Common.{◌≡◌, ℕ, ◌≤◌, Bool, true, false, List, Option, Some, None, Result, Ok, Err, refl, sym, ap, ◌∙◌, arith, subst}
use Rattle.std.specs.Prelude.{IsTrue, is_some, bytes_eq}
use Rattle.cds_rules.specs.Fields.{Fields}
use Rattle.cds_rules.specs.Stated.{stated}
use Rattle.cds_rules.specs.declared.error.MethodError.{MethodError}
use Rattle.cds_trace.specs.Signal.{Signal}
use Rattle.cds_trace.specs.TraceText.{csv_trace}
use Rattle.cds_trace.specs.declared.error.TraceError.{TraceError}
use Rattle.cds_base.specs.Answers.{◌>>=◌}
use Rattle.cds_book.proofs.AgainLaws.{kept-again}
use Rattle.cds_book.specs.Judged.{sign_judged}
use Rattle.cds_book.specs.Plan.{planned, applied, command_of, signature_planned, sign_planned}
use Rattle.cds_book.specs.declared.command.SignPlan.TheVariants as sign
use Rattle.cds_book.specs.Tables.{TablesState, draft_of, sequence_of, signed_of}
use Rattle.cds_sign.specs.declared.sequence.Sequence.{Sequence}
use Rattle.cds_sign.specs.declared.signed.Signed.{Signed}
use Rattle.cds_sign.specs.declared.command.Change.{Change}
use Rattle.cds_sign.specs.declared.command.Change.TheVariants as change
use Rattle.cds_sign.specs.declared.command.Command.{Command}
use Rattle.cds_sign.specs.declared.command.Command.TheVariants as command
use Rattle.cds_book.specs.declared.command.Plan.{Plan}
use Rattle.cds_book.specs.declared.command.Plan.TheVariants as plan
use Rattle.cds_book.specs.declared.error.PlanError.{PlanError}
use Rattle.cds_http.specs.Items.{Message}
use Rattle.cds_wire.specs.Stated.{body as stated_in, freeze_of}
use Rattle.cds_wire.specs.Stated.{sequence_of as stated_sequence, put_events_of, reprocess_of, sign_of}
use Rattle.cds_wire.specs.declared.sign.SignBody.{SignBody}
use Rattle.cds_wire.specs.declared.error.BodyError.{BodyError}
use Rattle.cds_desk.specs.State.{State, after_change}
use Rattle.cds_desk.specs.Routes.{target_of, method_of as method_on}
use Rattle.cds_desk.specs.Judged.{reply_of, change_of}
use Rattle.cds_desk.specs.Commands.{answer_of, sequence_answer, signature_answer, draft_status, sequence_status, made_status, decided, commanded}
use Rattle.cds_desk.specs.Step.{judged, at_moment, wanted_on, wanted_method, wanted_route, trace_put, draft_put}
use Rattle.cds_desk.specs.Step.{draft_frozen, asked_in, signature_wanted, signature_at, signed_at}
use Rattle.cds_desk.specs.Repeat.{IsUnchanged, says_unchanged}
use Rattle.cds_desk.specs.declared.judged.Judged.{Judged}
use Rattle.cds_desk.specs.declared.judged.Wanted.{Wanted}
use Rattle.cds_desk.specs.declared.target.Target.{Target}
use Rattle.cds_desk.specs.declared.routes.Route.{Route}
use Rattle.cds_desk.specs.declared.routes.Route.TheVariants as route

says_sequence : (s : Option Sequence) → says_unchanged (sequence_answer true s) ≡ true
says_sequence (Some s) = refl
says_sequence None = refl

says_signature : (s : Option Signed) → says_unchanged (signature_answer true s) ≡ true
says_signature (Some s) = refl
says_signature None = refl

-- the answer to a command that changes nothing says so
says_so : (asked : Command) (state : State) → says_unchanged (answer_of asked true state) ≡ true
says_so (command.Trace name signal) state = refl
says_so (command.Draft name text) state = refl
says_so (command.Freeze name version) state = refl
says_so (command.Sequence name edition method version standards rows) state = says_sequence (sequence_of state.tables name)
says_so (command.Events name edition row events) state = says_sequence (sequence_of state.tables name)
says_so (command.Rebind name edition version) state = says_sequence (sequence_of state.tables name)
says_so (command.Sign sequence number basis moment name meaning text) state = says_signature (signed_of state.tables sequence number)

-- what is judged where something changed, once more, is unchanged
abbrev Again : (State → Judged) → State → Type 0
Again judging state = IsTrue (is_some (change_of (judging state))) → IsUnchanged (judging (after_change state (change_of (judging state))))

-- and so at whatever moments
abbrev AgainAt : (State → Wanted) → State → Type 0
AgainAt wanting state = (moment again : ℕ) → IsTrue (is_some (change_of (at_moment state moment (wanting state))))
    → let after = after_change state (change_of (at_moment state moment (wanting state))) in
    IsUnchanged (at_moment after again (wanting after))

-- a change that is asked for as a signature is one
sign_is : (c : Change) (sequence : List ℕ) (number basis moment : ℕ) (name meaning text : List ℕ) →
    command_of c ≡ command.Sign sequence number basis moment name meaning text →
    c ≡ change.Sign sequence number basis moment name meaning text
sign_is (change.Trace n signal) sequence number basis moment name meaning text is = absurd (cc)
sign_is (change.Draft n t) sequence number basis moment name meaning text is = absurd (cc)
sign_is (change.Freeze n version) sequence number basis moment name meaning text is = absurd (cc)
sign_is (change.Sequence n edition method version standards rows) sequence number basis moment name meaning text is =
    absurd (cc)
sign_is (change.Events n edition row events) sequence number basis moment name meaning text is = absurd (cc)
sign_is (change.Rebind n edition version) sequence number basis moment name meaning text is = absurd (cc)
sign_is (change.Sign s n b m by means t) sequence number basis moment name meaning text is = cc

-- a signature that is kept changes nothing, whatever its moment and its text
kept_unchanged : (t : TablesState) (sequence : List ℕ) (number basis moment : ℕ) (name meaning text : List ℕ) →
    sign_judged t sequence basis number name meaning ≡ Ok (sign.Kept number) →
    planned t (command.Sign sequence number basis moment name meaning text) ≡ Ok plan.Unchanged
unfolding planned signature_planned
kept_unchanged t sequence number basis moment name meaning text kept =
    ap (λ r. r >>= sign_planned t (change.Sign sequence number basis moment name meaning text)) kept

-- a change that is planned is what was asked for, and a change that was carried out, asked for again, changes nothing
module _ (asked_for : (tables : TablesState) (asked : Command) (c : Change) → planned tables asked ≡ Ok (plan.Change c) → command_of c ≡ asked)
    (once_more : (tables : TablesState) (c : Change) → planned tables (command_of c) ≡ Ok (plan.Change c)
    → planned (applied tables c) (command_of c) ≡ Ok plan.Unchanged) where
  -- a command that is unchanged is answered so
  unchanged : (state : State) (asked : Command) → planned state.tables asked ≡ Ok plan.Unchanged → IsUnchanged (commanded state asked)
  unchanged state asked is = rw is (refl, answer_of asked true state, refl, says_so asked state)

  -- a command that changed something, once more, is unchanged
  decided_again : (state : State) (asked : Command) (p : Result Plan PlanError) → planned state.tables asked ≡ p
      → IsTrue (is_some (change_of (decided state asked p))) → IsUnchanged (commanded (after_change state (change_of (decided state asked p))) asked)
  decided_again state asked (Ok plan.Unchanged) is some = absurd (cc)
  decided_again state asked (Err e) is some = absurd (cc)
  decided_again state asked (Ok (plan.Change c)) is some =
      let asks : command_of c ≡ asked = asked_for state.tables asked c is in
      let accepted : planned state.tables (command_of c) ≡ Ok (plan.Change c) = ap (planned state.tables) asks ∙ is in
      unchanged (after_change state (Some c)) asked (ap (planned (applied state.tables c)) (sym asks) ∙ once_more state.tables c accepted)

  command_again : (state : State) (asked : Command) → Again (λ s. commanded s asked) state
  command_again state asked some = decided_again state asked (planned state.tables asked) refl some

  trace_again : (state : State) (name : List ℕ) (r : Result Signal TraceError) → Again (λ s. trace_put s name r) state
  trace_again state name (Err e) some = absurd (cc)
  trace_again state name (Ok signal) some = command_again state (command.Trace name signal) some

  draft_again : (state : State) (name text : List ℕ) (r : Result Fields MethodError) → Again (λ s. draft_put s name text r) state
  draft_again state name text (Err e) some = absurd (cc)
  draft_again state name text (Ok method) some = command_again state (command.Draft name text) some

  freeze_again : (state : State) (name : List ℕ) (r : Result ℕ BodyError) → Again (λ s. draft_frozen s name r) state
  freeze_again state name (Err e) some = absurd (cc)
  freeze_again state name (Ok version) some = command_again state (command.Freeze name version) some

  asked_again : (state : State) (r : Result Command BodyError) → Again (λ s. asked_in s r) state
  asked_again state (Err e) some = absurd (cc)
  asked_again state (Ok asked) some = command_again state asked some

  -- a signature that was made is kept at any later moment
  signed_again : (state : State) (sequence : List ℕ) (asked : SignBody) (moment again : ℕ) (p : Result Plan PlanError) →
      planned state.tables (signature_at state sequence asked moment) ≡ p →
      IsTrue (is_some (change_of (decided state (signature_at state sequence asked moment) p))) →
      let after = after_change state (change_of (decided state (signature_at state sequence asked moment) p)) in
      IsUnchanged (commanded after (signature_at after sequence asked again))
  signed_again state sequence asked moment again (Ok plan.Unchanged) is some = absurd (cc)
  signed_again state sequence asked moment again (Err e) is some = absurd (cc)
  signed_again state sequence asked moment again (Ok (plan.Change c)) is some =
      let text = signed_at state sequence asked moment in
      let after = after_change state (Some c) in
      let same = sign_is c sequence asked.number asked.basis moment asked.name asked.meaning text
      (asked_for state.tables (signature_at state sequence asked moment) c is) in
      let made = is ∙ ap (λ (d : Change). Ok (plan.Change d)) same in
      let kept = subst (λ (d : Change). sign_judged (applied state.tables d) sequence asked.basis asked.number asked.name
      asked.meaning ≡ Ok (sign.Kept asked.number)) (sym same)
      (kept-again state.tables sequence asked.number asked.basis moment asked.name asked.meaning text made) in
      unchanged after (signature_at after sequence asked again)
      (kept_unchanged after.tables sequence asked.number asked.basis again asked.name asked.meaning
      (signed_at after sequence asked again) kept)

  signature_again : (state : State) (name : List ℕ) (r : Result SignBody BodyError) →
      AgainAt (λ s. signature_wanted name r) state
  signature_again state name (Err e) moment again some = absurd (cc)
  signature_again state name (Ok asked) moment again some =
      signed_again state name asked moment again (planned state.tables (signature_at state name asked moment)) refl some

  target_again : (state : State) (r : Route) (name : List ℕ) (number : ℕ) (body : List ℕ) →
      AgainAt (λ s. wanted_on s r name number body) state
  unfolding wanted_on
  target_again state route.PutTrace name number body _ _ some = trace_again state name (csv_trace body) some
  target_again state route.PutDraft name number body _ _ some = draft_again state name body (stated body) some
  target_again state route.PostVersion name number body _ _ some =
      freeze_again state name (stated_in freeze_of body) some
  target_again state route.PutSequence name number body _ _ some =
      asked_again state (stated_in (stated_sequence name) body) some
  target_again state route.PutEvents name row body _ _ some = asked_again state (stated_in (put_events_of name row) body) some
  target_again state route.PostReprocess name number body _ _ some =
      asked_again state (stated_in (reprocess_of name) body) some
  target_again state route.PostSignature name number body moment again some =
      signature_again state name (stated_in sign_of body) moment again some
  target_again state route.GetTrace name version body _ _ some = absurd (cc)
  target_again state route.GetMethod name version body _ _ some = absurd (cc)
  target_again state route.GetResults name number body _ _ some = absurd (cc)
  target_again state route.GetRow name n body _ _ some = absurd (cc)
  target_again state route.GetSuitability name number body _ _ some = absurd (cc)
  target_again state route.GetSignature name number body _ _ some = absurd (cc)

  method_again : (state : State) (t : Target) (method body : List ℕ) (same : Bool) →
      bytes_eq method (method_on t.route) ≡ same → AgainAt (λ s. wanted_method s t method body) state
  method_again state t method body true is moment again some =
      rw is (target_again state t.route t.name t.number body moment again (rw is at some))
  method_again state t method body false is moment again some = absurd (let no = rw is at some in cc)

  -- the request is judged as unchanged
  pub repeated : (state : State) (m : Message) (moment again : ℕ) → IsTrue (is_some (change_of (judged state m moment)))
      → IsUnchanged (judged (after_change state (change_of (judged state m moment))) m again)
  repeated state m moment again = on (target_of m.target) moment again
    where
      on : (t : Option Target) → AgainAt (λ s. wanted_route s t m.method m.body) state
      on None _ _ some = absurd (cc)
      on (Some t) first second some =
          method_again state t m.method m.body (bytes_eq m.method (method_on t.route)) refl first second some

-- ---- refusals

-- what was judged is no refusal, or makes no change
abbrev Unmade : Judged → Type 0
Unmade j = 400 ≤ (reply_of j).status → change_of j ≡ None

made_low : (state : State) (asked : Command) → made_status state asked ≤ 201
made_low state (command.Trace name signal) = omega arith
made_low state (command.Freeze name version) = omega arith
made_low state (command.Events name edition row events) = omega arith
made_low state (command.Rebind name edition version) = omega arith
made_low state (command.Sign sequence number basis moment name meaning text) = omega arith
made_low state (command.Sequence name edition method version standards rows) = low (sequence_of state.tables name)
  where
    low : (s : Option Sequence) → sequence_status s ≤ 201
    low None = omega arith
    low (Some s) = omega arith
made_low state (command.Draft name text) = low (draft_of state.tables name)
  where
    low : (draft : Option (List ℕ)) → draft_status draft ≤ 201
    low None = omega arith
    low (Some draft) = omega arith

decided_unmade : (state : State) (asked : Command) (p : Result Plan PlanError) → Unmade (decided state asked p)
decided_unmade state asked (Ok plan.Unchanged) is = refl
decided_unmade state asked (Ok (plan.Change c)) is = absurd (omega (arith, is, made_low state (command_of c)))
decided_unmade state asked (Err e) is = refl

command_unmade : (state : State) (asked : Command) → Unmade (commanded state asked)
command_unmade state asked = decided_unmade state asked (planned state.tables asked)

trace_unmade : (state : State) (name : List ℕ) (r : Result Signal TraceError) → Unmade (trace_put state name r)
trace_unmade state name (Ok signal) = command_unmade state (command.Trace name signal)
trace_unmade state name (Err e) = λ is. refl

draft_unmade : (state : State) (name text : List ℕ) (r : Result Fields MethodError) → Unmade (draft_put state name text r)
draft_unmade state name text (Ok method) = command_unmade state (command.Draft name text)
draft_unmade state name text (Err e) = λ is. refl

freeze_unmade : (state : State) (name : List ℕ) (r : Result ℕ BodyError) → Unmade (draft_frozen state name r)
freeze_unmade state name (Ok version) = command_unmade state (command.Freeze name version)
freeze_unmade state name (Err e) = λ is. refl

asked_unmade : (state : State) (r : Result Command BodyError) → Unmade (asked_in state r)
asked_unmade state (Ok asked) = command_unmade state asked
asked_unmade state (Err e) = λ is. refl

signature_unmade : (state : State) (moment : ℕ) (name : List ℕ) (r : Result SignBody BodyError) →
    Unmade (at_moment state moment (signature_wanted name r))
signature_unmade state moment name (Ok asked) = command_unmade state (signature_at state name asked moment)
signature_unmade state moment name (Err e) = λ is. refl

target_unmade : (state : State) (moment : ℕ) (r : Route) (name : List ℕ) (number : ℕ) (body : List ℕ) →
    Unmade (at_moment state moment (wanted_on state r name number body))
unfolding wanted_on
target_unmade state moment route.PutTrace name number body = trace_unmade state name (csv_trace body)
target_unmade state moment route.PutDraft name number body = draft_unmade state name body (stated body)
target_unmade state moment route.PostVersion name number body = freeze_unmade state name (stated_in freeze_of body)
target_unmade state moment route.GetTrace name version body = λ is. refl
target_unmade state moment route.GetMethod name version body = λ is. refl
target_unmade state moment route.PutSequence name number body = asked_unmade state (stated_in (stated_sequence name) body)
target_unmade state moment route.PutEvents name row body = asked_unmade state (stated_in (put_events_of name row) body)
target_unmade state moment route.PostReprocess name number body = asked_unmade state (stated_in (reprocess_of name) body)
target_unmade state moment route.PostSignature name number body =
    signature_unmade state moment name (stated_in sign_of body)
target_unmade state moment route.GetResults name number body = λ is. refl
target_unmade state moment route.GetRow name n body = λ is. refl
target_unmade state moment route.GetSuitability name number body = λ is. refl
target_unmade state moment route.GetSignature name number body = λ is. refl

method_unmade : (state : State) (moment : ℕ) (t : Target) (method body : List ℕ) (same : Bool) →
    bytes_eq method (method_on t.route) ≡ same → Unmade (at_moment state moment (wanted_method state t method body))
method_unmade state moment t method body true is = rw is (target_unmade state moment t.route t.name t.number body)
method_unmade state moment t method body false is = rw is (λ high. refl)

-- a refused request makes no change
pub unmade : (state : State) (m : Message) (moment : ℕ) → 400 ≤ (reply_of (judged state m moment)).status → change_of (judged state m moment) ≡ None
unmade state m moment = on (target_of m.target)
  where
    on : (t : Option Target) → Unmade (at_moment state moment (wanted_route state t m.method m.body))
    on None = λ is. refl
    on (Some t) = method_unmade state moment t m.method m.body (bytes_eq m.method (method_on t.route)) refl
