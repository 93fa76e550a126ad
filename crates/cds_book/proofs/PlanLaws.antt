-- What holds of every change: it is that of its command, it keeps the rules, and repeating it changes nothing.
use Rattle.std.proofs.Common.{◌≡◌, ◌∙◌, ℕ, ◌+◌, ◌≤◌, Bool, true, false, cond, ◌==◌, inl, inr, List, [], ◌∷◌, ◌++◌, length, Option, Some, None, Result, Ok, Err, refl, sym, ap, ap₂, subst, arith}
use Rattle.std.specs.Option.{option_map_or}
use Rattle.std.specs.Str.{bytes_eq}
use Rattle.cds_base.specs.Answers.{Gives, ◌>>=◌}
use Rattle.cds_book.specs.Plan.{planned, carried, counts_of, limit_passed, unless_full, freeze_planned, same_signal, is_latest, is_kept, other_planned, sequence_planned, events_planned, rebind_planned, signature_planned, sign_planned, row_at, command_of, AnswersAccepted, IsCommand, Accepts}
use Rattle.cds_book.specs.Tables.{TablesState, signals_of, draft_of, texts_of}
use Rattle.cds_sign.specs.declared.command.Command.{Command}
use Rattle.cds_sign.specs.declared.command.Command.TheVariants as command
use Rattle.cds_sign.specs.declared.command.Change.{Change}
use Rattle.cds_sign.specs.declared.command.Change.TheVariants as change
use Rattle.cds_base.specs.declared.event.Event.{Event}
use Rattle.cds_sign.specs.declared.asked.AskedRow.{AskedRow}
use Rattle.cds_sign.specs.declared.row.Row.{Row}
use Rattle.cds_sign.specs.declared.sequence.Sequence.{Sequence}
use Rattle.cds_book.specs.Judged.{must, can_bind, method_judged, standards_judged, rows_judged, sequence_judged, edition_judged, sign_judged}
use Rattle.cds_book.specs.Same.{same_events}
use Rattle.cds_book.specs.declared.command.SignPlan.{SignPlan}
use Rattle.cds_book.specs.declared.command.SignPlan.TheVariants as sign
use Rattle.cds_book.proofs.AskedLaws.{standards-same, rows-asked}
use Rattle.cds_book.specs.declared.command.Plan.{Plan}
use Rattle.cds_book.specs.declared.command.Plan.TheVariants as plan
use Rattle.cds_book.specs.declared.error.PlanError.{PlanError}
use Rattle.cds_book.specs.declared.error.PlanError.TheVariants.{NoMemory, NoVersion, Number}
use Rattle.std.proofs.lemmas.Bool.{cases_eq}
use Rattle.std.proofs.lemmas.List.{length-append}
use Rattle.cds_sign.specs.declared.limits.TheConstants.{MOST_VERSIONS}
use Rattle.cds_book.proofs.VersionLaws.{AreWithin}
use Rattle.cds_book.proofs.MethodLaws.{carried-freeze, texts_of-with, planned-other_number, IsNewText-accepted}

-- what is planned within the limits is the change that was asked
unless_full-change : (limit : Option ℕ) (asked c : Change) → unless_full limit asked ≡ Ok (plan.Change c) → asked ≡ c
unless_full-change None asked c is = cc
unless_full-change (Some n) asked c is = cc

-- it is so behind a test that may answer that nothing changes
after_test : (b : Bool) (r : Result Plan PlanError) (asked c : Change) → (r ≡ Ok (plan.Change c) → asked ≡ c) → cond b (Ok plan.Unchanged) r ≡ Ok (plan.Change c) → asked ≡ c
after_test true r asked c rest is = cc
after_test false r asked c rest is = rest is

-- what is planned behind such a test
pub kept_test : (b : Bool) (r : Result Plan PlanError) (c : Change) → cond b (Ok plan.Unchanged) r ≡ Ok (plan.Change c) → r ≡ Ok (plan.Change c)
kept_test true r c is = cc
kept_test false r c is = is

-- or that the number is another
after_number : (b : Bool) (r : Result Plan PlanError) (e : PlanError) (asked c : Change) → (r ≡ Ok (plan.Change c) → asked ≡ c) → cond b r (Err e) ≡ Ok (plan.Change c) → asked ≡ c
after_number true r e asked c rest is = rest is
after_number false r e asked c rest is = cc

-- a freeze is planned of a draft
freeze-change : (t : TablesState) (name : List ℕ) (version : ℕ) (draft : Option (List ℕ)) (c : Change) → freeze_planned t name version draft ≡ Ok (plan.Change c) → change.Freeze name version ≡ c
freeze-change t name version None c is = cc
freeze-change t name version (Some draft) c is =
    let asked = change.Freeze name version in
    let limit = limit_passed (counts_of asked (carried t asked)) in
    let next = length (texts_of t name) + 1 in
    let number = version == next in
    let refused = Number next in
    after_test (is_latest bytes_eq (texts_of t name) draft) (cond number (unless_full limit asked) (Err refused)) asked c
    (after_number number (unless_full limit asked) refused asked c (unless_full-change limit asked c)) is

-- what follows a part that was judged, where the whole is planned
pub record Follows {X : Type 0} (r : Result X PlanError) (f : X → Result Plan PlanError) (c : Change) : Type 0 where
  pub value : X
  pub judged : r ≡ Ok value
  pub rest : f value ≡ Ok (plan.Change c)

pub follows : {X : Type 0} (r : Result X PlanError) (f : X → Result Plan PlanError) (c : Change) → (r >>= f) ≡ Ok (plan.Change c) → Follows r f c
follows (Ok x) f c is = record { value = x; judged = refl; rest = is }
follows (Err e) f c is = cc

-- another sequence is the change that was asked
other-change : (t : TablesState) (name : List ℕ) (edition : ℕ) (asked c : Change) → other_planned t name edition asked ≡ Ok (plan.Change c) → asked ≡ c
other-change t name edition asked c is =
    let limit = limit_passed (counts_of asked (carried t asked)) in
    let rest = follows (edition_judged t name edition) (λ _. unless_full limit asked) c is in
    unless_full-change limit asked c rest.rest

-- what a sequence is that is planned: its parts were judged, it isn't the kept one, and its edition is
pub record PlansSequence (t : TablesState) (name : List ℕ) (edition : ℕ) (method : List ℕ) (version : ℕ) (standards : List (List ℕ)) (asked : List AskedRow) (c : Change) : Type 0 where
  pub listed : List (List ℕ)
  pub rows : List Row
  pub methods : method_judged t method version ≡ Ok tt
  pub standards_are : standards_judged t name standards ≡ Ok listed
  pub rows_are : rows_judged t asked ≡ Ok rows
  pub is : change.Sequence name edition method version listed rows ≡ c
  pub planned_is : other_planned t name edition c ≡ Ok (plan.Change c)

pub PlansSequence-planned : (t : TablesState) (name : List ℕ) (edition : ℕ) (method : List ℕ) (version : ℕ) (standards : List (List ℕ)) (asked : List AskedRow) (c : Change)
    → sequence_planned t name edition method version standards asked ≡ Ok (plan.Change c) → PlansSequence t name edition method version standards asked c
unfolding sequence_planned
PlansSequence-planned t name edition method version standards asked c is =
    let last : List (List ℕ) → List Row → Result Plan PlanError = λ listed rows. cond (is_kept t name method version listed rows) (Ok plan.Unchanged) (other_planned t name edition (change.Sequence name edition method version listed rows)) in
    let then_rows : List (List ℕ) → Result Plan PlanError = λ listed. rows_judged t asked >>= λ rows. last listed rows in
    let one = follows (method_judged t method version) (λ _. standards_judged t name standards >>= then_rows) c is in
    let two = follows (standards_judged t name standards) then_rows c one.rest in
    let three = follows (rows_judged t asked) (last two.value) c two.rest in
    let made = change.Sequence name edition method version two.value three.value in
    let other = kept_test (is_kept t name method version two.value three.value) (other_planned t name edition made) c three.rest in
    let same = other-change t name edition made c other in
    record {
      listed = two.value;
      rows = three.value;
      methods = one.judged;
      standards_are = two.judged;
      rows_are = three.judged;
      is = same;
      planned_is = subst (λ d. other_planned t name edition d ≡ Ok (plan.Change c)) same other;
    }

-- events, bindings and signatures that are planned are those that were asked
pub events-change : (t : TablesState) (name : List ℕ) (edition row : ℕ) (events : List Event) (c : Change) → events_planned t name edition row events ≡ Ok (plan.Change c) → change.Events name edition row events ≡ c
unfolding events_planned
events-change t name edition row events c is =
    let made = change.Events name edition row events in
    let last : Row → Result Plan PlanError = λ r. cond (same_events r.events events) (Ok plan.Unchanged) (other_planned t name edition made) in
    let one = follows (sequence_judged t name) (λ s. row_at s row >>= last) c is in
    let two = follows (row_at one.value row) last c one.rest in
    after_test (same_events two.value.events events) (other_planned t name edition made) made c (other-change t name edition made c) two.rest

pub rebind-change : (t : TablesState) (name : List ℕ) (edition version : ℕ) (c : Change) → rebind_planned t name edition version ≡ Ok (plan.Change c) → change.Rebind name edition version ≡ c
unfolding rebind_planned
rebind-change t name edition version c is =
    let made = change.Rebind name edition version in
    let last : Sequence → Unit {0} → Result Plan PlanError = λ s _. cond (s.version == version) (Ok plan.Unchanged) (other_planned t name edition made) in
    let fits : Sequence → Result (Unit {0}) PlanError = λ s. must (NoVersion s.method) (can_bind (length (texts_of t s.method)) version) in
    let one = follows (sequence_judged t name) (λ s. fits s >>= last s) c is in
    let two = follows (fits one.value) (last one.value) c one.rest in
    after_test (one.value.version == version) (other_planned t name edition made) made c (other-change t name edition made c) two.rest

pub sign-change : (t : TablesState) (sequence : List ℕ) (number basis moment : ℕ) (name meaning text : List ℕ) (c : Change) → signature_planned t sequence number basis moment name meaning text ≡ Ok (plan.Change c) → change.Sign sequence number basis moment name meaning text ≡ c
unfolding signature_planned
sign-change t sequence number basis moment name meaning text c is = let one = follows (sign_judged t sequence basis number name meaning) (sign_planned t (change.Sign sequence number basis moment name meaning text)) c is in by_plan one.value one.rest
  where
    by_plan : (p : SignPlan) → sign_planned t (change.Sign sequence number basis moment name meaning text) p ≡ Ok (plan.Change c) → change.Sign sequence number basis moment name meaning text ≡ c
    by_plan (sign.Kept n) is = cc
    by_plan sign.New is = let made = change.Sign sequence number basis moment name meaning text in unless_full-change (limit_passed (counts_of made (carried t made))) made c is

-- a change that is planned is that of its command
pub command_of-planned : (t : TablesState) (asked : Command) (c : Change) → planned t asked ≡ Ok (plan.Change c) → command_of c ≡ asked
unfolding planned
command_of-planned t (command.Trace name signal) c is =
    let asked = change.Trace name signal in
    let limit = limit_passed (counts_of asked (carried t asked)) in
    ap command_of (sym (after_test (is_latest same_signal (signals_of t name) signal) (unless_full limit asked) asked c (unless_full-change limit asked c) is))
command_of-planned t (command.Draft name text) c is =
    let asked = change.Draft name text in
    let limit = limit_passed (counts_of asked (carried t asked)) in
    ap command_of (sym (after_test (option_map_or (λ d. bytes_eq d text) (draft_of t name) false) (unless_full limit asked) asked c (unless_full-change limit asked c) is))
command_of-planned t (command.Freeze name version) c is = ap command_of (sym (freeze-change t name version (draft_of t name) c is))
command_of-planned t (command.Sequence name edition method version standards asked) c is =
    let plans = PlansSequence-planned t name edition method version standards asked c is in
    ap command_of (sym plans.is) ∙ ap₂ (λ ls rs. command.Sequence name edition method version ls rs) (standards-same t name standards plans.listed plans.standards_are) (rows-asked t asked plans.rows plans.rows_are).0
command_of-planned t (command.Events name edition row events) c is = ap command_of (sym (events-change t name edition row events c is))
command_of-planned t (command.Rebind name edition version) c is = ap command_of (sym (rebind-change t name edition version c is))
command_of-planned t (command.Sign sequence number basis moment name meaning text) c is = ap command_of (sym (sign-change t sequence number basis moment name meaning text c is))

-- a change that is answered is accepted
pub AnswersAccepted-planned : (t : TablesState) (asked : Command) (r : Result Plan PlanError) → IsCommand asked → Gives NoMemory (λ p. p) (planned t asked) r → AnswersAccepted t r
AnswersAccepted-planned t asked (Ok plan.Unchanged) fit answers = tt
AnswersAccepted-planned t asked (Ok (plan.Change c)) fit answers =
    let same : command_of c ≡ asked = command_of-planned t asked c answers in
    record { command = subst IsCommand (sym same) fit; accepted = ap (planned t) same ∙ answers }
AnswersAccepted-planned t asked (Err e) fit answers = tt

-- an accepted freeze names the next version
next_version : (t : TablesState) (name : List ℕ) (version : ℕ) → Accepts t (change.Freeze name version) → version ≡ length (texts_of t name) + 1
next_version t name version accepts =
    let new = IsNewText-accepted t name version accepts.accepted in
    elim (cases_eq version (length (texts_of t name) + 1)) [
      | inl next ↦ next
      | inr differs ↦
          let refused = planned-other_number t name version new.draft (sym new.is) (texts_of t name) refl _ (sym new.other) refl differs in
          let contrary : Err (Number (length (texts_of t name) + 1)) ≡ Ok (plan.Change (change.Freeze name version)) = sym refused ∙ accepts.accepted in
          cc
    ]

-- and none past the most that a method may have
pub freeze-numbered : (t : TablesState) (name : List ℕ) (version : ℕ) → Accepts t (change.Freeze name version) → (1 ≤ version) × (version ≤ MOST_VERSIONS)
freeze-numbered t name version accepts =
    let new = IsNewText-accepted t name version accepts.accepted in
    let next = next_version t name version accepts in
    let texts = texts_of t name ++ new.draft ∷ [] in
    let within = subst (λ s. AreWithin (counts_of (change.Freeze name version) s)) (carried-freeze t name version new.draft new.is) new.within in
    let few : length texts ≤ MOST_VERSIONS = subst (λ (ts : List (List ℕ)). length ts ≤ MOST_VERSIONS) (texts_of-with t name new.draft texts) within.0 in
    (omega (arith, next), omega (arith, next, few, length-append (texts_of t name) (new.draft ∷ [])))
