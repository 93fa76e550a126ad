-- Signatures: what is planned of them, and how they are read back.
use Rattle.std.proofs.Common.{◌≡◌, ◌∙◌, ◌∷◌, [], ◌++◌, ◌+◌, ◌-◌, ◌<◌, ◌==◌, ℕ, List, Option, Some, None, Result, Ok, Err}
use Rattle.std.proofs.Common.{Bool, cond, true, false, inl, inr, subst, length, option_map, refl, sym, ap, arith}
use Rattle.std.specs.Prelude.{All, IfSome, slice_get, unwrap_or, if◌then◌else◌}
use Rattle.std.proofs.lemmas.Bool.Decides.{nat_tests}
use Rattle.cds_base.specs.declared.clock.TheConstants.{MOMENT_LIMIT}
use Rattle.cds_book.proofs.AcceptedLaws.{there-some}
use Rattle.cds_book.proofs.BindingLaws.{same_sequence}
use Rattle.cds_book.proofs.ContentLaws.{next-signed}
use Rattle.cds_book.proofs.PlanLaws.{follows}
use Rattle.cds_book.proofs.RaisedLaws.{applied-same}
use Rattle.cds_book.proofs.SequenceLaws.{sequence-signed, signatures_of-with}
use Rattle.cds_book.specs.Inputs.{bindings_of, inputs_in, inputs_by, inputs_of}
use Rattle.cds_book.specs.Judged.{sign_judged}
use Rattle.cds_book.specs.Plan.{Accepts, applied, carried, planned, signature, signature_planned, sign_planned}
use Rattle.cds_book.specs.Plan.{with_sequence, with_signature}
use Rattle.cds_book.specs.Tables.{NamedSequence, TablesState, numbered, sequence_named, sequence_of, signatures_of, signed_of}
use Rattle.cds_book.specs.Tables.{signals_of, texts_of}
use Rattle.cds_book.specs.Kept.{IsSequenceEntry, IsSignature, IsTables}
use Rattle.cds_base.proofs.NamedLaws.{named-All}
use Rattle.std.proofs.Math.Path.{fun_ext}
use Rattle.std.proofs.lemmas.List.Elements.{All-nil}
use Rattle.std.proofs.lemmas.Option.{slice_get_cases}
use Rattle.cds_book.specs.declared.command.Plan.TheVariants as plan
use Rattle.cds_book.specs.declared.command.SignPlan.{SignPlan}
use Rattle.cds_book.specs.declared.command.SignPlan.TheVariants as sign
use Rattle.cds_report.specs.Dates.{date_of}
use Rattle.cds_sign.specs.declared.command.Change.{Change}
use Rattle.cds_sign.specs.declared.command.Change.TheVariants as change
use Rattle.cds_sign.specs.declared.inputs.Inputs.{Inputs}
use Rattle.cds_sign.specs.declared.sequence.Sequence.{Sequence}
use Rattle.cds_sign.specs.declared.signed.Signed.{Signed}
use Rattle.cds_wire.specs.declared.answer.Answer.TheVariants as answer
use Rattle.cds_base.specs.Answers.{◌>>=◌}
use Rattle.cds_base.specs.NameText.{IsName}
use Rattle.cds_book.specs.Plan.{IsCommand}
use Rattle.cds_book.specs.Refusal.{number_of_refusal}
use Rattle.cds_book.specs.declared.command.Plan.{Plan}
use Rattle.cds_book.specs.declared.error.PlanError.{PlanError}
use Rattle.cds_book.specs.declared.error.PlanError.TheVariants as refused
use Rattle.cds_respond.specs.Replies.{refusal_reply}
use Rattle.cds_sign.specs.declared.command.Command.{Command}
use Rattle.cds_sign.specs.declared.command.Command.TheVariants as command
use Rattle.cds_wire.specs.Stated.{IsSignBody}
use Rattle.cds_wire.specs.declared.sign.SignBody.{SignBody}
use Rattle.cds_desk.specs.Commands.{signature_answer, decided, commanded}
use Rattle.cds_desk.specs.Refusals.{told_as, value_told}
use Rattle.cds_desk.specs.Signing.{says_new}
use Rattle.cds_desk.specs.State.{State}
use Rattle.cds_desk.specs.declared.judged.Judged.TheVariants as judging
use Rattle.cds_desk.specs.declared.signing.TheConstants.{SIGNED_LIMIT}

-- an accepted signature is made before the limit of moments
pub sign_moment : (t : TablesState) (sequence : List ℕ) (number basis moment : ℕ) (name meaning text : List ℕ) →
    Accepts t (change.Sign sequence number basis moment name meaning text) → moment < MOMENT_LIMIT
sign_moment t sequence number basis moment name meaning text accepts = accepts.command.0.moment

-- it has the next number
next-number : (t : TablesState) (c : Change) (sequence : List ℕ) (basis number : ℕ) (name meaning : List ℕ) (p : SignPlan) →
    sign_judged t sequence basis number name meaning ≡ Ok p → sign_planned t c p ≡ Ok (plan.Change c) →
    number ≡ length (signatures_of t sequence) + 1
next-number t c sequence basis number name meaning (sign.Kept n) judged is = cc
next-number t c sequence basis number name meaning sign.New judged is =
    next-signed t sequence basis number name meaning judged

-- the last of all has the number of how many there are
last-numbered : {X : Type 0} (xs : List X) (x : X) → numbered (xs ++ x ∷ []) (length xs + 1) ≡ Some x
last-numbered xs x =
    let test : (length xs + 1 == 0) ≡ false = grind (arith, nat_tests) in
    let less : length xs + 1 - 1 ≡ length xs = omega arith in
    ap (λ b. cond b None (slice_get (xs ++ x ∷ []) (length xs + 1 - 1))) test
    ∙ ap (slice_get (xs ++ x ∷ [])) less
    ∙ at-end xs
  where
    at-end : (ys : List _) → slice_get (ys ++ x ∷ []) (length ys) ≡ Some x
    at-end [] = refl
    at-end (y ∷ ys) = at-end ys

-- a signature leaves how bindings are resolved
bindings_signed : (t : TablesState) (name : List ℕ) (s : Sequence) (signed : List Signed) → sequence_of t name ≡ Some s
    → bindings_of t ≡ bindings_of (with_sequence t name s signed)
unfolding bindings_of signals_of texts_of
bindings_signed t name s signed is =
    ap (λ (f : List ℕ → Option Sequence). record (bindings_of t) { sequences = f })
    (fun_ext (same_sequence t name s is signed))

-- a signature that is made is read back under its number, over the inputs of then
pub sign_read_back : (t : TablesState) (sequence : List ℕ) (number basis moment : ℕ) (name meaning text : List ℕ) →
    Accepts t (change.Sign sequence number basis moment name meaning text) →
    signed_of (applied t (change.Sign sequence number basis moment name meaning text)) sequence number
    ≡ option_map (signature number basis moment name meaning text) (inputs_of t sequence)
unfolding planned signature_planned inputs_by bindings_of
sign_read_back t sequence number basis moment name meaning text accepts =
    let c = change.Sign sequence number basis moment name meaning text in
    let over : Inputs → Signed = signature number basis moment name meaning text in
    let one = follows (sign_judged t sequence basis number name meaning) (sign_planned t c) c accepts.accepted in
    let found = there-some (sequence_of t sequence)
    (sequence-signed t sequence basis number name meaning one.value one.judged) in
    let next = next-number t c sequence basis number name meaning one.value one.judged one.rest in
    let made = over (inputs_in (bindings_of t) found.0) in
    let signed = signatures_of t sequence ++ made ∷ [] in
    let w = with_sequence t sequence found.0 signed in
    let is : carried t c ≡ w = ap (with_signature t sequence over) found.1 in
    let same : applied t c ≡ w = applied-same t c (bindings_signed t sequence found.0 signed found.1 ∙ sym (ap bindings_of is)) ∙ is in
    let read : signed_of w sequence number ≡ Some made =
    ap (λ (xs : List Signed). numbered xs number) (signatures_of-with t sequence found.0 signed)
    ∙ ap (numbered signed) next
    ∙ last-numbered (signatures_of t sequence) made in
    ap (λ (s : TablesState). signed_of s sequence number) same
    ∙ read
    ∙ sym (ap (λ (o : Option Sequence). option_map over (option_map (inputs_in (bindings_of t)) o)) found.1)

-- so its answer shows what was asked
pub sign_answer : (t : TablesState) (sequence : List ℕ) (number basis moment : ℕ) (name meaning text : List ℕ) →
    Accepts t (change.Sign sequence number basis moment name meaning text) →
    signature_answer false
    (signed_of (applied t (change.Sign sequence number basis moment name meaning text)) sequence number)
    ≡ answer.Sign basis number (date_of moment) false
unfolding planned signature_planned inputs_by bindings_of
sign_answer t sequence number basis moment name meaning text accepts =
    let c = change.Sign sequence number basis moment name meaning text in
    let one = follows (sign_judged t sequence basis number name meaning) (sign_planned t c) c accepts.accepted in
    let found = there-some (sequence_of t sequence)
    (sequence-signed t sequence basis number name meaning one.value one.judged) in
    ap (signature_answer false) (sign_read_back t sequence number basis moment name meaning text accepts
    ∙ ap (λ (o : Option Sequence). option_map (signature number basis moment name meaning text)
    (option_map (inputs_in (bindings_of t)) o)) found.1)

-- ---- what is kept

early_signed : (t : TablesState) → IsTables t → (name : List ℕ) → All IsSignature (signatures_of t name)
unfolding signatures_of
early_signed t kept name = by_found (sequence_named t name) refl
  where
    by_found : (found : Option NamedSequence) → sequence_named t name ≡ found
        → All IsSignature (unwrap_or (option_map (λ (e : NamedSequence). e.signed) found) [])
    by_found None is = All-nil IsSignature
    by_found (Some e) is = (named-All (λ (x : NamedSequence). x.name) IsSequenceEntry t.sequences name e kept.sequences.each is).signed

numbered-early : (xs : List Signed) (number : ℕ) → All IsSignature xs → IfSome (numbered xs number) IsSignature
numbered-early xs number all = by_zero (number == 0)
  where
    at : (i : ℕ) → IfSome (slice_get xs i) IsSignature
    at i = elim (slice_get_cases xs i).1 [
      | inl (x, within, is, here) ↦ rw is (subst IsSignature here (all i x within))
      | inr (past, is) ↦ rw is tt
    ]

    by_zero : (b : Bool) → IfSome (if b then None else slice_get xs (number - 1)) IsSignature
    by_zero true = tt
    by_zero false = at (number - 1)

-- a signature that is kept was made before the limit of moments
pub kept_moment : (t : TablesState) → IsTables t → (sequence : List ℕ) (number : ℕ) (s : Signed)
    → signed_of t sequence number ≡ Some s → s.moment < MOMENT_LIMIT
kept_moment t kept sequence number s is =
    let all : IfSome (signed_of t sequence number) IsSignature = numbered-early (signatures_of t sequence) number (early_signed t kept sequence) in
    (subst (λ (o : Option Signed). IfSome o IsSignature) is all).moment

-- ---- what is asked for

-- a signature that a body states may be planned
pub may_sign : (sequence : List ℕ) (asked : SignBody) (moment : ℕ) (text : List ℕ) → IsName sequence → IsSignBody asked →
    moment < MOMENT_LIMIT → length text < SIGNED_LIMIT →
    IsCommand (command.Sign sequence asked.number asked.basis moment asked.name asked.meaning text)
may_sign sequence asked moment text named body early short = (
  record {
    sequence = named;
    number = body.number;
    basis = body.basis;
    moment = early;
    name = body.name;
    meaning = body.meaning;
    text = omega (arith, short);
  },
  tt,
)

-- a signature that isn't new is planned alike, whatever is carried out of it
planned_alike : (t : TablesState) (c d : Change) (p : Result SignPlan PlanError) → says_new p ≡ false →
    (p >>= sign_planned t c) ≡ (p >>= sign_planned t d)
planned_alike t c d (Ok sign.New) old = absurd (cc)
planned_alike t c d (Ok (sign.Kept number)) old = refl
planned_alike t c d (Err error) old = refl

module _ (sequence : List ℕ) (number basis moment : ℕ) (name meaning t u : List ℕ) where
  abbrev one : Command
  one = command.Sign sequence number basis moment name meaning t

  abbrev other : Command
  other = command.Sign sequence number basis moment name meaning u

  -- it is told alike why it is refused
  told_alike : (error : PlanError) → told_as one error ≡ told_as other error
  told_alike (refused.NoTrace n) = refl
  told_alike (refused.NoMethod n) = refl
  told_alike (refused.NoVersion n) = refl
  told_alike (refused.NoSequence n) = refl
  told_alike (refused.NoRow n) = refl
  told_alike (refused.NoRecord n) = refl
  told_alike (refused.Edition n) = refl
  told_alike (refused.Basis n) = refl
  told_alike (refused.Number n) = refl
  told_alike (refused.Full n) = refl
  told_alike (refused.TwoLabels n) = refl
  told_alike (refused.BadAmount n) = refl
  told_alike refused.NoMemory = refl

  decided_alike : (state : State) (p : Result Plan PlanError) → decided state one p ≡ decided state other p
  decided_alike state (Ok plan.Unchanged) = refl
  decided_alike state (Ok (plan.Change c)) = refl
  decided_alike state (Err error) =
      ap (λ (told : ℕ × List ℕ). judging.Reply (refusal_reply told.0 told.1 (unwrap_or (number_of_refusal error) 0) (value_told error)))
      (told_alike error)

  -- so a signature that isn't new comes to the same, whatever its text
  pub without_text : (state : State) → says_new (sign_judged state.tables sequence basis number name meaning) ≡ false →
      commanded state one ≡ commanded state other
  unfolding planned signature_planned
  without_text state old =
      decided_alike state (planned state.tables one)
      ∙ ap (decided state other) (planned_alike state.tables
      (change.Sign sequence number basis moment name meaning t) (change.Sign sequence number basis moment name meaning u)
      (sign_judged state.tables sequence basis number name meaning) old)
