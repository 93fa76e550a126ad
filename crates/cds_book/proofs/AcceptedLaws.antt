-- What an accepted change of a sequence makes, and that it is within the limits.
use Rattle.std.proofs.Common.{◌≡◌, ◌∙◌, ℕ, ◌+◌, ◌-◌, ◌≤◌, ◌==◌, true, not, cond, List, [], ◌∷◌, ◌++◌, length, map, set, Option, Some, None, Result, Ok, option_map, refl, sym, ap, subst, arith}
use Rattle.std.specs.Prelude.{IsSome, is_some, if◌then◌else◌}
use Rattle.std.specs.Option.{option_map_or}
use Rattle.std.proofs.lemmas.Bool.Decides.{nat_tests}
use Rattle.std.proofs.lemmas.List.{length-append, length-set}
use Rattle.cds_base.specs.Answers.{◌>>=◌}
use Rattle.cds_base.specs.NameText.{IsName}
use Rattle.cds_base.specs.declared.event.Event.{Event}
use Rattle.cds_sign.specs.declared.command.Change.{Change}
use Rattle.cds_sign.specs.declared.command.Change.TheVariants as change
use Rattle.cds_sign.specs.declared.inputs.Inputs.{Inputs}
use Rattle.cds_sign.specs.declared.limits.TheConstants.{MOST_EDITION, MOST_SIGNATURES}
use Rattle.cds_sign.specs.declared.row.Row.{Row}
use Rattle.cds_sign.specs.declared.sequence.Sequence.{Sequence}
use Rattle.cds_sign.specs.declared.signed.Signed.{Signed}
use Rattle.cds_book.specs.Held.{bindings_over}
use Rattle.cds_book.specs.Inputs.{bindings_of, inputs_in}
use Rattle.cds_book.specs.Judged.{must, can_bind, edition_of, edition_judged, sequence_judged, sign_judged}
use Rattle.cds_book.specs.Kept.{IsTables, IsSignature, rows_in_all, signed_bytes_in_all}
use Rattle.cds_book.specs.Plan.{planned, carried, counts_of, limit_passed, unless_full, events_planned, rebind_planned, signature_planned, sign_planned, other_planned, row_at, asked_of, basis_of, sequence_put, sequence_made, signature, with_changed, with_events, with_sequence, with_signature, inputs_differ, made_room, rises_of, room_of, Accepts}
use Rattle.cds_book.specs.Raising.{Makes, Signs}
use Rattle.cds_book.specs.Same.{same_events}
use Rattle.cds_book.specs.Tables.{TablesState, sequence_room, sign_room, numbered, texts_of, sequence_of, signatures_of}
use Rattle.cds_book.specs.declared.command.Plan.{Plan}
use Rattle.cds_book.specs.declared.command.Plan.TheVariants as plan
use Rattle.cds_book.specs.declared.command.SignPlan.{SignPlan}
use Rattle.cds_book.specs.declared.command.SignPlan.TheVariants as sign
use Rattle.cds_book.specs.declared.error.PlanError.{PlanError}
use Rattle.cds_book.specs.declared.error.PlanError.TheVariants.{NoSequence, NoVersion, Edition}
use Rattle.cds_book.specs.declared.limits.TheConstants.{MOST_SEQUENCES, MOST_ROWS_IN_ALL, MOST_SIGNED_BYTES}
use Rattle.cds_book.proofs.BindingLaws.{bindings-sign}
use Rattle.cds_book.proofs.ContentLaws.{IsChange-accepted, there-found, must-so, next-signed, unless_full-none}
use Rattle.cds_book.proofs.FitLaws.{Fits, Fits-there, Fits-put, Fits-events, Fits-rebind}
use Rattle.cds_book.proofs.PlanLaws.{follows, kept_test, PlansSequence-planned}
use Rattle.cds_book.proofs.SequenceLaws.{sequences-with, rows-with, signatures_of-with, sequence-signed}
use Rattle.cds_book.proofs.VersionLaws.{AreWithin, AreWithin-none}
use mir.Val.{bool_byte}

-- another sequence that is planned: the edition that was seen is the kept one, and no limit is passed
pub record IsOther (t : TablesState) (name : List ℕ) (edition : ℕ) (c : Change) : Type 0 where
  pub edition_is : edition ≡ edition_of t name
  pub within : AreWithin (counts_of c (carried t c))

pub IsOther-planned : (t : TablesState) (name : List ℕ) (edition : ℕ) (c : Change) → other_planned t name edition c ≡ Ok (plan.Change c) → IsOther t name edition c
unfolding edition_judged
IsOther-planned t name edition c is =
    let counts = counts_of c (carried t c) in
    let kept = edition_of t name in
    let rest = follows (must (Edition kept) (edition == kept)) (λ _. unless_full (limit_passed counts) c) c is in
    let test : (edition == kept) ≡ true = must-so (Edition kept) (edition == kept) rest.value rest.judged in
    record {
      edition_is = grind (arith, nat_tests, test);
      within = AreWithin-none counts (unless_full-none (limit_passed counts) c c rest.rest);
    }

-- what an accepted change makes of a sequence
pub record MakesSequence (t : TablesState) (c : Change) (name : List ℕ) : Type 0 where
  pub made : Sequence
  pub named : IsName name
  pub made_is : sequence_made t c ≡ Some made
  pub carried_is : carried t c ≡ with_sequence t name made (signatures_of t name)
  pub room_is : room_of t c ≡ Some (sequence_room name (record made { basis = made.basis + (if inputs_differ t (carried t c) name then 1 else 0) }) (rises_of t c))
  pub edition : made.edition ≡ edition_of t name + 1
  pub basis : made.basis ≡ basis_of t name
  pub few_edition : edition_of t name ≤ MOST_EDITION
  pub fits : Fits t name made
  pub few : length (with_sequence t name made (signatures_of t name)).sequences ≤ MOST_SEQUENCES
  pub few_in_all : rows_in_all (with_sequence t name made (signatures_of t name)).sequences ≤ MOST_ROWS_IN_ALL

-- other events of a row leave how many rows there are
length-events : (rows : List Row) (row : ℕ) (events : List Event) → length (with_events rows row events) ≡ length rows
length-events rows row events = by_found (numbered rows row)
  where
    by_found : (found : Option Row) → length (option_map_or (λ (r : Row). set rows (row - 1) (record r { events = events })) found rows) ≡ length rows
    by_found None = refl
    by_found (Some r) = length-set rows (row - 1) (record r { events = events })

module _ (t : TablesState) (kept : IsTables t) (name : List ℕ) (s q : Sequence) (signed : List Signed) (there : sequence_of t name ≡ Some s) (same : length q.rows ≡ length s.rows) where
  -- another sequence in place of one that is there leaves how many there are
  pub few-replaced : length (with_sequence t name q signed).sequences ≤ MOST_SEQUENCES
  few-replaced =
      let many = sequences-with t kept name q signed in
      let old : bool_byte (not (is_some (sequence_of t name))) ≡ 0 = ap (λ (o : Option Sequence). bool_byte (not (is_some o))) there in
      let few = kept.sequences.few in
      omega (arith, many, old, few)

  -- and how many rows there are
  pub few_rows-replaced : rows_in_all (with_sequence t name q signed).sequences ≤ MOST_ROWS_IN_ALL
  few_rows-replaced =
      let many = rows-with t kept name q signed in
      let old : option_map_or (λ (x : Sequence). length x.rows) (sequence_of t name) 0 ≡ length s.rows = ap (λ (o : Option Sequence). option_map_or (λ (x : Sequence). length x.rows) o 0) there in
      let few = kept.sequences.few_rows in
      omega (arith, many, old, same, few)

-- the basis of a sequence that is there
pub basis_of-there : (t : TablesState) (name : List ℕ) (s : Sequence) → sequence_of t name ≡ Some s → s.basis ≡ basis_of t name
unfolding basis_of
basis_of-there t name s there = sym (ap (λ (o : Option Sequence). option_map_or (λ (x : Sequence). x.basis) o 1) there)

-- a sequence whose events or binding are made others
module _ (t : TablesState) (kept : IsTables t) (name : List ℕ) (edition : ℕ) (c : Change) (f : Sequence → Sequence) (s : Sequence)
    (there : sequence_of t name ≡ Some s) (named : IsName name) (other : other_planned t name edition c ≡ Ok (plan.Change c)) (seen : edition ≤ MOST_EDITION)
    (made : sequence_made t c ≡ option_map f (sequence_of t name)) (put : carried t c ≡ with_changed t name (sequence_made t c)) (room : room_of t c ≡ made_room t c name (sequence_made t c))
    (next : (f s).edition ≡ edition_of t name + 1) (based : (f s).basis ≡ s.basis) (rows : length (f s).rows ≡ length s.rows) (fits : Fits t name (f s)) where
  MakesSequence-other : MakesSequence t c name
  MakesSequence-other =
      let is : sequence_made t c ≡ Some (f s) = made ∙ ap (option_map f) there in
      let edition_is = (IsOther-planned t name edition c other).edition_is in
      record {
        made = f s;
        named = named;
        made_is = is;
        carried_is = put ∙ ap (with_changed t name) is;
        room_is = room ∙ ap (made_room t c name) is;
        edition = next;
        basis = based ∙ basis_of-there t name s there;
        few_edition = omega (arith, seen, edition_is);
        fits = fits;
        few = few-replaced t kept name s (f s) (signatures_of t name) there rows;
        few_in_all = few_rows-replaced t kept name s (f s) (signatures_of t name) there rows;
      }

-- a sequence that is there, of which the row is there, and other events of it
makes-events : (t : TablesState) → IsTables t → (name : List ℕ) (edition row : ℕ) (events : List Event) → Accepts t (change.Events name edition row events) → MakesSequence t (change.Events name edition row events) name
unfolding planned events_planned sequence_judged sequence_made room_of
makes-events t kept name edition row events accepts =
    let c = change.Events name edition row events in
    let last : Row → Result Plan PlanError = λ r. cond (same_events r.events events) (Ok plan.Unchanged) (other_planned t name edition c) in
    let one = follows (sequence_judged t name) (λ s. row_at s row >>= last) c accepts.accepted in
    let two = follows (row_at one.value row) last c one.rest in
    let there = there-found (sequence_of t name) (NoSequence name) one.value one.judged in
    MakesSequence-other t kept name edition c (λ s. record s { edition = edition_of t name + 1; rows = with_events s.rows row events }) one.value
    there accepts.command.0.name (kept_test (same_events two.value.events events) (other_planned t name edition c) c two.rest) accepts.command.0.edition refl refl refl refl refl (length-events one.value.rows row events)
    (Fits-events t row events accepts.command.0.events name one.value (edition_of t name + 1) (Fits-there t kept name one.value there))

-- a sequence that is there, bound to another version
makes-rebind : (t : TablesState) → IsTables t → (name : List ℕ) (edition version : ℕ) → Accepts t (change.Rebind name edition version) → MakesSequence t (change.Rebind name edition version) name
unfolding planned rebind_planned sequence_judged sequence_made room_of
makes-rebind t kept name edition version accepts =
    let c = change.Rebind name edition version in
    let last : Sequence → Unit {0} → Result Plan PlanError = λ s _. cond (s.version == version) (Ok plan.Unchanged) (other_planned t name edition c) in
    let fits : Sequence → Result (Unit {0}) PlanError = λ s. must (NoVersion s.method) (can_bind (length (texts_of t s.method)) version) in
    let one = follows (sequence_judged t name) (λ s. fits s >>= last s) c accepts.accepted in
    let two = follows (fits one.value) (last one.value) c one.rest in
    let there = there-found (sequence_of t name) (NoSequence name) one.value one.judged in
    MakesSequence-other t kept name edition c (λ s. record s { edition = edition_of t name + 1; version = version }) one.value
    there accepts.command.0.name (kept_test (one.value.version == version) (other_planned t name edition c) c two.rest) accepts.command.0.edition refl refl refl refl refl refl
    (Fits-rebind t name one.value (edition_of t name + 1) version (Fits-there t kept name one.value there) (must-so (NoVersion one.value.method) (can_bind (length (texts_of t one.value.method)) version) two.value two.judged))

-- a sequence that is put
makes-put : (t : TablesState) → IsTables t → (name : List ℕ) (edition : ℕ) (method : List ℕ) (version : ℕ) (standards : List (List ℕ)) (rows : List Row) → Accepts t (change.Sequence name edition method version standards rows) → MakesSequence t (change.Sequence name edition method version standards rows) name
unfolding planned sequence_made room_of
makes-put t kept name edition method version standards rows accepts =
    let c = change.Sequence name edition method version standards rows in
    let plans = PlansSequence-planned t name edition method version standards (map asked_of rows) c accepts.accepted in
    let other = IsOther-planned t name edition c plans.planned_is in
    let edition_is = other.edition_is in
    let seen = accepts.command.0.0.edition in
    let same : plans.rows ≡ rows = let is = plans.is in cc in
    let listed : plans.listed ≡ standards = let is = plans.is in cc in
    let parts = IsChange-accepted t kept c accepts in
    record {
      made = sequence_put t name method version standards rows;
      named = parts.0.name;
      made_is = refl;
      carried_is = refl;
      room_is = refl;
      edition = refl;
      basis = refl;
      few_edition = omega (arith, seen, edition_is);
      fits = Fits-put t name (sequence_put t name method version standards rows) (map asked_of rows) standards plans.methods
          (plans.standards_are ∙ ap Ok listed) (plans.rows_are ∙ ap Ok same) parts.0.method parts.0.standards parts.1;
      few = other.within.0;
      few_in_all = other.within.1.0;
    }

-- each accepted change of a sequence makes one
pub MakesSequence-accepted : (t : TablesState) → IsTables t → (c : Change) (own : List ℕ) → Makes own c → Accepts t c → MakesSequence t c own
MakesSequence-accepted t kept (change.Trace name signal) own makes accepts = absurd makes
MakesSequence-accepted t kept (change.Draft name text) own makes accepts = absurd makes
MakesSequence-accepted t kept (change.Freeze name version) own makes accepts = absurd makes
MakesSequence-accepted t kept (change.Sequence name edition method version standards rows) own makes accepts = subst (MakesSequence t (change.Sequence name edition method version standards rows)) makes (makes-put t kept name edition method version standards rows accepts)
MakesSequence-accepted t kept (change.Events name edition row events) own makes accepts = subst (MakesSequence t (change.Events name edition row events)) makes (makes-events t kept name edition row events accepts)
MakesSequence-accepted t kept (change.Rebind name edition version) own makes accepts = subst (MakesSequence t (change.Rebind name edition version)) makes (makes-rebind t kept name edition version accepts)
MakesSequence-accepted t kept (change.Sign sequence number basis moment name meaning text) own makes accepts = absurd makes

-- what an accepted signature makes
pub record MakesSignature (t : TablesState) (c : Change) (name : List ℕ) : Type 0 where
  pub sequence : Sequence
  pub signed : Signed
  pub named : IsName name
  pub ranges : IsSignature signed
  pub there : sequence_of t name ≡ Some sequence
  pub carried_is : carried t c ≡ with_sequence t name sequence (signatures_of t name ++ signed ∷ [])
  pub room_is : room_of t c ≡ Some (sign_room name signed)
  pub same : bindings_of t ≡ bindings_of (carried t c)
  pub number : signed.number ≡ length (signatures_of t name) + 1
  pub few : length (signatures_of t name) + 1 ≤ MOST_SIGNATURES
  pub few_bytes : signed_bytes_in_all (with_sequence t name sequence (signatures_of t name ++ signed ∷ [])).sequences ≤ MOST_SIGNED_BYTES

-- what is there
pub there-some : {X : Type 0} (o : Option X) → IsSome o → (x : X) × (o ≡ Some x)
there-some None is = cc
there-some (Some x) is = (x, refl)

-- a signature that is planned passes no limit
within-planned : (t : TablesState) (c asked : Change) (p : SignPlan) → sign_planned t asked p ≡ Ok (plan.Change c) → AreWithin (counts_of asked (carried t asked))
within-planned t c asked (sign.Kept n) is = cc
within-planned t c asked sign.New is = AreWithin-none _ (unless_full-none (limit_passed (counts_of asked (carried t asked))) asked c is)

-- and it is no kept one
new-planned : (t : TablesState) (c asked : Change) (p : SignPlan) → sign_planned t asked p ≡ Ok (plan.Change c) → p ≡ sign.New
new-planned t c asked (sign.Kept n) is = cc
new-planned t c asked sign.New is = refl

makes-sign : (t : TablesState) (sequence : List ℕ) (number basis moment : ℕ) (name meaning text : List ℕ) → Accepts t (change.Sign sequence number basis moment name meaning text) → MakesSignature t (change.Sign sequence number basis moment name meaning text) sequence
unfolding planned signature_planned room_of bindings_over
makes-sign t sequence number basis moment name meaning text accepts =
    let c = change.Sign sequence number basis moment name meaning text in
    let over : Inputs → Signed = signature number basis moment name meaning text in
    let one = follows (sign_judged t sequence basis number name meaning) (sign_planned t c) c accepts.accepted in
    let found = there-some (sequence_of t sequence) (sequence-signed t sequence basis number name meaning one.value one.judged) in
    let made = over (inputs_in (bindings_of t) found.0) in
    let signed = signatures_of t sequence ++ made ∷ [] in
    let is : carried t c ≡ with_sequence t sequence found.0 signed = ap (with_signature t sequence over) found.1 in
    let within : AreWithin (counts_of c (with_sequence t sequence found.0 signed)) = subst (λ s. AreWithin (counts_of c s)) is (within-planned t c c one.value one.rest) in
    let few : length signed ≤ MOST_SIGNATURES = subst (λ (xs : List Signed). length xs ≤ MOST_SIGNATURES) (signatures_of-with t sequence found.0 signed) within.0 in
    record {
      sequence = found.0;
      signed = made;
      named = accepts.command.0.sequence;
      ranges = let asked = accepts.command.0 in
          record { basis = asked.basis.enough; moment = asked.moment; name = asked.name; meaning = asked.meaning };
      there = found.1;
      carried_is = is;
      room_is = ap (option_map (λ (s : Sequence). sign_room sequence (over (inputs_in (bindings_of t) s)))) found.1;
      same = bindings-sign t sequence over (sequence_of t sequence) refl;
      number = next-signed t sequence basis number name meaning (one.judged ∙ ap Ok (new-planned t c c one.value one.rest));
      few = let more = length-append (signatures_of t sequence) (made ∷ []) in omega (arith, few, more);
      few_bytes = within.1.0;
    }

-- each accepted signature is behind the others
pub MakesSignature-accepted : (t : TablesState) (c : Change) (own : List ℕ) → Signs own c → Accepts t c → MakesSignature t c own
MakesSignature-accepted t (change.Trace name signal) own signs accepts = absurd signs
MakesSignature-accepted t (change.Draft name text) own signs accepts = absurd signs
MakesSignature-accepted t (change.Freeze name version) own signs accepts = absurd signs
MakesSignature-accepted t (change.Sequence name edition method version standards rows) own signs accepts = absurd signs
MakesSignature-accepted t (change.Events name edition row events) own signs accepts = absurd signs
MakesSignature-accepted t (change.Rebind name edition version) own signs accepts = absurd signs
MakesSignature-accepted t (change.Sign sequence number basis moment name meaning text) own signs accepts = subst (MakesSignature t (change.Sign sequence number basis moment name meaning text)) signs (makes-sign t sequence number basis moment name meaning text accepts)
