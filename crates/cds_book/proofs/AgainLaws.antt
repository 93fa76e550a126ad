-- A change that was carried out, asked for again, changes nothing.
use Rattle.std.proofs.Common.{◌≡◌, ◌∙◌, ℕ, ◌+◌, ◌-◌, ◌==◌, Bool, true, false, cond, inl, inr, List, [], ◌∷◌, ◌++◌, length, set, map, Option, Some, None, Result, Ok, option_map, refl, sym, ap, subst, arith, get_or-set_same}
use Rattle.std.specs.Prelude.{ok_or, slice_get, is_some, if◌then◌else◌, ◌||◌}
use Rattle.std.specs.Cmp.Lexicographic.{pointwise}
use Rattle.std.specs.Option.{option_map_or}
use Rattle.std.specs.Str.{bytes_eq}
use Rattle.std.proofs.lemmas.Bool.{cases_eq}
use Rattle.std.proofs.lemmas.Bool.Decides.{nat_tests}
use Rattle.std.proofs.lemmas.List.{length-append, length-set}
use Rattle.std.proofs.lemmas.Option.{slice_get-get_or, slice_get_within}
use Rattle.std.proofs.lemmas.Slice.Eq.{bytes_eq-Decides}
use Rattle.cds_base.specs.Answers.{◌>>=◌}
use Rattle.cds_base.specs.declared.event.Event.{Event}
use Rattle.cds_base.proofs.NamedLaws.{bytes_eq-self, named-map}
use Rattle.cds_sign.specs.declared.command.Change.{Change}
use Rattle.cds_sign.specs.declared.command.Change.TheVariants as change
use Rattle.cds_sign.specs.declared.command.Command.TheVariants as command
use Rattle.cds_sign.specs.declared.asked.AskedRow.{AskedRow}
use Rattle.cds_sign.specs.declared.row.Row.{Row}
use Rattle.cds_sign.specs.declared.sequence.Sequence.{Sequence}
use Rattle.cds_sign.specs.declared.signed.Signed.{Signed}
use Rattle.cds_sign.specs.declared.inputs.Inputs.{Inputs}
use Rattle.cds_book.specs.Held.{bindings_over}
use Rattle.cds_book.specs.Inputs.{bindings_of, inputs_in}
use Rattle.cds_book.specs.Judged.{must, can_bind, each_judged, edition_of, method_judged, standard_judged, standards_judged, trace_judged, row_judged, rows_judged, sequence_judged, sign_judged, says_same, new_judged}
use Rattle.cds_book.specs.Plan.{planned, applied, carried, raised, inputs_differ, has_content, is_kept, other_planned, sequence_planned, events_planned, rebind_planned, signature_planned, sign_planned, row_at, asked_of, command_of, same_signal, sequence_put, with_changed, with_events, with_sequence, with_signature, sequence_made, signature}
use Rattle.cds_book.specs.Same.{same_events}
use Rattle.cds_book.specs.Tables.{NamedSequence, TablesState, numbered, signals_of, draft_of, texts_of, sequence_named, sequence_of, signatures_of, signed_of}
use Rattle.cds_book.specs.declared.command.Plan.{Plan}
use Rattle.cds_book.specs.declared.command.Plan.TheVariants as plan
use Rattle.cds_book.specs.declared.command.SignPlan.{SignPlan}
use Rattle.cds_book.specs.declared.command.SignPlan.TheVariants as sign
use Rattle.cds_book.specs.declared.error.PlanError.{PlanError}
use Rattle.cds_book.specs.declared.error.PlanError.TheVariants.{NoSequence, NoRow, NoVersion}
use Rattle.cds_book.proofs.AcceptedLaws.{there-some}
use Rattle.cds_book.proofs.AskedLaws.{judges}
use Rattle.cds_book.proofs.BindingLaws.{bindings-sign, sequences-put}
use Rattle.cds_book.proofs.ContentLaws.{there-found, must-so, next-signed}
use Rattle.cds_book.proofs.MethodLaws.{carried-draft, carried-freeze, draft_of-with, texts_of-with, planned-same_draft, planned-latest_text, IsNewText-accepted}
use Rattle.cds_book.proofs.PlanLaws.{follows, PlansSequence-planned}
use Rattle.cds_book.proofs.RaisedLaws.{applied-same}
use Rattle.cds_book.proofs.SameLaws.{same_events-Decides, same_rows-Decides}
use Rattle.cds_book.proofs.SequenceLaws.{sequence-signed, sequence_name, sequence_named-with, sequence_of-with, signatures_of-with}
use Rattle.cds_book.proofs.TraceLaws.{carried-trace, planned-latest_trace, signals_of-with}
use Rattle.cds_book.proofs.VersionLaws.{is_latest-push, latest-push, same_signal-Decides}

-- a change is planned for the command that it carries out
abbrev pub Planned : TablesState → Change → Type 0
Planned t c = planned t (command_of c) ≡ Ok (plan.Change c)

-- bases that rise leave the traces and the methods
traces-applied : (t : TablesState) (c : Change) (name : List ℕ) → signals_of (applied t c) name ≡ signals_of (carried t c) name
unfolding applied signals_of
traces-applied t c name = refl

draft-applied : (t : TablesState) (c : Change) (name : List ℕ) → draft_of (applied t c) name ≡ draft_of (carried t c) name
unfolding applied draft_of
draft-applied t c name = refl

texts-applied : (t : TablesState) (c : Change) (name : List ℕ) → texts_of (applied t c) name ≡ texts_of (carried t c) name
unfolding applied texts_of
texts-applied t c name = refl

-- a part that was judged, and what follows it
after-ok : {X Y : Type 0} (r : Result X PlanError) (x : X) (f : X → Result Y PlanError) → r ≡ Ok x → (r >>= f) ≡ f x
after-ok {X = X} r x f is = ap (λ (q : Result X PlanError). q >>= f) is

-- by how much a change raises the basis of a sequence, and the sequence of a name after the change
abbrev pub risen : TablesState → Change → NamedSequence → NamedSequence
risen t c e = raised (inputs_differ t (carried t c) e.name) e

pub sequence_of-applied : (t : TablesState) (c : Change) (name : List ℕ) → sequence_of (applied t c) name ≡ option_map (λ (e : NamedSequence). (risen t c e).sequence) (sequence_named (carried t c) name)
unfolding applied sequence_of
sequence_of-applied t c name =
    let raise : NamedSequence → NamedSequence = λ e. raised (inputs_differ t (carried t c) e.name) e in
    ap (option_map (λ (e : NamedSequence). e.sequence)) (named-map raise sequence_name (carried t c).sequences name) ∙ by_found (sequence_named (carried t c) name)
  where
    by_found : (found : Option NamedSequence) → option_map (λ (e : NamedSequence). e.sequence) (option_map (λ (e : NamedSequence). raised (inputs_differ t (carried t c) e.name) e) found) ≡ option_map (λ (e : NamedSequence). (raised (inputs_differ t (carried t c) e.name) e).sequence) found
    by_found None = refl
    by_found (Some e) = refl

-- whether a name has a sequence is as before the bases rise
there-applied : (t : TablesState) (c : Change) (name : List ℕ) → is_some (sequence_of (applied t c) name) ≡ is_some (sequence_of (carried t c) name)
unfolding sequence_of
there-applied t c name = ap is_some (sequence_of-applied t c name) ∙ by_found (sequence_named (carried t c) name)
  where
    by_found : (found : Option NamedSequence) → is_some (option_map (λ (e : NamedSequence). (raised (inputs_differ t (carried t c) e.name) e).sequence) found) ≡ is_some (option_map (λ (e : NamedSequence). e.sequence) found)
    by_found None = refl
    by_found (Some e) = refl

-- the tables once a sequence was made, and bases rose
module _ (t : TablesState) (c : Change) (name : List ℕ) (q : Sequence) (signed : List Signed) (is : carried t c ≡ with_sequence t name q signed) where
  -- the sequence with its new basis
  abbrev pub new_one : Sequence
  new_one = record q { basis = q.basis + (if inputs_differ t (carried t c) name then 1 else 0) }

  pub sequence_of-made : sequence_of (applied t c) name ≡ Some new_one
  sequence_of-made =
      sequence_of-applied t c name
      ∙ ap (λ (s : TablesState). option_map (λ (e : NamedSequence). (risen t c e).sequence) (sequence_named s name)) is
      ∙ ap (option_map (λ (e : NamedSequence). (risen t c e).sequence)) (sequence_named-with t name q signed)

  -- each sequence is still there
  pub there-made : (n : List ℕ) → is_some (sequence_of t n) ≡ true → is_some (sequence_of (applied t c) n) ≡ true
  there-made n there =
      there-applied t c n ∙ ap (λ (s : TablesState). is_some (sequence_of s n)) is ∙ sym (ap is_some (sequences-put t name q signed n)) ∙ by_name (bytes_eq name n)
    where
      by_name : (b : Bool) → is_some (if b then Some q else sequence_of t n) ≡ true
      by_name true = refl
      by_name false = there

  -- traces and methods stay
  pub shape-made : applied t c ≡ record t { sequences = (applied t c).sequences }
  unfolding applied
  shape-made = ap (λ (s : TablesState). record s { sequences = (applied t c).sequences }) is

-- what is judged one after the other where each is judged the same
each_judged-more : {A B : Type 0} (f g : List B → A → Result B PlanError) → ((done : List B) (x : A) (y : B) → f done x ≡ Ok y → g done x ≡ Ok y)
    → (done : List B) (xs : List A) (ys : List B) → each_judged f done xs ≡ Ok ys → each_judged g done xs ≡ Ok ys
unfolding each_judged
each_judged-more f g more done [] ys is = is
each_judged-more f g more done (x ∷ xs) ys is =
    let one = judges (f done x) (λ y. each_judged f (done ++ y ∷ []) xs) ys is in
    after-ok (g done x) one.value (λ y. each_judged g (done ++ y ∷ []) xs) (more done x one.value one.judged)
    ∙ each_judged-more f g more (done ++ one.value ∷ []) xs ys one.rest

-- equal names
names-self : (names : List (List ℕ)) → pointwise bytes_eq names names ≡ true
names-self [] = refl
names-self (n ∷ ns) = rw (bytes_eq-self n) (names-self ns)

nat-self : (n : ℕ) → (n == n) ≡ true
nat-self n = grind (arith, nat_tests)

-- the tables with other sequences, among which is each that was there
module _ (t : TablesState) (ss : List NamedSequence) (name : List ℕ) (q : Sequence) (is : sequence_of (record t { sequences = ss }) name ≡ Some q)
    (has : (n : List ℕ) → is_some (sequence_of t n) ≡ true → is_some (sequence_of (record t { sequences = ss }) n) ≡ true) where
  abbrev other_tables : TablesState
  other_tables = record t { sequences = ss }

  -- a listed sequence is there
  standard-again : (x y : List ℕ) → standard_judged t name x ≡ Ok y → standard_judged other_tables name x ≡ Ok y
  unfolding standard_judged
  standard-again x y judged =
      let before = bytes_eq x name || is_some (sequence_of t x) in
      let after = bytes_eq x name || is_some (sequence_of other_tables x) in
      let one = judges (must (NoSequence x) before) (λ _. Ok x) y judged in
      let so : before ≡ true = must-so (NoSequence x) before one.value one.judged in
      let still : after ≡ true = by_name (bytes_eq x name) so in
      after-ok (must (NoSequence x) after) tt (λ _. Ok x) (ap (must (NoSequence x)) still) ∙ one.rest
    where
      by_name : (b : Bool) → (b || is_some (sequence_of t x)) ≡ true → (b || is_some (sequence_of other_tables x)) ≡ true
      by_name true so = refl
      by_name false so = has x so

  standards-again : (standards listed : List (List ℕ)) → standards_judged t name standards ≡ Ok listed → standards_judged other_tables name standards ≡ Ok listed
  unfolding standards_judged
  standards-again standards listed judged = each_judged-more (λ _. standard_judged t name) (λ _. standard_judged other_tables name) (λ _ x y. standard-again x y) [] standards listed judged

  rows-again : (asked : List AskedRow) → rows_judged other_tables asked ≡ rows_judged t asked
  unfolding rows_judged row_judged trace_judged signals_of
  rows-again asked = refl

  method-again : (method : List ℕ) (version : ℕ) → method_judged other_tables method version ≡ method_judged t method version
  unfolding method_judged draft_of texts_of
  method-again method version = refl

  texts-again : (method : List ℕ) → texts_of other_tables method ≡ texts_of t method
  unfolding texts_of
  texts-again method = refl

  -- the sequence is there
  found-again : sequence_judged other_tables name ≡ Ok q
  unfolding sequence_judged
  found-again = ap (λ (o : Option Sequence). ok_or o (NoSequence name)) is

  pub put-again : (edition : ℕ) (method : List ℕ) (version : ℕ) (standards : List (List ℕ)) (rows : List Row) → method_judged t method version ≡ Ok tt → standards_judged t name standards ≡ Ok standards → rows_judged t (map asked_of rows) ≡ Ok rows
      → has_content method version standards rows q ≡ true → planned other_tables (command.Sequence name edition method version standards (map asked_of rows)) ≡ Ok plan.Unchanged
  unfolding planned sequence_planned is_kept
  put-again edition method version standards rows methods listed asked same =
      let last : List (List ℕ) → List Row → Result Plan PlanError = λ ls rs. cond (is_kept other_tables name method version ls rs) (Ok plan.Unchanged) (other_planned other_tables name edition (change.Sequence name edition method version ls rs)) in
      let then_rows : List (List ℕ) → Result Plan PlanError = λ ls. rows_judged other_tables (map asked_of rows) >>= λ rs. last ls rs in
      after-ok (method_judged other_tables method version) tt (λ _. standards_judged other_tables name standards >>= then_rows) (method-again method version ∙ methods)
      ∙ after-ok (standards_judged other_tables name standards) standards then_rows (standards-again standards standards listed)
      ∙ after-ok (rows_judged other_tables (map asked_of rows)) rows (λ rs. last standards rs) (rows-again (map asked_of rows) ∙ asked)
      ∙ ap (λ b. cond b (Ok plan.Unchanged) (other_planned other_tables name edition (change.Sequence name edition method version standards rows)))
      (ap (λ (o : Option Sequence). option_map_or (has_content method version standards rows) o false) is ∙ same)

  pub events-again : (edition row : ℕ) (events : List Event) (r : Row) → numbered q.rows row ≡ Some r → r.events ≡ events → planned other_tables (command.Events name edition row events) ≡ Ok plan.Unchanged
  unfolding planned events_planned row_at
  events-again edition row events r found same =
      let last : Row → Result Plan PlanError = λ x. cond (same_events x.events events) (Ok plan.Unchanged) (other_planned other_tables name edition (change.Events name edition row events)) in
      after-ok (sequence_judged other_tables name) q (λ s. row_at s row >>= last) found-again
      ∙ after-ok (row_at q row) r last (ap (λ (o : Option Row). ok_or o (NoRow row)) found)
      ∙ ap (λ b. cond b (Ok plan.Unchanged) (other_planned other_tables name edition (change.Events name edition row events))) ((same_events-Decides r.events events).1 same)

  pub rebind-again : (edition version : ℕ) (u : Unit {0}) → must (NoVersion q.method) (can_bind (length (texts_of t q.method)) version) ≡ Ok u → q.version ≡ version → planned other_tables (command.Rebind name edition version) ≡ Ok plan.Unchanged
  unfolding planned rebind_planned
  rebind-again edition version u fit same =
      let last : Sequence → Unit {0} → Result Plan PlanError = λ s _. cond (s.version == version) (Ok plan.Unchanged) (other_planned other_tables name edition (change.Rebind name edition version)) in
      let fits : Sequence → Result (Unit {0}) PlanError = λ s. must (NoVersion s.method) (can_bind (length (texts_of other_tables s.method)) version) in
      after-ok (sequence_judged other_tables name) q (λ s. fits s >>= last s) found-again
      ∙ after-ok (fits q) u (last q) (ap (λ (ts : List (List ℕ)). must (NoVersion q.method) (can_bind (length ts) version)) (texts-again q.method) ∙ fit)
      ∙ ap (λ b. cond b (Ok plan.Unchanged) (other_planned other_tables name edition (change.Rebind name edition version))) (ap (λ n. n == version) same ∙ nat-self version)

-- a sequence has the content with which it was put
content-self : (q : Sequence) → has_content q.method q.version q.standards q.rows q ≡ true
content-self q = rw (bytes_eq-self q.method, nat-self q.version, names-self q.standards, (same_rows-Decides q.rows q.rows).1 refl) refl

-- the row whose events were put
numbered-put : (rows : List Row) (row : ℕ) (events : List Event) (r : Row) → numbered rows row ≡ Some r → numbered (with_events rows row events) row ≡ Some (record r { events = events })
numbered-put rows row events r found = elim (cases_eq row 0) [
  | inl none ↦ let contrary : None ≡ Some r = ap (numbered rows) (sym none) ∙ found in cc
  | inr some ↦
      let test : (row == 0) ≡ false = grind (arith, nat_tests) in
      let x : Row = record r { events = events } in
      let at : slice_get rows (row - 1) ≡ Some r = rw test at found in
      let within = slice_get_within rows (row - 1) r at in
      let long = length-set rows (row - 1) x in
      let are : with_events rows row events ≡ set rows (row - 1) x = ap (λ (o : Option Row). option_map_or (λ (y : Row). set rows (row - 1) (record y { events = events })) o rows) found in
      ap (λ (rs : List Row). numbered rs row) are
      ∙ ap (λ b. cond b None (slice_get (set rows (row - 1) x) (row - 1))) test
      ∙ slice_get-get_or (set rows (row - 1) x) (row - 1) x (omega (arith, within, long))
      ∙ ap Some (get_or-set_same rows (row - 1) x x within)
]

-- the last of all has the number of how many there are
numbered-last : {X : Type 0} (xs : List X) (x : X) → numbered (xs ++ x ∷ []) (length xs + 1) ≡ Some x
numbered-last xs x =
    let test : (length xs + 1 == 0) ≡ false = grind (arith, nat_tests) in
    let long = length-append xs (x ∷ []) in
    let same : length xs + 1 ≡ length (xs ++ x ∷ []) = omega (arith, long) in
    ap (λ b. cond b None (slice_get (xs ++ x ∷ []) (length xs + 1 - 1))) test ∙ ap (λ n. slice_get (xs ++ x ∷ []) (n - 1)) same ∙ latest-push xs x

-- changes of sequences, asked for again
again-put : (t : TablesState) (name : List ℕ) (edition : ℕ) (method : List ℕ) (version : ℕ) (standards : List (List ℕ)) (rows : List Row) → Planned t (change.Sequence name edition method version standards rows)
    → planned (applied t (change.Sequence name edition method version standards rows)) (command.Sequence name edition method version standards (map asked_of rows)) ≡ Ok plan.Unchanged
unfolding planned sequence_made
again-put t name edition method version standards rows accepts =
    let c = change.Sequence name edition method version standards rows in
    let plans = PlansSequence-planned t name edition method version standards (map asked_of rows) c accepts in
    let one : plans.listed ≡ standards = let same = plans.is in cc in
    let two : plans.rows ≡ rows = let same = plans.is in cc in
    let made = sequence_put t name method version standards rows in
    let q = new_one t c name made (signatures_of t name) refl in
    let shape = shape-made t c name made (signatures_of t name) refl in
    subst (λ (s : TablesState). planned s (command.Sequence name edition method version standards (map asked_of rows)) ≡ Ok plan.Unchanged) (sym shape)
    (put-again t (applied t c).sequences name q (ap (λ (s : TablesState). sequence_of s name) (sym shape) ∙ sequence_of-made t c name made (signatures_of t name) refl)
    (λ n there. ap (λ (s : TablesState). is_some (sequence_of s n)) (sym shape) ∙ there-made t c name made (signatures_of t name) refl n there)
    edition method version standards rows plans.methods (plans.standards_are ∙ ap Ok one) (plans.rows_are ∙ ap Ok two) (content-self q))

again-events : (t : TablesState) (name : List ℕ) (edition row : ℕ) (events : List Event) → Planned t (change.Events name edition row events) → planned (applied t (change.Events name edition row events)) (command.Events name edition row events) ≡ Ok plan.Unchanged
unfolding planned events_planned sequence_judged row_at sequence_made
again-events t name edition row events accepts =
    let c = change.Events name edition row events in
    let last : Row → Result Plan PlanError = λ r. cond (same_events r.events events) (Ok plan.Unchanged) (other_planned t name edition c) in
    let one = follows (sequence_judged t name) (λ s. row_at s row >>= last) c accepts in
    let two = follows (row_at one.value row) last c one.rest in
    let there = there-found (sequence_of t name) (NoSequence name) one.value one.judged in
    let found = there-found (numbered one.value.rows row) (NoRow row) two.value two.judged in
    let f : Sequence → Sequence = λ s. record s { edition = edition_of t name + 1; rows = with_events s.rows row events } in
    let made = f one.value in
    let signed = signatures_of t name in
    let is : carried t c ≡ with_sequence t name made signed = ap (λ o. with_changed t name (option_map f o)) there in
    let q = new_one t c name made signed is in
    let shape = shape-made t c name made signed is in
    subst (λ (s : TablesState). planned s (command.Events name edition row events) ≡ Ok plan.Unchanged) (sym shape)
    (events-again t (applied t c).sequences name q (ap (λ (s : TablesState). sequence_of s name) (sym shape) ∙ sequence_of-made t c name made signed is)
    (λ n there. ap (λ (s : TablesState). is_some (sequence_of s n)) (sym shape) ∙ there-made t c name made signed is n there)
    edition row events (record two.value { events = events }) (numbered-put one.value.rows row events two.value found) refl)

again-rebind : (t : TablesState) (name : List ℕ) (edition version : ℕ) → Planned t (change.Rebind name edition version) → planned (applied t (change.Rebind name edition version)) (command.Rebind name edition version) ≡ Ok plan.Unchanged
unfolding planned rebind_planned sequence_judged sequence_made
again-rebind t name edition version accepts =
    let c = change.Rebind name edition version in
    let last : Sequence → Unit {0} → Result Plan PlanError = λ s _. cond (s.version == version) (Ok plan.Unchanged) (other_planned t name edition c) in
    let fits : Sequence → Result (Unit {0}) PlanError = λ s. must (NoVersion s.method) (can_bind (length (texts_of t s.method)) version) in
    let one = follows (sequence_judged t name) (λ s. fits s >>= last s) c accepts in
    let two = follows (fits one.value) (last one.value) c one.rest in
    let there = there-found (sequence_of t name) (NoSequence name) one.value one.judged in
    let f : Sequence → Sequence = λ s. record s { edition = edition_of t name + 1; version = version } in
    let made = f one.value in
    let signed = signatures_of t name in
    let is : carried t c ≡ with_sequence t name made signed = ap (λ o. with_changed t name (option_map f o)) there in
    let q = new_one t c name made signed is in
    let shape = shape-made t c name made signed is in
    subst (λ (s : TablesState). planned s (command.Rebind name edition version) ≡ Ok plan.Unchanged) (sym shape)
    (rebind-again t (applied t c).sequences name q (ap (λ (s : TablesState). sequence_of s name) (sym shape) ∙ sequence_of-made t c name made signed is)
    (λ n there. ap (λ (s : TablesState). is_some (sequence_of s n)) (sym shape) ∙ there-made t c name made signed is n there)
    edition version two.value two.judged refl)

-- a signature has the next number
next-planned : (t : TablesState) (c asked : Change) (sequence : List ℕ) (basis number : ℕ) (name meaning : List ℕ) (p : SignPlan) → sign_judged t sequence basis number name meaning ≡ Ok p → sign_planned t asked p ≡ Ok (plan.Change c) → number ≡ length (signatures_of t sequence) + 1
next-planned t c asked sequence basis number name meaning (sign.Kept n) judged is = cc
next-planned t c asked sequence basis number name meaning sign.New judged is = next-signed t sequence basis number name meaning judged

-- a signature is kept under its number
pub kept-again : (t : TablesState) (sequence : List ℕ) (number basis moment : ℕ) (name meaning text : List ℕ) → Planned t (change.Sign sequence number basis moment name meaning text)
    → sign_judged (applied t (change.Sign sequence number basis moment name meaning text)) sequence basis number name meaning ≡ Ok (sign.Kept number)
unfolding planned signature_planned sign_judged sequence_judged bindings_over
kept-again t sequence number basis moment name meaning text accepts =
    let c = change.Sign sequence number basis moment name meaning text in
    let one = follows (sign_judged t sequence basis number name meaning) (sign_planned t c) c accepts in
    let next = next-planned t c c sequence basis number name meaning one.value one.judged one.rest in
    let there = there-some (sequence_of t sequence) (sequence-signed t sequence basis number name meaning one.value one.judged) in
    let over : Inputs → Signed = signature number basis moment name meaning text in
    let made = over (inputs_in (bindings_of t) there.0) in
    let signed = signatures_of t sequence ++ made ∷ [] in
    let w = with_sequence t sequence there.0 signed in
    let is : carried t c ≡ w = ap (with_signature t sequence over) there.1 in
    let same : says_same basis name meaning made ≡ true = rw (nat-self basis, bytes_eq-self name, bytes_eq-self meaning) refl in
    let found : signed_of w sequence number ≡ Some made = ap (λ (xs : List Signed). numbered xs number) (signatures_of-with t sequence there.0 signed) ∙ ap (numbered signed) next ∙ numbered-last (signatures_of t sequence) made in
    let kept : sign_judged w sequence basis number name meaning ≡ Ok (sign.Kept number) =
    after-ok (sequence_judged w sequence) there.0 (λ s. cond (option_map_or (says_same basis name meaning) (signed_of w sequence number) false) (Ok (sign.Kept number)) (new_judged w sequence s.basis basis number))
    (ap (λ (o : Option Sequence). ok_or o (NoSequence sequence)) (sequence_of-with t sequence there.0 signed))
    ∙ ap (λ b. cond b (Ok (sign.Kept number)) (new_judged w sequence there.0.basis basis number)) (ap (λ (o : Option Signed). option_map_or (says_same basis name meaning) o false) found ∙ same) in
    subst (λ (s : TablesState). sign_judged s sequence basis number name meaning ≡ Ok (sign.Kept number)) (sym (applied-same t c (bindings-sign t sequence over (sequence_of t sequence) refl) ∙ is)) kept

again-sign : (t : TablesState) (sequence : List ℕ) (number basis moment : ℕ) (name meaning text : List ℕ) → Planned t (change.Sign sequence number basis moment name meaning text)
    → planned (applied t (change.Sign sequence number basis moment name meaning text)) (command.Sign sequence number basis moment name meaning text) ≡ Ok plan.Unchanged
unfolding planned signature_planned
again-sign t sequence number basis moment name meaning text accepts =
    let c = change.Sign sequence number basis moment name meaning text in
    after-ok (sign_judged (applied t c) sequence basis number name meaning) (sign.Kept number) (sign_planned (applied t c) c) (kept-again t sequence number basis moment name meaning text accepts)

-- a change that was carried out, asked for again, changes nothing
pub planned-again : (t : TablesState) (c : Change) → Planned t c → planned (applied t c) (command_of c) ≡ Ok plan.Unchanged
planned-again t (change.Trace name signal) accepts =
    let c = change.Trace name signal in
    let versions = signals_of t name ++ signal ∷ [] in
    let are : signals_of (applied t c) name ≡ versions = traces-applied t c name ∙ ap (λ after. signals_of after name) (carried-trace t name signal) ∙ signals_of-with t name versions in
    planned-latest_trace (applied t c) name signal versions (sym are) (sym (is_latest-push same_signal same_signal-Decides (signals_of t name) signal))
planned-again t (change.Draft name text) accepts =
    let c = change.Draft name text in
    let is : draft_of (applied t c) name ≡ Some text = draft-applied t c name ∙ ap (λ after. draft_of after name) (carried-draft t name text) ∙ draft_of-with t name text (texts_of t name) in
    planned-same_draft (applied t c) name text text refl (Some text) (sym is) (sym (bytes_eq-self text))
planned-again t (change.Freeze name version) accepts =
    let c = change.Freeze name version in
    let new = IsNewText-accepted t name version accepts in
    let texts = texts_of t name ++ new.draft ∷ [] in
    let same = carried-freeze t name version new.draft new.is in
    let is : draft_of (applied t c) name ≡ Some new.draft = draft-applied t c name ∙ ap (λ after. draft_of after name) same ∙ draft_of-with t name new.draft texts in
    let are : texts_of (applied t c) name ≡ texts = texts-applied t c name ∙ ap (λ after. texts_of after name) same ∙ texts_of-with t name new.draft texts in
    planned-latest_text (applied t c) name version new.draft (sym is) texts (sym are) (sym (is_latest-push bytes_eq bytes_eq-Decides (texts_of t name) new.draft))
planned-again t (change.Sequence name edition method version standards rows) accepts = again-put t name edition method version standards rows accepts
planned-again t (change.Events name edition row events) accepts = again-events t name edition row events accepts
planned-again t (change.Rebind name edition version) accepts = again-rebind t name edition version accepts
planned-again t (change.Sign sequence number basis moment name meaning text) accepts = again-sign t sequence number basis moment name meaning text accepts
