-- The parts of an accepted change are in their ranges.
use Rattle.std.proofs.Common.{◌≡◌, ◌∙◌, ℕ, pos, ◌+◌, ◌-◌, ◌≤◌, ◌==◌, Bool, true, false, cond, List, [], ◌∷◌, length, map, Option, Some, None, Result, Ok, Err, option_map, refl, sym, ap, subst, arith}
use Rattle.std.specs.Prelude.{All, ok_or, slice_get, if◌then◌else◌}
use Rattle.std.specs.Option.{option_map_or}
use Rattle.std.proofs.lemmas.Bool.{cases_eq}
use Rattle.std.proofs.lemmas.Bool.Decides.{nat_tests}
use Rattle.std.proofs.lemmas.Option.{slice_get_within}
use Rattle.std.proofs.lemmas.List.{length-map}
use Rattle.std.proofs.lemmas.List.Elements.{All-nil, All-cons, All-head, All-tail}
use Rattle.std.proofs.lemmas.Simd.{map-map}
use Rattle.std.proofs.Common.{inl, inr}
use Rattle.cds_base.specs.declared.event.Event.{Event}
use Rattle.cds_base.specs.Answers.{Gives, ◌>>=◌}
use Rattle.cds_base.proofs.NamedLaws.{named-All}
use Rattle.cds_sign.specs.Ranges.{IsWithin, AreAmountNames, IsAskedRow, IsRow, IsChange}
use Rattle.cds_sign.specs.declared.command.Change.{Change}
use Rattle.cds_sign.specs.declared.command.Change.TheVariants as change
use Rattle.cds_sign.specs.declared.command.Command.{Command}
use Rattle.cds_sign.specs.declared.limits.TheConstants.{MOST_ROWS, MOST_SIGNATURES}
use Rattle.cds_sign.specs.declared.row.Row.{Row}
use Rattle.cds_sign.specs.declared.sequence.Sequence.{Sequence}
use Rattle.cds_book.specs.Judged.{must, sequence_judged, sign_judged, says_same, new_judged}
use Rattle.cds_book.specs.Kept.{IsTables, IsSequenceEntry, signed_bytes_in_all}
use Rattle.cds_book.specs.Plan.{planned, carried, counts_of, limit_passed, unless_full, events_planned, other_planned, row_at, signature_planned, sign_planned, asked_of, Accepts, PlansContent, IsCommand}
use Rattle.cds_book.specs.Same.{same_events}
use Rattle.cds_book.specs.Tables.{NamedSequence, TablesState, numbered, sequence_named, sequence_of, signatures_of, signed_of}
use Rattle.cds_book.specs.declared.command.Plan.{Plan}
use Rattle.cds_book.specs.declared.command.Plan.TheVariants as plan
use Rattle.cds_book.specs.declared.command.SignPlan.{SignPlan}
use Rattle.cds_book.specs.declared.command.SignPlan.TheVariants as sign
use Rattle.cds_book.specs.declared.error.PlanError.{PlanError}
use Rattle.cds_book.specs.declared.error.PlanError.TheVariants.{NoSequence, NoRow, Number, Basis, NoMemory}
use Rattle.cds_book.proofs.AskedLaws.{judges, RowAmounts, rows-asked}
use Rattle.cds_book.proofs.PlanLaws.{PlansSequence-planned, AnswersAccepted-planned, freeze-numbered}
use Rattle.cds_book.proofs.SequenceLaws.{counts-sign, sequence-signed}
use Rattle.cds_book.proofs.VersionLaws.{AreWithin, AreWithin-none}

-- a row whose amounts are in their range, and which may be asked
IsRow-asked : (r : Row) → IsAskedRow (asked_of r) → RowAmounts r → IsRow r
IsRow-asked r asked amounts = record {
  label = asked.label;
  trace = asked.trace;
  version = asked.version;
  u = asked.u;
  v = asked.v;
  amounts = subst AreAmountNames (map-map (λ a. a.0) (λ (a : List ℕ × ℕ). (a.0, pos a.1)) r.amounts) asked.amounts;
  each = amounts;
  events = asked.events;
}

rows-kept : (rows : List Row) → All IsAskedRow (map asked_of rows) → All RowAmounts rows → All IsRow rows
rows-kept [] asked amounts = All-nil IsRow
rows-kept (r ∷ rs) asked amounts = All-cons IsRow r rs (IsRow-asked r (All-head IsAskedRow _ _ asked) (All-head RowAmounts r rs amounts)) (rows-kept rs (All-tail IsAskedRow _ _ asked) (All-tail RowAmounts r rs amounts))

-- a sequence of the tables is kept
pub entry-kept : (t : TablesState) → IsTables t → (name : List ℕ) (s : Sequence) → sequence_of t name ≡ Some s → length s.rows ≤ MOST_ROWS
unfolding sequence_of
entry-kept t kept name s = by_found (sequence_named t name) refl
  where
    by_found : (found : Option NamedSequence) → sequence_named t name ≡ found → option_map (λ (e : NamedSequence). e.sequence) found ≡ Some s → length s.rows ≤ MOST_ROWS
    by_found None there is = cc
    by_found (Some e) there is =
        let one : e.sequence ≡ s = cc in
        subst (λ (q : Sequence). length q.rows ≤ MOST_ROWS) one (named-All (λ (e : NamedSequence). e.name) IsSequenceEntry t.sequences name e kept.sequences.each there).rows.ranges.count.few

-- a numbered item has a number from 1 to how many there are
numbered-within : {X : Type 0} (xs : List X) (n : ℕ) (x : X) → numbered xs n ≡ Some x → (1 ≤ n) × (n ≤ length xs)
numbered-within xs n x is = elim (cases_eq n 0) [
  | inl none ↦ let contrary : None ≡ Some x = ap (numbered xs) (sym none) ∙ is in cc
  | inr some ↦
      let test : (n == 0) ≡ false = grind (arith, nat_tests) in
      let found : slice_get xs (n - 1) ≡ Some x = rw test at is in
      let within = slice_get_within xs (n - 1) x found in
      (omega arith, omega (arith, within))
]

-- what was found is there
pub there-found : {X : Type 0} (o : Option X) (e : PlanError) (x : X) → ok_or o e ≡ Ok x → o ≡ Some x
there-found None e x is = cc
there-found (Some y) e x is = cc

-- the row of events that are planned
row-planned : (t : TablesState) → IsTables t → (name : List ℕ) (edition row : ℕ) (events : List Event) (c : Change) → events_planned t name edition row events ≡ Ok (plan.Change c) → IsWithin 1 MOST_ROWS row
unfolding events_planned sequence_judged row_at
row-planned t kept name edition row events c is =
    let last : Row → Result Plan PlanError = λ r. cond (same_events r.events events) (Ok plan.Unchanged) (other_planned t name edition (change.Events name edition row events)) in
    let one = judges (ok_or (sequence_of t name) (NoSequence name)) (λ s. ok_or (numbered s.rows row) (NoRow row) >>= last) (plan.Change c) is in
    let two = judges (ok_or (numbered one.value.rows row) (NoRow row)) last (plan.Change c) one.rest in
    let few = entry-kept t kept name one.value (there-found _ _ one.value one.judged) in
    let within = numbered-within one.value.rows row two.value (there-found _ _ two.value two.judged) in
    record { enough = within.0; few = omega (arith, within.1, few) }

-- where a part must be so, it is
pub must-so : (e : PlanError) (b : Bool) (u : Unit {0}) → must e b ≡ Ok u → b ≡ true
must-so e true u is = refl
must-so e false u is = cc

-- a new signature has the next number
next-new : (t : TablesState) (sequence : List ℕ) (kept basis number : ℕ) (p : SignPlan) → new_judged t sequence kept basis number ≡ Ok p → number ≡ length (signatures_of t sequence) + 1
unfolding new_judged
next-new t sequence kept basis number p is =
    let next = length (signatures_of t sequence) + 1 in
    let first = must (Number next) (number == next) in
    let one = judges first (λ _. must (Basis kept) (basis == kept) >>= λ _. Ok sign.New) p is in
    let test : (number == next) ≡ true = must-so (Number next) (number == next) one.value one.judged in
    grind (arith, nat_tests, test)

pub next-signed : (t : TablesState) (sequence : List ℕ) (basis number : ℕ) (name meaning : List ℕ) → sign_judged t sequence basis number name meaning ≡ Ok sign.New → number ≡ length (signatures_of t sequence) + 1
unfolding sign_judged
next-signed t sequence basis number name meaning is =
    let kept_one = option_map_or (says_same basis name meaning) (signed_of t sequence number) false in
    let last : Sequence → Result SignPlan PlanError = λ s. cond kept_one (Ok (sign.Kept number)) (new_judged t sequence s.basis basis number) in
    let one = judges (sequence_judged t sequence) last sign.New is in
    by_test kept_one one.value.basis one.rest
  where
    by_test : (b : Bool) (kept : ℕ) → (if b then Ok (sign.Kept number) else new_judged t sequence kept basis number) ≡ Ok sign.New → number ≡ length (signatures_of t sequence) + 1
    by_test true kept is = cc
    by_test false kept is = next-new t sequence kept basis number sign.New is

-- a change that is planned passes no limit
pub unless_full-none : (limit : Option ℕ) (asked c : Change) → unless_full limit asked ≡ Ok (plan.Change c) → limit ≡ None
unless_full-none None asked c is = refl
unless_full-none (Some n) asked c is = cc

-- a signature that is planned has a number within the limit
number-planned : (t : TablesState) → IsTables t → (sequence : List ℕ) (number basis moment : ℕ) (name meaning text : List ℕ) (c : Change) → signature_planned t sequence number basis moment name meaning text ≡ Ok (plan.Change c) → number ≤ MOST_SIGNATURES
unfolding signature_planned
number-planned t kept sequence number basis moment name meaning text c is =
    let one = judges (sign_judged t sequence basis number name meaning) (sign_planned t (change.Sign sequence number basis moment name meaning text)) (plan.Change c) is in
    by_plan one.value one.judged one.rest
  where
    by_plan : (p : SignPlan) → sign_judged t sequence basis number name meaning ≡ Ok p → sign_planned t (change.Sign sequence number basis moment name meaning text) p ≡ Ok (plan.Change c) → number ≤ MOST_SIGNATURES
    by_plan (sign.Kept n) judged is = cc
    by_plan sign.New judged is =
        let asked = change.Sign sequence number basis moment name meaning text in
        let counts = counts_of asked (carried t asked) in
        let none : limit_passed counts ≡ None = unless_full-none (limit_passed counts) asked c is in
        let raised = counts-sign t kept sequence number basis moment name meaning text (signatures_of t sequence) (signed_bytes_in_all t.sequences) (length text) (sequence-signed t sequence basis number name meaning sign.New judged) refl refl refl in
        let within = subst AreWithin (sym raised) (AreWithin-none counts none) in
        let next = next-signed t sequence basis number name meaning judged in
        omega (arith, next, within.0)

-- the parts of an accepted change are in their ranges
pub IsChange-accepted : (t : TablesState) → IsTables t → (c : Change) → Accepts t c → IsChange c
unfolding planned
IsChange-accepted t kept (change.Trace name signal) accepts = accepts.command.0
IsChange-accepted t kept (change.Draft name text) accepts = accepts.command.0
IsChange-accepted t kept (change.Freeze name version) accepts = let within = freeze-numbered t name version accepts in (accepts.command.0, record { enough = within.0; few = within.1 })
IsChange-accepted t kept (change.Sequence name edition method version standards rows) accepts =
    let made = change.Sequence name edition method version standards rows in
    let plans = PlansSequence-planned t name edition method version standards (map asked_of rows) made accepts.accepted in
    let same : plans.rows ≡ rows = let is = plans.is in cc in
    let amounts = (rows-asked t (map asked_of rows) rows (plans.rows_are ∙ ap Ok same)).1 in
    let asked = accepts.command.0.1 in
    (accepts.command.0.0, record { count = subst (IsWithin 1 MOST_ROWS) (length-map rows asked_of) asked.count; each = rows-kept rows asked.each amounts })
IsChange-accepted t kept (change.Events name edition row events) accepts = (accepts.command.0, row-planned t kept name edition row events _ accepts.accepted)
IsChange-accepted t kept (change.Rebind name edition version) accepts = accepts.command.0
IsChange-accepted t kept (change.Sign sequence number basis moment name meaning text) accepts =
    let asked = accepts.command.0 in
    record {
      sequence = asked.sequence;
      number = record { enough = asked.number.enough; few = number-planned t kept sequence number basis moment name meaning text _ accepts.accepted };
      basis = asked.basis;
      moment = asked.moment;
      name = asked.name;
      meaning = asked.meaning;
      text = asked.text;
    }

-- it is so of what is answered
pub PlansContent-planned : (t : TablesState) → IsTables t → (asked : Command) (r : Result Plan PlanError) → IsCommand asked → Gives NoMemory (λ p. p) (planned t asked) r → PlansContent r
PlansContent-planned t kept asked (Ok plan.Unchanged) fit answers = tt
PlansContent-planned t kept asked (Ok (plan.Change c)) fit answers = IsChange-accepted t kept c (AnswersAccepted-planned t asked (Ok (plan.Change c)) fit answers)
PlansContent-planned t kept asked (Err e) fit answers = tt
