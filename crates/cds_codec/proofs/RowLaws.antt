-- Events, amounts and rows are read as they are written.
use Rattle.std.proofs.Common.{◌≡◌, ◌∙◌, ℕ, ◌^◌, ◌<◌, Bool, true, false, cond, List, [], ◌∷◌, ◌++◌, length, Option, Some}
use Rattle.std.proofs.Common.{refl, sym, ap, subst, append_assoc, arith, eq-eqb, find, inl, inr}
use Rattle.std.specs.Prelude.{All, ◌⊎◌, ⊤, ◌==◌, map}
use Rattle.std.proofs.lemmas.Bool.{eqb-true}
use Rattle.std.proofs.lemmas.Bool.Decides.{nat_tests}
use Rattle.std.proofs.lemmas.List.{length-map}
use Rattle.std.proofs.lemmas.List.Elements.{All-map, All-weaker}
use Rattle.cds_base.specs.EventParts.{event_parts}
use Rattle.cds_base.specs.EventRange.{EventRanges, is_event}
use Rattle.cds_base.specs.NameText.{IsName}
use Rattle.cds_base.specs.declared.event.Event.{Event}
use Rattle.cds_base.specs.declared.event.Event.TheVariants as timed
use Rattle.cds_base.specs.declared.event.TheConstants.{MOST_EVENTS}
use Rattle.cds_sign.specs.Ranges.{AreAmountNames, AreRows, AreStandards, IsRow, IsWithin}
use Rattle.cds_sign.specs.RowKinds.{kind_number}
use Rattle.cds_base.specs.declared.limits.TheConstants.{MOST_AMOUNT}
use Rattle.cds_sign.specs.declared.limits.TheConstants.{MOST_ROWS, MOST_STANDARDS, MOST_AMOUNTS, MOST_VERSIONS}
use Rattle.cds_sign.specs.declared.limits.TheConstants.{MOST_DILUTION}
use Rattle.cds_sign.specs.declared.row.Row.{Row}
use Rattle.cds_sign.specs.declared.row.RowKind.{RowKind}
use Rattle.cds_sign.specs.declared.row.RowKind.TheVariants as kinds
use Rattle.cds_codec.specs.Record.{bytes_of_32, byte_of_used, bytes_of_amount, bytes_of_event, bytes_of_few}
use Rattle.cds_codec.specs.Record.{bytes_of_many, bytes_of_name, bytes_of_row, bytes_of_three}
use Rattle.cds_codec.specs.Reading.{amount_at, amounts_at, are_different, are_rising, event_at, event_of, events_at}
use Rattle.cds_codec.specs.Reading.{has_parts, events_with, passing, ranged_event_of, row_at, row_front_at, row_kind_at}
use Rattle.cds_codec.specs.Reading.{row_kind_of, row_kinds, row_of, rows_at, standards_at, used_at, used_of}
use Rattle.cds_codec.specs.declared.rows.RowFront.{RowFront}
use Rattle.cds_codec.proofs.FieldLaws.{some_is, then_some, passed_some, IsField, IsField-both, IsField-through}
use Rattle.cds_codec.proofs.FieldLaws.{IsField-as, IsField-passing, IsField-counted, IsField-items, IsField-byte}
use Rattle.cds_codec.proofs.FieldLaws.{IsField-32, IsField-32_in, IsField-few, IsField-name}
use Rattle.cds_codec.proofs.Lengths.{names-amounts}
use Rattle.cds_codec.proofs.PairLaws.{both_passed, rising_passed, rising_pass, different_passed, different_pass}

-- one of two answers
chosen : {A : Type 0} (b : Bool) (x : A) (o : Option A) (y : A) → cond b (Some x) o ≡ Some y
    → ((b ≡ true) × (x ≡ y)) ⊎ (o ≡ Some y)
chosen true x o y e = inl (refl, some_is x y e)
chosen false x o y e = inr e

-- what is found passes the test
find_passes : {A : Type 0} (test : A → Bool) (xs : List A) (x : A) → find test xs ≡ Some x → test x ≡ true
find_passes test [] x e = absurd cc
find_passes test (y ∷ ys) x e = elim (chosen (test y) y (find test ys) x e) [
  | inl p ↦ rw (← p.1) p.0
  | inr e ↦ find_passes test ys x e
]

-- a kind of rows
kind_stated : (byte : ℕ) (kind : RowKind) → row_kind_of byte ≡ Some kind → byte ∷ [] ≡ kind_number kind ∷ []
kind_stated byte kind e =
    let is = eqb-true (kind_number kind) byte (find_passes (λ kind. kind_number kind == byte) row_kinds kind e) in
    ap (λ (n : ℕ). n ∷ []) (sym is)

IsField-kind : IsField row_kind_at (λ kind. kind_number kind ∷ []) (λ kind. ⊤)
unfolding row_kind_at
IsField-kind = IsField-through IsField-byte row_kind_of (λ kind. kind_number kind ∷ []) (λ kind. ⊤)
    (λ byte kind p e. (kind_stated byte kind e, tt)) back
  where
    back : (kind : RowKind) → ⊤
        → (byte : ℕ) × (byte < 256) × (row_kind_of byte ≡ Some kind) × (kind_number kind ∷ [] ≡ byte ∷ [])
    back kinds.Blank h = (1, omega arith, refl, refl)
    back kinds.Standard h = (2, omega arith, refl, refl)
    back kinds.Replicate h = (3, omega arith, refl, refl)
    back kinds.Sample h = (4, omega arith, refl, refl)

-- whether a row is used
used_stated : (byte : ℕ) (used : Bool) → used_of byte ≡ Some used → byte ∷ [] ≡ byte_of_used used ∷ []
used_stated byte used e = elim (chosen (byte == 0) false _ used e) [
  | inl p ↦ rw (← p.1, eqb-true _ _ p.0) refl
  | inr e ↦ elim (chosen (byte == 1) true _ used e) [
    | inl p ↦ rw (← p.1, eqb-true _ _ p.0) refl
    | inr e ↦ absurd cc
  ]
]

IsField-used : IsField used_at (λ used. byte_of_used used ∷ []) (λ used. ⊤)
unfolding used_at
IsField-used = IsField-through IsField-byte used_of (λ used. byte_of_used used ∷ []) (λ used. ⊤)
    (λ byte used p e. (used_stated byte used e, tt)) back
  where
    back : (used : Bool) → ⊤
        → (byte : ℕ) × (byte < 256) × (used_of byte ≡ Some used) × (byte_of_used used ∷ [] ≡ byte ∷ [])
    back true h = (1, omega arith, refl, refl)
    back false h = (0, omega arith, refl, refl)

-- an event of a kind and three numbers
event_stated : (kind a b c : ℕ) (event : Event) → event_of kind a b c ≡ Some event
    → kind ∷ (bytes_of_32 a ++ (bytes_of_32 b ++ bytes_of_32 c)) ≡ bytes_of_event event
event_stated kind a b c event e =
    let parts = event_parts event in
    let found = find_passes (has_parts kind a b c) (events_with a b c) event e in
    let kind_is = both_passed (parts.kind == kind) _ found in
    let first_is = both_passed (parts.first == a) _ kind_is.1 in
    let others_are = both_passed (parts.second == b) (parts.third == c) first_is.1 in
    rw (
      ← eqb-true parts.kind kind kind_is.0,
      ← eqb-true parts.first a first_is.0,
      ← eqb-true parts.second b others_are.0,
      ← eqb-true parts.third c others_are.1,
      append_assoc,
    ) refl

-- what a kind and three numbers must be
abbrev AreNumbers : ℕ × (ℕ × (ℕ × ℕ)) → Type 0
AreNumbers e = (e.0 < 256) × ((e.1.0 < 2 ^ 32) × ((e.1.1.0 < 2 ^ 32) × (e.1.1.1 < 2 ^ 32)))

abbrev spelled_numbers : ℕ × (ℕ × (ℕ × ℕ)) → List ℕ
spelled_numbers e = (e.0 ∷ []) ++ (bytes_of_32 e.1.0 ++ (bytes_of_32 e.1.1.0 ++ bytes_of_32 e.1.1.1))

IsField-event : IsField event_at bytes_of_event (λ event. is_event event ≡ true)
unfolding event_at
IsField-event = IsField-through
    (IsField-both IsField-byte (IsField-both IsField-32 (IsField-both IsField-32 IsField-32))) ranged_event_of
    bytes_of_event (λ event. is_event event ≡ true) to back
  where
    to : (x : ℕ × (ℕ × (ℕ × ℕ))) (event : Event) → AreNumbers x → ranged_event_of x ≡ Some event
        → (spelled_numbers x ≡ bytes_of_event event) × (is_event event ≡ true)
    to x event p e =
        let made = then_some (event_of x.0 x.1.0 x.1.1.0 x.1.1.1) (λ event. passing is_event event) event e in
        let passed = passed_some (is_event made.0) (Some made.0) event made.2 in
        let stated = event_stated x.0 x.1.0 x.1.1.0 x.1.1.1 made.0 made.1 in
        subst (λ (z : Event). (spelled_numbers x ≡ bytes_of_event z) × (is_event z ≡ true))
        (some_is made.0 event passed.1) (stated, passed.0)

    numbers : (k a b c : ℕ) (event : Event) → k < 256 → a < 2 ^ 32 → b < 2 ^ 32 → c < 2 ^ 32
        → ranged_event_of (k, (a, (b, c))) ≡ Some event → bytes_of_event event ≡ k ∷ bytes_of_three a b c
        → (x : ℕ × (ℕ × (ℕ × ℕ))) × AreNumbers x × (ranged_event_of x ≡ Some event)
        × (bytes_of_event event ≡ spelled_numbers x)
    numbers k a b c event hk ha hb hc read spelled = (
      (k, (a, (b, c))),
      (hk, (ha, (hb, hc))),
      read,
      spelled
          ∙ ap (λ (t : List ℕ). k ∷ t) (append_assoc (bytes_of_32 a) (bytes_of_32 b) (bytes_of_32 c)),
    )

    back : (event : Event) → is_event event ≡ true
        → (x : ℕ × (ℕ × (ℕ × ℕ))) × AreNumbers x × (ranged_event_of x ≡ Some event)
        × (bytes_of_event event ≡ spelled_numbers x)
    back (timed.Inhibit from to) h =
        numbers 1 from to 0 (timed.Inhibit from to) (omega arith) (grind (arith, nat_tests, h))
        (grind (arith, nat_tests, h)) (omega arith) (rw (eq-eqb from from refl, eq-eqb to to refl, h) refl) refl
    back (timed.Valley from to) h =
        numbers 2 from to 0 (timed.Valley from to) (omega arith) (grind (arith, nat_tests, h))
        (grind (arith, nat_tests, h)) (omega arith) (rw (eq-eqb from from refl, eq-eqb to to refl, h) refl) refl
    back (timed.Drop at) h =
        numbers 3 at 0 0 (timed.Drop at) (omega arith) (grind (arith, nat_tests, h)) (omega arith) (omega arith)
        (rw (eq-eqb at at refl, h) refl) refl
    back (timed.Baseline from to) h =
        numbers 4 from to 0 (timed.Baseline from to) (omega arith) (grind (arith, nat_tests, h))
        (grind (arith, nat_tests, h)) (omega arith) (rw (eq-eqb from from refl, eq-eqb to to refl, h) refl) refl
    back (timed.Slope at on off) h =
        numbers 5 at on off (timed.Slope at on off) (omega arith) (grind (arith, nat_tests, h))
        (grind (arith, nat_tests, h)) (grind (arith, nat_tests, h))
        (rw (eq-eqb at at refl, eq-eqb on on refl, eq-eqb off off refl, h) refl) refl
    back (timed.Skim from to) h =
        numbers 6 from to 0 (timed.Skim from to) (omega arith) (grind (arith, nat_tests, h))
        (grind (arith, nat_tests, h)) (omega arith) (rw (eq-eqb from from refl, eq-eqb to to refl, h) refl) refl

pub IsField-events : IsField events_at (bytes_of_few bytes_of_event) EventRanges
unfolding events_at
IsField-events = IsField-as (IsField-few IsField-event 0 MOST_EVENTS (omega arith)) EventRanges
    (λ events p. record { count = p.0.few; each = p.1 })
    (λ events q. (record { enough = omega arith; few = q.count }, q.each))

-- amounts
IsField-amount : IsField amount_at bytes_of_amount (λ a. IsName a.0 × IsWithin 1 MOST_AMOUNT a.1)
unfolding amount_at
IsField-amount = IsField-both IsField-name (IsField-32_in 1 MOST_AMOUNT (omega arith))

-- what amounts may be
record AreAmounts (amounts : List (List ℕ × ℕ)) : Type 0 where
  pub names : AreAmountNames (map (λ a. a.0) amounts)
  pub each : All (λ a. IsWithin 1 MOST_AMOUNT a.1) amounts

IsField-amounts : IsField amounts_at (bytes_of_few bytes_of_amount) AreAmounts
unfolding amounts_at
IsField-amounts = IsField-as (IsField-passing (IsField-few IsField-amount 0 MOST_AMOUNTS (omega arith)) are_rising)
    AreAmounts to back
  where
    to : (amounts : List (List ℕ × ℕ))
        → (IsWithin 0 MOST_AMOUNTS (length amounts) × All (λ a. IsName a.0 × IsWithin 1 MOST_AMOUNT a.1) amounts)
        × (are_rising amounts ≡ true) → AreAmounts amounts
    to amounts p = record {
      names = record {
        few = let named = length-map amounts (λ a. a.0) in let few = p.0.0.few in omega arith;
        each = All-map IsName (λ a. a.0) amounts
            (All-weaker (λ a. IsName a.0 × IsWithin 1 MOST_AMOUNT a.1) (λ a. IsName a.0) (λ a h. h.0) amounts p.0.1);
        rising = rising_passed amounts p.1;
      };
      each = All-weaker (λ a. IsName a.0 × IsWithin 1 MOST_AMOUNT a.1) (λ a. IsWithin 1 MOST_AMOUNT a.1) (λ a h. h.1)
          amounts p.0.1;
    }

    back : (amounts : List (List ℕ × ℕ)) → AreAmounts amounts
        → (IsWithin 0 MOST_AMOUNTS (length amounts) × All (λ a. IsName a.0 × IsWithin 1 MOST_AMOUNT a.1) amounts)
        × (are_rising amounts ≡ true)
    back amounts q =
        let named = length-map amounts (λ a. a.0) in
        let few = q.names.few in
        let names = names-amounts amounts q.names.each in (
          (record { enough = omega arith; few = omega arith }, λ i a within. (names i a within, q.each i a within)),
          rising_pass amounts q.names.rising,
        )

-- the front of a row
record IsFront (front : RowFront) : Type 0 where
  pub label : IsName front.label
  pub trace : IsName front.trace
  pub version : IsWithin 0 MOST_VERSIONS front.version
  pub u : IsWithin 1 MOST_DILUTION front.u
  pub v : IsWithin 1 MOST_DILUTION front.v

abbrev bytes_of_front : RowFront → List ℕ
bytes_of_front f =
    bytes_of_name f.label
    ++ ((kind_number f.kind ∷ [])
    ++ (bytes_of_name f.trace
    ++ (bytes_of_32 f.version ++ ((byte_of_used f.used ∷ []) ++ (bytes_of_32 f.u ++ bytes_of_32 f.v)))))

IsField-front : IsField row_front_at bytes_of_front IsFront
unfolding row_front_at
IsField-front =
    IsField-through
    (IsField-both IsField-name
    (IsField-both IsField-kind
    (IsField-both IsField-name
    (IsField-both (IsField-32_in 0 MOST_VERSIONS (omega arith))
    (IsField-both IsField-used
    (IsField-both (IsField-32_in 1 MOST_DILUTION (omega arith)) (IsField-32_in 1 MOST_DILUTION (omega arith))))))))
    (λ f. Some (record {
      label = f.0;
      kind = f.1.0;
      trace = f.1.1.0;
      version = f.1.1.1.0;
      used = f.1.1.1.1.0;
      u = f.1.1.1.1.1.0;
      v = f.1.1.1.1.1.1;
    })) bytes_of_front IsFront
    (λ f front p e. (
      ap bytes_of_front (some_is _ front e),
      subst IsFront (some_is _ front e)
          (record { label = p.0; trace = p.1.1.0; version = p.1.1.1.0; u = p.1.1.1.1.1.0; v = p.1.1.1.1.1.1 }),
    ))
    (λ front q. (
      (front.label, (front.kind, (front.trace, (front.version, (front.used, (front.u, front.v)))))),
      (q.label, (tt, (q.trace, (q.version, (tt, (q.u, q.v)))))),
      refl,
      refl,
    ))

-- a row
row_regrouped : (label kind trace version used u v amounts events : List ℕ)
    → (label ++ (kind ++ (trace ++ (version ++ (used ++ (u ++ v)))))) ++ (amounts ++ events)
    ≡ label ++ (kind ++ trace) ++ version ++ (used ++ u) ++ v ++ amounts ++ events
row_regrouped label kind trace version used u v amounts events = simp append_assoc

row_spelled : (front : RowFront) (amounts : List (List ℕ × ℕ)) (events : List Event)
    → bytes_of_front front ++ (bytes_of_few bytes_of_amount amounts ++ bytes_of_few bytes_of_event events)
    ≡ bytes_of_row (row_of (front, (amounts, events)))
row_spelled f amounts events =
    row_regrouped (bytes_of_name f.label) (kind_number f.kind ∷ []) (bytes_of_name f.trace) (bytes_of_32 f.version)
    (byte_of_used f.used ∷ []) (bytes_of_32 f.u) (bytes_of_32 f.v) (bytes_of_few bytes_of_amount amounts)
    (bytes_of_few bytes_of_event events)

IsField-row : IsField row_at bytes_of_row IsRow
unfolding row_at
IsField-row = IsField-through (IsField-both IsField-front (IsField-both IsField-amounts IsField-events))
    (λ f. Some (row_of f)) bytes_of_row IsRow to back
  where
    to : (f : RowFront × (List (List ℕ × ℕ) × List Event)) (row : Row)
        → IsFront f.0 × (AreAmounts f.1.0 × EventRanges f.1.1) → Some (row_of f) ≡ Some row
        → (bytes_of_front f.0 ++ (bytes_of_few bytes_of_amount f.1.0 ++ bytes_of_few bytes_of_event f.1.1)
        ≡ bytes_of_row row) × IsRow row
    to f row p e =
        let is = some_is (row_of f) row e in
        let made : IsRow (row_of f) =
        record {
          label = p.0.label;
          trace = p.0.trace;
          version = p.0.version.few;
          u = p.0.u;
          v = p.0.v;
          amounts = p.1.0.names;
          each = p.1.0.each;
          events = p.1.1;
        } in
        (row_spelled f.0 f.1.0 f.1.1 ∙ ap bytes_of_row is, subst IsRow is made)

    back : (row : Row) → IsRow row
        → (f : RowFront × (List (List ℕ × ℕ) × List Event)) × (IsFront f.0 × (AreAmounts f.1.0 × EventRanges f.1.1))
        × (Some (row_of f) ≡ Some row)
        × (bytes_of_row row ≡ bytes_of_front f.0
        ++ (bytes_of_few bytes_of_amount f.1.0 ++ bytes_of_few bytes_of_event f.1.1))
    back row q =
        let front : RowFront =
        record {
          label = row.label;
          kind = row.kind;
          trace = row.trace;
          version = row.version;
          used = row.used;
          u = row.u;
          v = row.v;
        } in
        let fits : IsFront front =
        record {
          label = q.label;
          trace = q.trace;
          version = record { enough = omega arith; few = q.version };
          u = q.u;
          v = q.v;
        } in
        let amounts : AreAmounts row.amounts = record { names = q.amounts; each = q.each } in (
          (front, (row.amounts, row.events)),
          (fits, (amounts, q.events)),
          refl,
          sym (row_spelled front row.amounts row.events),
        )

pub IsField-rows : IsField rows_at (bytes_of_many bytes_of_row) (AreRows IsRow)
unfolding rows_at
IsField-rows = IsField-as
    (IsField-counted (IsField-32_in 1 MOST_ROWS (omega arith)) (All IsRow) length (IsField-items IsField-row))
    (AreRows IsRow) (λ rows p. record { count = p.0; each = p.1 }) (λ rows q. (q.count, q.each))

-- listed sequences
pub IsField-standards : IsField standards_at (bytes_of_few bytes_of_name) AreStandards
unfolding standards_at
IsField-standards = IsField-as (IsField-passing (IsField-few IsField-name 1 MOST_STANDARDS (omega arith)) are_different)
    AreStandards
    (λ names p. record { count = p.0.0; each = p.0.1; different = different_passed names p.1 })
    (λ names q. ((q.count, q.each), different_pass names q.different))
