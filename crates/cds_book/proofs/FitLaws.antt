-- What is planned of a sequence fits the tables: the parts of its rows are in their ranges, their labels differ, standards
-- alone state amounts, and what it binds and lists is there.
use Rattle.std.proofs.Common.{◌≡◌, ◌∙◌, ℕ, ℤ, ◌+◌, ◌-◌, ◌==◌, Bool, true, false, inl, inr, List, [], ◌∷◌, ◌++◌, length, get_or, map, set, Option, Some, None, option_map, Result, Ok, refl, sym, ap, ap₂, subst, arith, slice_get, if◌then◌else◌}
use Rattle.std.specs.Prelude.{◌⊎◌, ◌||◌, All, IsSome, IsTrue, is_some, nat_lt, not}
use Rattle.std.specs.Cmp.{IsEquivalence}
use Rattle.std.specs.List.{IsDistinct, list_any}
use Rattle.std.specs.Option.{option_map_or}
use Rattle.std.specs.Str.{bytes_eq}
use Rattle.std.proofs.lemmas.Bool.{cases_Bool, and_parts, leb-true, ltb-true}
use Rattle.std.proofs.lemmas.Bool.Decides.{nat_tests}
use Rattle.std.proofs.lemmas.List.{length-map, length-set, map-append, nil_from_length}
use Rattle.std.proofs.lemmas.List.Elements.{All-nil, All-cons, All-append, All-get_or, All-set}
use Rattle.std.proofs.lemmas.Map.Keys.{IsDistinct-push}
use Rattle.std.proofs.lemmas.Option.{get_or_from_slice_get, slice_get_within}
use Rattle.std.proofs.lemmas.Slice.Eq.{bytes_eq-Decides}
use Rattle.std.proofs.Math.Seq.{map-set_same}
use Rattle.cds_base.specs.Answers.{◌>>=◌}
use Rattle.cds_base.specs.EventRange.{EventRanges}
use Rattle.cds_base.specs.NameText.{IsName}
use Rattle.cds_base.specs.declared.event.Event.{Event}
use Rattle.cds_base.proofs.NamedLaws.{bytes_eq-self, named-All}
use Rattle.cds_sign.specs.Ranges.{AreRows, AreStandards, IsRow, IsWithin}
use Rattle.cds_sign.specs.declared.asked.AskedRow.{AskedRow}
use Rattle.cds_sign.specs.declared.limits.TheConstants.{MOST_ROWS}
use Rattle.cds_sign.specs.declared.row.Row.{Row}
use Rattle.cds_sign.specs.declared.row.RowKind.{RowKind}
use Rattle.cds_sign.specs.declared.sequence.Sequence.{Sequence}
use Rattle.cds_book.specs.Inputs.{is_standard}
use Rattle.cds_book.specs.Judged.{must, each_judged, can_bind, method_judged, standard_judged, standards_judged, trace_judged, label_judged, amount_judged, amounts_judged, row_judged, rows_judged}
use Rattle.cds_book.specs.Kept.{IsTables, IsSequenceEntry, IsBound, AreKeptRows, AreThere, HasOwnAmounts, Resolves}
use Rattle.cds_book.specs.Plan.{with_events}
use Rattle.cds_book.specs.Tables.{NamedSequence, TablesState, numbered, draft_of, sequence_named, sequence_of, signals_of, texts_of}
use Rattle.cds_book.specs.declared.error.PlanError.{PlanError}
use Rattle.cds_book.specs.declared.error.PlanError.TheVariants.{NoTrace, NoMethod, NoVersion, NoSequence, TwoLabels, BadAmount}
use Rattle.cds_book.proofs.AskedLaws.{judges, ok-same, gave, whole, amounts-asked, amount_asked}
use Rattle.cds_book.proofs.ContentLaws.{must-so}
use Rattle.cds_book.proofs.SequenceLaws.{sequence_name}

-- bytes are equal or not whichever come first
turned : (a b : List ℕ) → bytes_eq a b ≡ bytes_eq b a
turned a b = elim (cases_Bool (bytes_eq a b)) [
  | inl same ↦ let one : a ≡ b = (bytes_eq-Decides a b).0 same in rw one refl
  | inr other ↦ elim (cases_Bool (bytes_eq b a)) [
    | inl same ↦ let one : b ≡ a = (bytes_eq-Decides b a).0 same in rw one refl
    | inr differs ↦ other ∙ sym differs
  ]
]

bytes_eq-laws : IsEquivalence bytes_eq
bytes_eq-laws = record { refl = bytes_eq-self; symm = turned; congr = λ x y z same. ap (λ n. bytes_eq n z) ((bytes_eq-Decides x y).0 same) }

-- a version that can be bound is there
pub Resolves-can_bind : (count version : ℕ) → can_bind count version ≡ true → Resolves count version
Resolves-can_bind count version is = let parts = and_parts _ _ is in (ltb-true 0 count parts.0, leb-true version count parts.1)

-- so it is of a method that was judged
pub Resolves-method : (t : TablesState) (method : List ℕ) (version : ℕ) → method_judged t method version ≡ Ok tt → Resolves (length (texts_of t method)) version
unfolding method_judged
Resolves-method t method version is =
    let fits = can_bind (length (texts_of t method)) version in
    let one = judges (must (NoMethod method) (is_some (draft_of t method))) (λ _. must (NoVersion method) fits) tt is in
    Resolves-can_bind _ _ (must-so (NoVersion method) fits tt one.rest)

-- and of a trace
Resolves-trace : (t : TablesState) (trace : List ℕ) (version : ℕ) (u : Unit {0}) → trace_judged t trace version ≡ Ok u → Resolves (length (signals_of t trace)) version
unfolding trace_judged
Resolves-trace t trace version u is =
    let count = length (signals_of t trace) in
    let one = judges (must (NoTrace trace) (nat_lt 0 count)) (λ _. must (NoVersion trace) (can_bind count version)) u is in
    Resolves-can_bind _ _ (must-so (NoVersion trace) (can_bind count version) u one.rest)

-- a label is looked for among the labels
any-labels : (label : List ℕ) (rows : List Row) → list_any (λ (r : Row). bytes_eq r.label label) rows ≡ list_any (bytes_eq label) (map (λ (r : Row). r.label) rows)
any-labels label [] = refl
any-labels label (r ∷ rs) = ap₂ (λ a b. a || b) (turned r.label label) (any-labels label rs)

not-true : (b : Bool) → not b ≡ true → b ≡ false
not-true true is = cc
not-true false is = refl

new-label : (before : List Row) (label : List ℕ) (u : Unit {0}) → label_judged before label ≡ Ok u → list_any (bytes_eq label) (map (λ (r : Row). r.label) before) ≡ false
unfolding label_judged
new-label before label u is = sym (any-labels label before) ∙ not-true _ (must-so (TwoLabels label) (not (list_any (λ (r : Row). bytes_eq r.label label) before)) u is)

-- amounts that were judged are those of a standard, or none
own-amounts : (number : ℕ) (kind : RowKind) (asked : List (List ℕ × ℤ)) (amounts : List (List ℕ × ℕ)) → amounts_judged number kind asked ≡ Ok amounts → (amounts ≡ []) ⊎ IsTrue (is_standard kind)
unfolding amounts_judged
own-amounts number kind asked amounts is =
    let back = (amounts-asked number kind asked amounts is).0 in
    let may = is_standard kind || (length asked == 0) in
    let one = judges (must (BadAmount number) may) (λ _. each_judged (λ _. amount_judged number) [] asked) amounts is in
    by_kind (is_standard kind) refl (must-so (BadAmount number) may one.value one.judged) back
  where
    by_kind : (b : Bool) → is_standard kind ≡ b → (b || (length asked == 0)) ≡ true → map amount_asked amounts ≡ asked → (amounts ≡ []) ⊎ IsTrue (is_standard kind)
    by_kind true so may back = inr so
    by_kind false so may back =
        let test : (length asked == 0) ≡ true = may in
        let none : length asked ≡ 0 = grind (arith, nat_tests, test) in
        let few : length amounts ≡ 0 = sym (length-map amounts amount_asked) ∙ ap length back ∙ none in
        inl (nil_from_length amounts few)

-- a row that was judged behind others fits them and the tables
record RowFits (t : TablesState) (before : List Row) (row : Row) : Type 0 where
  trace : Resolves (length (signals_of t row.trace)) row.version
  label : list_any (bytes_eq row.label) (map (λ (r : Row). r.label) before) ≡ false
  amounts : HasOwnAmounts row

row-fits : (t : TablesState) (done : List Row) (x : AskedRow) (y : Row) → row_judged t done x ≡ Ok y → RowFits t done y
unfolding row_judged
row-fits t done x y is =
    let last : List (List ℕ × ℕ) → Result Row PlanError = λ amounts. Ok (record { label = x.label; kind = x.kind; trace = x.trace; version = x.version; used = x.used; u = x.u; v = x.v; amounts = amounts; events = x.events }) in
    let given : Result (List (List ℕ × ℕ)) PlanError = amounts_judged (length done + 1) x.kind x.amounts in
    let one = judges (trace_judged t x.trace x.version) (λ _. label_judged done x.label >>= λ _. given >>= last) y is in
    let two = judges (label_judged done x.label) (λ _. given >>= last) y one.rest in
    let three = judges given last y two.rest in
    let made : Row = record { label = x.label; kind = x.kind; trace = x.trace; version = x.version; used = x.used; u = x.u; v = x.v; amounts = three.value; events = x.events } in
    let fits : RowFits t done made = record {
      trace = Resolves-trace t x.trace x.version one.value one.judged;
      label = new-label done x.label two.value two.judged;
      amounts = own-amounts (length done + 1) x.kind x.amounts three.value three.judged;
    } in
    subst (RowFits t done) (ok-same made y three.rest) fits

-- rows that were judged one after the other
pub record RowsFit (t : TablesState) (rows : List Row) : Type 0 where
  pub labels : IsDistinct bytes_eq (map (λ (r : Row). r.label) rows)
  pub bound : All (λ (r : Row). Resolves (length (signals_of t r.trace)) r.version) rows
  pub amounts : All HasOwnAmounts rows

RowsFit-none : (t : TablesState) → RowsFit t []
unfolding IsDistinct
RowsFit-none t = record { labels = tt; bound = All-nil _; amounts = All-nil _ }

RowsFit-push : (t : TablesState) (done : List Row) (y : Row) → RowsFit t done → RowFits t done y → RowsFit t (done ++ y ∷ [])
RowsFit-push t done y fits one = record {
  labels = subst (IsDistinct bytes_eq) (sym (map-append (λ (r : Row). r.label) done (y ∷ []))) (IsDistinct-push bytes_eq-laws (map (λ (r : Row). r.label) done) y.label fits.labels one.label);
  bound = let P : Row → Type 0 = λ r. Resolves (length (signals_of t r.trace)) r.version in All-append P done (y ∷ []) fits.bound (All-cons P y [] one.trace (All-nil P));
  amounts = All-append HasOwnAmounts done (y ∷ []) fits.amounts (All-cons HasOwnAmounts y [] one.amounts (All-nil HasOwnAmounts));
}

each-fits : (t : TablesState) (done : List Row) (xs : List AskedRow) (r : List Row) → RowsFit t done → each_judged (row_judged t) done xs ≡ Ok r → RowsFit t r
unfolding each_judged
each-fits t done [] r fits is = subst (RowsFit t) (ok-same done r is) fits
each-fits t done (x ∷ xs) r fits is =
    let j = judges (row_judged t done x) (λ y. each_judged (row_judged t) (done ++ y ∷ []) xs) r is in
    each-fits t (done ++ j.value ∷ []) xs r (RowsFit-push t done j.value fits (row-fits t done x j.value j.judged)) j.rest

rows-fit : (t : TablesState) (asked : List AskedRow) (rows : List Row) → rows_judged t asked ≡ Ok rows → RowsFit t rows
unfolding rows_judged
rows-fit t asked rows is = each-fits t [] asked rows (RowsFit-none t) is

-- a sequence that is listed is there, or is the one that lists it
abbrev pub IsListable : TablesState → List ℕ → List ℕ → Type 0
IsListable t name listed = IsSome (sequence_of t listed) ⊎ (listed ≡ name)

standard-there : (t : TablesState) (name x y : List ℕ) → standard_judged t name x ≡ Ok y → (y ≡ x) × IsListable t name y
unfolding standard_judged
standard-there t name x y is =
    let may = bytes_eq x name || is_some (sequence_of t x) in
    let j = judges (must (NoSequence x) may) (λ _. Ok x) y is in
    let same : x ≡ y = ok-same x y j.rest in
    (sym same, subst (IsListable t name) same (by_name (bytes_eq x name) refl (must-so (NoSequence x) may j.value j.judged)))
  where
    by_name : (b : Bool) → bytes_eq x name ≡ b → (b || is_some (sequence_of t x)) ≡ true → IsListable t name x
    by_name true own may = inr ((bytes_eq-Decides x name).0 own)
    by_name false other may = inl may

standards-there : (t : TablesState) (name : List ℕ) (standards listed : List (List ℕ)) → standards_judged t name standards ≡ Ok listed → All (IsListable t name) listed
unfolding standards_judged
standards-there t name standards listed is = (whole (λ n. n) (IsListable t name) standards listed (gave (λ _. standard_judged t name) (λ n. n) (IsListable t name) (λ done x y e. standard-there t name x y e) [] standards listed is)).1

-- a sequence that fits the tables under its name
pub record Fits (t : TablesState) (name : List ℕ) (s : Sequence) : Type 0 where
  pub method : IsName s.method
  pub rows : AreKeptRows s.rows
  pub standards : AreStandards s.standards
  pub bound : IsBound t s
  pub listed : All (IsListable t name) s.standards

-- one that is put fits them
pub Fits-put : (t : TablesState) (name : List ℕ) (s : Sequence) (asked : List AskedRow) (standards : List (List ℕ)) → method_judged t s.method s.version ≡ Ok tt → standards_judged t name standards ≡ Ok s.standards → rows_judged t asked ≡ Ok s.rows
    → IsName s.method → AreStandards s.standards → AreRows IsRow s.rows → Fits t name s
Fits-put t name s asked standards method listed rows is_name are_standards ranges =
    let fits = rows-fit t asked s.rows rows in
    record {
      method = is_name;
      rows = record { ranges = ranges; labels = fits.labels; amounts = fits.amounts };
      standards = are_standards;
      bound = record { method = Resolves-method t s.method s.version method; rows = fits.bound };
      listed = standards-there t name standards s.standards listed;
    }

-- one that is there stands under its name
pub there-entry : (t : TablesState) (name : List ℕ) (s : Sequence) → sequence_of t name ≡ Some s → (e : NamedSequence) × (sequence_named t name ≡ Some e) × (e.sequence ≡ s)
unfolding sequence_of
there-entry t name s = by_found (sequence_named t name) refl
  where
    by_found : (found : Option NamedSequence) → sequence_named t name ≡ found → option_map (λ (e : NamedSequence). e.sequence) found ≡ Some s → (e : NamedSequence) × (sequence_named t name ≡ Some e) × (e.sequence ≡ s)
    by_found None there is = cc
    by_found (Some e) there is = let one : e.sequence ≡ s = cc in (e, there, one)

listable : (t : TablesState) (name : List ℕ) (names : List (List ℕ)) → AreThere t names → All (IsListable t name) names
listable t name names there = λ k d below. inl (there k d below)

-- and fits the tables
pub Fits-there : (t : TablesState) → IsTables t → (name : List ℕ) (s : Sequence) → sequence_of t name ≡ Some s → Fits t name s
Fits-there t kept name s there =
    let found = there-entry t name s there in
    let entry = named-All sequence_name IsSequenceEntry t.sequences name found.0 kept.sequences.each found.1 in
    let bound = named-All sequence_name (λ (e : NamedSequence). IsBound t e.sequence) t.sequences name found.0 kept.bound found.1 in
    let listed = named-All sequence_name (λ (e : NamedSequence). AreThere t e.sequence.standards) t.sequences name found.0 kept.listed found.1 in
    let fits : Fits t name found.0.sequence = record { method = entry.method; rows = entry.rows; standards = entry.standards; bound = bound; listed = listable t name found.0.sequence.standards listed } in
    subst (Fits t name) found.2 fits

-- so it does when it is bound to another version of its method that is there
pub Fits-rebind : (t : TablesState) (name : List ℕ) (s : Sequence) (edition version : ℕ) → Fits t name s → can_bind (length (texts_of t s.method)) version ≡ true → Fits t name (record s { edition = edition; version = version })
Fits-rebind t name s edition version fits can = record {
  method = fits.method;
  rows = fits.rows;
  standards = fits.standards;
  bound = record { method = Resolves-can_bind _ _ can; rows = fits.bound.rows };
  listed = fits.listed;
}

-- a row of a number is one of the rows
numbered-slot : (rows : List Row) (row : ℕ) (r : Row) → numbered rows row ≡ Some r → slice_get rows (row - 1) ≡ Some r
numbered-slot rows row r = by_test (row == 0)
  where
    by_test : (b : Bool) → (if b then None else slice_get rows (row - 1)) ≡ Some r → slice_get rows (row - 1) ≡ Some r
    by_test true is = cc
    by_test false is = is

-- and with other events of a row
module _ (t : TablesState) (row : ℕ) (events : List Event) (ranges : EventRanges events) where
  -- the rows with the row in place of which stands one that differs in its events
  abbrev replaced : List Row → Option Row → List Row
  replaced rows found = option_map_or (λ (r : Row). set rows (row - 1) (record r { events = events })) found rows

  each-replaced : (P : Row → Type 0) → ((r : Row) → P r → P (record r { events = events })) → (rows : List Row) (found : Option Row) → numbered rows row ≡ found → All P rows → All P (replaced rows found)
  each-replaced P keeps rows None is each = each
  each-replaced P keeps rows (Some r) is each =
      let slot = numbered-slot rows row r is in
      let here : P (get_or rows (row - 1) r) = All-get_or P rows (row - 1) r (slice_get_within rows (row - 1) r slot) each in
      let was : P r = subst P (get_or_from_slice_get rows (row - 1) r r slot) here in
      All-set P rows (row - 1) (record r { events = events }) (keeps r was) each

  labels-replaced : (rows : List Row) (found : Option Row) → numbered rows row ≡ found → map (λ (r : Row). r.label) (replaced rows found) ≡ map (λ (r : Row). r.label) rows
  labels-replaced rows None is = refl
  labels-replaced rows (Some r) is =
      let slot = numbered-slot rows row r is in
      map-set_same (λ (x : Row). x.label) rows (row - 1) (record r { events = events }) r (ap (λ (x : Row). x.label) (sym (get_or_from_slice_get rows (row - 1) r r slot)))

  length-replaced : (rows : List Row) (found : Option Row) → length (replaced rows found) ≡ length rows
  length-replaced rows None = refl
  length-replaced rows (Some r) = length-set rows (row - 1) (record r { events = events })

  kept-replaced : (rows : List Row) → AreKeptRows rows → AreKeptRows (replaced rows (numbered rows row))
  kept-replaced rows kept = record {
    ranges = record {
      count = subst (IsWithin 1 MOST_ROWS) (sym (length-replaced rows (numbered rows row))) kept.ranges.count;
      each = each-replaced IsRow (λ r h. record { label = h.label; trace = h.trace; version = h.version; u = h.u; v = h.v; amounts = h.amounts; each = h.each; events = ranges }) rows (numbered rows row) refl kept.ranges.each;
    };
    labels = subst (IsDistinct bytes_eq) (sym (labels-replaced rows (numbered rows row) refl)) kept.labels;
    amounts = each-replaced HasOwnAmounts (λ r h. h) rows (numbered rows row) refl kept.amounts;
  }

  pub Fits-events : (name : List ℕ) (s : Sequence) (edition : ℕ) → Fits t name s → Fits t name (record s { edition = edition; rows = with_events s.rows row events })
  Fits-events name s edition fits = record {
    method = fits.method;
    rows = kept-replaced s.rows fits.rows;
    standards = fits.standards;
    bound = record {
      method = fits.bound.method;
      rows = each-replaced (λ (r : Row). Resolves (length (signals_of t r.trace)) r.version) (λ r h. h) s.rows (numbered s.rows row) refl fits.bound.rows;
    };
    listed = fits.listed;
  }
