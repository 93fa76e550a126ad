-- What is read of a record is a change whose record it is, and each record is read.
use Rattle.std.proofs.Common.{◌≡◌, ◌∙◌, ℕ, ◌-◌, Bool, true, false, cond, List, [], ◌∷◌, ◌++◌, Option, Some, None, refl}
use Rattle.std.proofs.Common.{sym, ap, subst, append_assoc, arith, inl, inr}
use Rattle.std.specs.Prelude.{◌⊎◌, ◌==◌, ◌||◌}
use Rattle.std.specs.Int.{w32}
use Rattle.std.proofs.lemmas.Bool.{eqb-true}
use Rattle.std.proofs.lemmas.List.{append-nil}
use Rattle.cds_base.specs.EventRange.{EventRanges}
use Rattle.cds_base.specs.NameText.{IsName}
use Rattle.cds_base.specs.declared.clock.TheConstants.{MOMENT_LIMIT}
use Rattle.cds_sign.specs.Ranges.{AreRows, AreStandards, IsChange, IsRow, IsWithin}
use Rattle.cds_sign.specs.declared.command.Change.{Change}
use Rattle.cds_sign.specs.declared.command.Change.TheVariants as changes
use Rattle.cds_sign.specs.declared.limits.TheConstants.{MOST_ROWS, MOST_VERSIONS, MOST_EDITION, MOST_BASIS}
use Rattle.cds_sign.specs.declared.limits.TheConstants.{MOST_SIGNATURES}
use Rattle.cds_codec.specs.Record.{bytes_of_32, bytes_of_64, bytes_of_event, bytes_of_few, bytes_of_many, bytes_of_name}
use Rattle.cds_codec.specs.Record.{bytes_of_row, bytes_of_text, changed, fields_of, kind_of, record_in, record_of}
use Rattle.cds_codec.specs.Record.{IsFormat, IsRecord, Reads, StandsIn}
use Rattle.cds_codec.specs.Reading.{Taken, both, through, bound_at, change_at, change_of, draft_at, edition_at}
use Rattle.cds_codec.specs.Reading.{events_at, freeze_at, is_format, name_at, number_in, put_events_at, rebind_at}
use Rattle.cds_codec.specs.Reading.{rows_at, sequence_at, sign_at, sign_front_at, standards_at, trace_at, whole}
use Rattle.cds_codec.specs.declared.format.TheConstants.{FIRST_FORMAT, FORMAT, TRACE, DRAFT, FREEZE, SEQUENCE, EVENTS}
use Rattle.cds_codec.specs.declared.format.TheConstants.{REBIND, SIGN}
use Rattle.cds_codec.proofs.FieldLaws.{IsBytes, IsBytes-tail, Takes, then_some, passed_some, some_is, whole_some}
use Rattle.cds_codec.proofs.FieldLaws.{IsField, IsField-both, IsField-through, IsField-32_in, IsField-64_in}
use Rattle.cds_codec.proofs.FieldLaws.{IsField-name, IsField-printed, IsField-text}
use Rattle.cds_codec.proofs.Lengths.{changed-name}
use Rattle.cds_codec.proofs.RowLaws.{IsField-events, IsField-rows, IsField-standards}
use Rattle.cds_codec.proofs.TraceLaws.{IsField-signal}

-- what was read of the change of a kind, behind the name of what is changed
record IsTold (format kind : ℕ) (name bytes : List ℕ) (change : Change) (rest : List ℕ) : Type 0 where
  pub kind_is : kind ≡ kind_of change
  pub name_is : name ≡ changed change
  pub taken : Takes bytes (fields_of format change) rest
  pub possible : IsChange change
  pub stands : StandsIn format change

-- a change that is made of fields with these bytes
record IsMade (format kind : ℕ) (name spelled : List ℕ) (change : Change) : Type 0 where
  pub kind_is : kind ≡ kind_of change
  pub name_is : name ≡ changed change
  pub spelled_is : spelled ≡ fields_of format change
  pub possible : IsChange change
  pub stands : StandsIn format change

-- it is read
made_takes : {A : Type 0} {field : List ℕ → Taken A} {f : A → List ℕ} {P : A → Type 0} (one : IsField field f P)
    (make : A → Change) (format kind : ℕ) (name : List ℕ)
    → ((x : A) → P x → IsMade format kind name (f x) (make x)) → (bytes : List ℕ) (change : Change) (rest : List ℕ)
    → IsBytes bytes
    → through (λ x. Some (make x)) field bytes ≡ Some (change, rest) → IsTold format kind name bytes change rest
made_takes {A} {field} {f} {P} one make format kind name made bytes change rest fits e =
    let a = then_some (field bytes) (λ a. Some (make a.0, a.1)) (change, rest) e in
    let p = one.takes bytes a.0.0 a.0.1 fits a.1 in
    let t = made a.0.0 p.1 in
    let is = some_is (make a.0.0, a.0.1) (change, rest) a.2 in
    let told : IsTold format kind name bytes (make a.0.0) a.0.1 = record {
      kind_is = t.kind_is;
      name_is = t.name_is;
      taken = subst (λ (s : List ℕ). Takes bytes s a.0.1) t.spelled_is p.0;
      possible = t.possible;
      stands = t.stands;
    } in
    subst (λ (z : Change × List ℕ). IsTold format kind name bytes z.0 z.1) is told

-- and what is written is read
made_again : {A : Type 0} {field : List ℕ → Taken A} {f : A → List ℕ} {P : A → Type 0} (one : IsField field f P)
    (make : A → Change) (x : A) (fields : List ℕ)
    → P x → fields ≡ f x → through (λ x. Some (make x)) field (fields ++ []) ≡ Some (make x, [])
made_again {A} {field} one make x fields p spelled =
    ap (λ (t : List ℕ). through (λ x. Some (make x)) field (t ++ [])) spelled ∙ rw (one.again x [] p) refl

-- fields one behind the other
three_parts : (a b c : List ℕ) → a ++ (b ++ c) ≡ a ++ b ++ c
three_parts a b c = simp append_assoc

five_parts : (a b c d e : List ℕ) → a ++ (b ++ (c ++ (d ++ e))) ≡ a ++ b ++ c ++ d ++ e
five_parts a b c d e = simp append_assoc

six_parts : (a b c d e f : List ℕ) → (a ++ (b ++ c)) ++ (d ++ (e ++ f)) ≡ (a ++ b ++ c) ++ (d ++ e ++ f)
six_parts a b c d e f = simp append_assoc

-- the fields of each kind
IsField-edition : IsField edition_at bytes_of_64 (IsWithin 0 MOST_EDITION)
IsField-edition = IsField-64_in 0 MOST_EDITION (omega arith)

IsField-bound : IsField bound_at bytes_of_32 (IsWithin 0 MOST_VERSIONS)
IsField-bound = IsField-32_in 0 MOST_VERSIONS (omega arith)

IsField-version : IsField (number_in w32 1 MOST_VERSIONS) bytes_of_32 (IsWithin 1 MOST_VERSIONS)
IsField-version = IsField-32_in 1 MOST_VERSIONS (omega arith)

IsField-sequence : IsField (both edition_at (both name_at (both bound_at (both standards_at rows_at))))
    (λ f. bytes_of_64 f.0
    ++ (bytes_of_name f.1.0
    ++ (bytes_of_32 f.1.1.0 ++ (bytes_of_few bytes_of_name f.1.1.1.0 ++ bytes_of_many bytes_of_row f.1.1.1.1))))
    (λ f. IsWithin 0 MOST_EDITION f.0
    × (IsName f.1.0 × (IsWithin 0 MOST_VERSIONS f.1.1.0 × (AreStandards f.1.1.1.0 × AreRows IsRow f.1.1.1.1))))
IsField-sequence = IsField-both IsField-edition
    (IsField-both IsField-name (IsField-both IsField-bound (IsField-both IsField-standards IsField-rows)))

IsField-put_events : IsField (both edition_at (both (number_in w32 1 MOST_ROWS) events_at))
    (λ f. bytes_of_64 f.0 ++ (bytes_of_32 f.1.0 ++ bytes_of_few bytes_of_event f.1.1))
    (λ f. IsWithin 0 MOST_EDITION f.0 × (IsWithin 1 MOST_ROWS f.1.0 × EventRanges f.1.1))
IsField-put_events =
    IsField-both IsField-edition (IsField-both (IsField-32_in 1 MOST_ROWS (omega arith)) IsField-events)

IsField-rebind : IsField (both edition_at bound_at) (λ f. bytes_of_64 f.0 ++ bytes_of_32 f.1)
    (λ f. IsWithin 0 MOST_EDITION f.0 × IsWithin 0 MOST_VERSIONS f.1)
IsField-rebind = IsField-both IsField-edition IsField-bound

-- the number of a signature, the basis and the moment
abbrev spelled_numbers : ℕ × ℕ × ℕ → List ℕ
spelled_numbers n = bytes_of_32 n.0 ++ (bytes_of_64 n.1 ++ bytes_of_64 n.2)

record AreSignNumbers (n : ℕ × ℕ × ℕ) : Type 0 where
  pub number : IsWithin 1 MOST_SIGNATURES n.0
  pub basis : IsWithin 1 MOST_BASIS n.1
  pub moment : IsWithin 0 (MOMENT_LIMIT - 1) n.2

IsField-sign_front : IsField sign_front_at spelled_numbers AreSignNumbers
unfolding sign_front_at
IsField-sign_front =
    IsField-through (IsField-both (IsField-32_in 1 MOST_SIGNATURES (omega arith))
    (IsField-both (IsField-64_in 1 MOST_BASIS (omega arith)) (IsField-64_in 0 (MOMENT_LIMIT - 1) (omega arith))))
    (λ f. Some (f.0, f.1.0, f.1.1)) spelled_numbers AreSignNumbers
    (λ f n p e. (
      ap spelled_numbers (some_is _ n e),
      subst AreSignNumbers (some_is _ n e) (record { number = p.0; basis = p.1.0; moment = p.1.1 }),
    ))
    (λ n q. ((n.0, (n.1, n.2)), (q.number, (q.basis, q.moment)), refl, refl))

-- one of two answers
branch : {A : Type 0} (b : Bool) (x o : Option A) (y : A) → cond b x o ≡ Some y
    → ((b ≡ true) × (x ≡ Some y)) ⊎ (o ≡ Some y)
branch true x o y e = inl (refl, e)
branch false x o y e = inr e

-- what is read of each kind is told so
module _ (format kind : ℕ) (name bytes : List ℕ) (change : Change) (rest : List ℕ) (fits : IsBytes bytes)
    (named : IsName name) where
  trace_takes : kind ≡ TRACE → trace_at format name bytes ≡ Some (change, rest)
      → IsTold format kind name bytes change rest
  unfolding trace_at
  trace_takes k e =
      made_takes (IsField-signal format) (changes.Trace name) format kind name
      (λ signal p. record {
        kind_is = k;
        name_is = refl;
        spelled_is = refl;
        possible = (named, p.trace);
        stands = p.few;
      }) bytes change rest fits e

  draft_takes : kind ≡ DRAFT → draft_at name bytes ≡ Some (change, rest) → IsTold format kind name bytes change rest
  unfolding draft_at
  draft_takes k e =
      made_takes IsField-text (changes.Draft name) format kind name
      (λ text p. record { kind_is = k; name_is = refl; spelled_is = refl; possible = (named, p); stands = tt })
      bytes change rest fits e

  freeze_takes : kind ≡ FREEZE → freeze_at name bytes ≡ Some (change, rest) → IsTold format kind name bytes change rest
  unfolding freeze_at
  freeze_takes k e =
      made_takes IsField-version (changes.Freeze name) format kind name
      (λ version p. record { kind_is = k; name_is = refl; spelled_is = refl; possible = (named, p); stands = tt })
      bytes change rest fits e

  sequence_takes : kind ≡ SEQUENCE → sequence_at name bytes ≡ Some (change, rest)
      → IsTold format kind name bytes change rest
  unfolding sequence_at
  sequence_takes k e =
      made_takes IsField-sequence (λ f. changes.Sequence name f.0 f.1.0 f.1.1.0 f.1.1.1.0 f.1.1.1.1) format kind name
      (λ f p. record {
        kind_is = k;
        name_is = refl;
        spelled_is = five_parts (bytes_of_64 f.0) (bytes_of_name f.1.0) (bytes_of_32 f.1.1.0)
            (bytes_of_few bytes_of_name f.1.1.1.0) (bytes_of_many bytes_of_row f.1.1.1.1);
        possible = (
          record {
            name = named;
            edition = p.0.few;
            method = p.1.0;
            version = p.1.1.0.few;
            standards = p.1.1.1.0;
          },
          p.1.1.1.1,
        );
        stands = tt;
      }) bytes change rest fits e

  put_events_takes : kind ≡ EVENTS → put_events_at name bytes ≡ Some (change, rest)
      → IsTold format kind name bytes change rest
  unfolding put_events_at
  put_events_takes k e =
      made_takes IsField-put_events (λ f. changes.Events name f.0 f.1.0 f.1.1) format kind name
      (λ f p. record {
        kind_is = k;
        name_is = refl;
        spelled_is = three_parts (bytes_of_64 f.0) (bytes_of_32 f.1.0) (bytes_of_few bytes_of_event f.1.1);
        possible = (record { name = named; edition = p.0.few; events = p.1.1 }, p.1.0);
        stands = tt;
      }) bytes change rest fits e

  rebind_takes : kind ≡ REBIND → rebind_at name bytes ≡ Some (change, rest) → IsTold format kind name bytes change rest
  unfolding rebind_at
  rebind_takes k e =
      made_takes IsField-rebind (λ f. changes.Rebind name f.0 f.1) format kind name
      (λ f p. record {
        kind_is = k;
        name_is = refl;
        spelled_is = refl;
        possible = record { name = named; edition = p.0.few; version = p.1.few };
        stands = tt;
      }) bytes change rest fits e

  sign_takes : kind ≡ SIGN → sign_at name bytes ≡ Some (change, rest) → IsTold format kind name bytes change rest
  unfolding sign_at
  sign_takes k e =
      made_takes (IsField-both IsField-sign_front
      (IsField-both IsField-printed (IsField-both IsField-printed IsField-text)))
      (λ f. changes.Sign name f.0.0 f.0.1 f.0.2 f.1.0 f.1.1.0 f.1.1.1) format kind name
      (λ f p. record {
        kind_is = k;
        name_is = refl;
        spelled_is = six_parts (bytes_of_32 f.0.0) (bytes_of_64 f.0.1) (bytes_of_64 f.0.2) (bytes_of_text f.1.0)
            (bytes_of_text f.1.1.0) (bytes_of_text f.1.1.1);
        possible = record {
          sequence = named;
          number = p.0.number;
          basis = p.0.basis;
          moment = (let few = p.0.moment.few in omega arith);
          name = p.1.0;
          meaning = p.1.1.0;
          text = p.1.1.1;
        };
        stands = tt;
      }) bytes change rest fits e

  kind_takes : change_at format kind name bytes ≡ Some (change, rest) → IsTold format kind name bytes change rest
  unfolding change_at
  kind_takes e = elim (branch (kind == TRACE) (trace_at format name bytes) _ (change, rest) e) [
    | inl p ↦ trace_takes (eqb-true _ _ p.0) p.1
    | inr e ↦ elim (branch (kind == DRAFT) (draft_at name bytes) _ (change, rest) e) [
      | inl p ↦ draft_takes (eqb-true _ _ p.0) p.1
      | inr e ↦ elim (branch (kind == FREEZE) (freeze_at name bytes) _ (change, rest) e) [
        | inl p ↦ freeze_takes (eqb-true _ _ p.0) p.1
        | inr e ↦ elim (branch (kind == SEQUENCE) (sequence_at name bytes) _ (change, rest) e) [
          | inl p ↦ sequence_takes (eqb-true _ _ p.0) p.1
          | inr e ↦ elim (branch (kind == EVENTS) (put_events_at name bytes) _ (change, rest) e) [
            | inl p ↦ put_events_takes (eqb-true _ _ p.0) p.1
            | inr e ↦ elim (branch (kind == REBIND) (rebind_at name bytes) _ (change, rest) e) [
              | inl p ↦ rebind_takes (eqb-true _ _ p.0) p.1
              | inr e ↦ elim (branch (kind == SIGN) (sign_at name bytes) None (change, rest) e) [
                | inl p ↦ sign_takes (eqb-true _ _ p.0) p.1
                | inr e ↦ absurd cc
              ]
            ]
          ]
        ]
      ]
    ]
  ]

-- what is read is a change whose record it is
change_takes : (bytes : List ℕ) (change : Change) → IsBytes bytes → change_of bytes ≡ Some change
    → IsRecord bytes change
unfolding change_of
change_takes [] change fits e = absurd cc
change_takes (format ∷ []) change fits e = absurd cc
change_takes (format ∷ kind ∷ bytes) change fits e =
    let name = then_some (name_at bytes)
    (λ name. cond (is_format format) (whole (change_at format kind name.0 name.1)) None) change e in
    let passed = passed_some (is_format format) (whole (change_at format kind name.0.0 name.0.1)) change name.2 in
    let all = whole_some (change_at format kind name.0.0 name.0.1) change passed.1 in
    let taken = IsField-name.takes bytes name.0.0 name.0.1
    (IsBytes-tail kind bytes (IsBytes-tail format (kind ∷ bytes) fits)) name.1 in
    let told = kind_takes format kind name.0.0 name.0.1 change [] taken.0.rest_fits taken.1 all in
    let fields : name.0.1 ≡ fields_of format change = told.taken.parts ∙ append-nil (fields_of format change) in
    let behind : bytes ≡ bytes_of_name (changed change) ++ fields_of format change =
    taken.0.parts ∙ ap (λ (n : List ℕ). bytes_of_name n ++ name.0.1) told.name_is
    ∙ ap (λ (t : List ℕ). bytes_of_name (changed change) ++ t) fields in
    record {
      format = format;
      known = known format passed.0;
      possible = told.possible;
      stands = told.stands;
      spelled = ap (λ (t : List ℕ). format ∷ kind ∷ t) behind
          ∙ ap (λ (k : ℕ). format ∷ k ∷ (bytes_of_name (changed change) ++ fields_of format change)) told.kind_is;
    }
  where
    known : (format : ℕ) → is_format format ≡ true → IsFormat format
    known format e = by (format == FIRST_FORMAT) refl e
      where
        by : (b : Bool) → (format == FIRST_FORMAT) ≡ b → (b || (format == FORMAT)) ≡ true → IsFormat format
        by true h e = inl (eqb-true _ _ h)
        by false h e = inr (eqb-true _ _ e)

-- the fields of each kind are read
fields_again : (format : ℕ) (change : Change) → IsChange change → StandsIn format change
    → change_at format (kind_of change) (changed change) (fields_of format change ++ []) ≡ Some (change, [])
unfolding change_at trace_at draft_at freeze_at sequence_at put_events_at rebind_at sign_at
fields_again format (changes.Trace name signal) h stands =
    made_again (IsField-signal format) (changes.Trace name) signal (fields_of format (changes.Trace name signal))
    (record { trace = h.1; few = stands }) refl
fields_again format (changes.Draft name text) h stands =
    made_again IsField-text (changes.Draft name) text (bytes_of_text text) h.1 refl
fields_again format (changes.Freeze name version) h stands =
    made_again IsField-version (changes.Freeze name) version (bytes_of_32 version) h.1 refl
fields_again format (changes.Sequence name edition method version standards rows) h stands =
    made_again IsField-sequence (λ f. changes.Sequence name f.0 f.1.0 f.1.1.0 f.1.1.1.0 f.1.1.1.1)
    (edition, (method, (version, (standards, rows))))
    (fields_of format (changes.Sequence name edition method version standards rows)) (
      record { enough = omega arith; few = h.0.edition },
      (h.0.method, (record { enough = omega arith; few = h.0.version }, (h.0.standards, h.1))),
    )
    (sym (five_parts (bytes_of_64 edition) (bytes_of_name method) (bytes_of_32 version)
    (bytes_of_few bytes_of_name standards) (bytes_of_many bytes_of_row rows)))
fields_again format (changes.Events name edition row events) h stands =
    made_again IsField-put_events (λ f. changes.Events name f.0 f.1.0 f.1.1) (edition, (row, events))
    (fields_of format (changes.Events name edition row events))
    (record { enough = omega arith; few = h.0.edition }, (h.1, h.0.events))
    (sym (three_parts (bytes_of_64 edition) (bytes_of_32 row) (bytes_of_few bytes_of_event events)))
fields_again format (changes.Rebind name edition version) h stands =
    made_again IsField-rebind (λ f. changes.Rebind name f.0 f.1) (edition, version)
    (fields_of format (changes.Rebind name edition version))
    (record { enough = omega arith; few = h.edition }, record { enough = omega arith; few = h.version }) refl
fields_again format (changes.Sign sequence number basis moment name meaning text) h stands =
    let moment_fits : IsWithin 0 (MOMENT_LIMIT - 1) moment =
    record { enough = omega arith; few = (let below = h.moment in omega arith) } in
    made_again (IsField-both IsField-sign_front
    (IsField-both IsField-printed (IsField-both IsField-printed IsField-text)))
    (λ f. changes.Sign sequence f.0.0 f.0.1 f.0.2 f.1.0 f.1.1.0 f.1.1.1)
    ((number, basis, moment), (name, (meaning, text)))
    (fields_of format (changes.Sign sequence number basis moment name meaning text))
    (record { number = h.number; basis = h.basis; moment = moment_fits }, (h.name, (h.meaning, h.text)))
    (sym (six_parts (bytes_of_32 number) (bytes_of_64 basis) (bytes_of_64 moment) (bytes_of_text name)
    (bytes_of_text meaning) (bytes_of_text text)))

-- each record is read
change_again : (format : ℕ) (change : Change) → IsFormat format → IsChange change → StandsIn format change
    → change_of (record_in format change) ≡ Some change
unfolding change_of
change_again format change known possible stands =
    let name = IsField-name.again (changed change) (fields_of format change) (changed-name change possible) in
    let fields : change_at format (kind_of change) (changed change) (fields_of format change) ≡ Some (change, []) =
    ap (change_at format (kind_of change) (changed change)) (sym (append-nil (fields_of format change)))
    ∙ fields_again format change possible stands in
    rw (name, test, fields) refl
  where
    test : is_format format ≡ true
    test = elim known [
      | inl first ↦ rw first refl
      | inr now ↦ rw now refl
    ]

-- a record is read as its change
record_again : (bytes : List ℕ) (change : Change) → IsRecord bytes change → change_of bytes ≡ Some change
record_again bytes change is = ap change_of is.spelled ∙ change_again is.format change is.known is.possible is.stands

-- what is read of bytes is what they state
pub reads : (bytes : List ℕ) (stated : Option Change) → IsBytes bytes → stated ≡ change_of bytes → Reads bytes stated
reads bytes (Some change) fits e = change_takes bytes change fits (sym e)
reads bytes None fits e = λ change is. let read = record_again bytes change is in absurd cc

-- a record states one change
pub one_change : (bytes : List ℕ) (c d : Change) → IsRecord bytes c → IsRecord bytes d → c ≡ d
one_change bytes c d here there = some_is c d (sym (record_again bytes c here) ∙ record_again bytes d there)

-- in one format, which is its first byte
pub one_format : (bytes : List ℕ) (c d : Change) (here : IsRecord bytes c) (there : IsRecord bytes d)
    → here.format ≡ there.format
one_format bytes c d here there = let both = sym here.spelled ∙ there.spelled in cc

-- a change that may be stands in a record of today
stands-today : (change : Change) → IsChange change → StandsIn FORMAT change
stands-today (changes.Trace name signal) h = h.1.few
stands-today (changes.Draft name text) h = tt
stands-today (changes.Freeze name version) h = tt
stands-today (changes.Sequence name edition method version standards rows) h = tt
stands-today (changes.Events name edition row events) h = tt
stands-today (changes.Rebind name edition version) h = tt
stands-today (changes.Sign sequence number basis moment name meaning text) h = tt

-- what is written is a record
pub is_record : (format : ℕ) (change : Change) → IsFormat format → IsChange change → StandsIn format change
    → IsRecord (record_in format change) change
is_record format change known possible stands =
    record { format = format; known = known; possible = possible; stands = stands; spelled = refl }

pub record-today : (change : Change) → IsChange change → IsRecord (record_of change) change
record-today change possible = is_record FORMAT change (inr refl) possible (stands-today change possible)

-- a record reads as its change
pub reads_back : (bytes : List ℕ) (change : Change) (stated : Option Change) → IsRecord bytes change
    → Reads bytes stated → stated ≡ Some change
reads_back bytes change None is none = absurd (none change is)
reads_back bytes change (Some other) is there = ap Some (one_change bytes other change there is)

-- a change has one record in a format
pub one_record : (a b : List ℕ) (change : Change) (here : IsRecord a change) (there : IsRecord b change)
    → here.format ≡ there.format → a ≡ b
one_record a b change here there same =
    here.spelled ∙ ap (λ (format : ℕ). record_in format change) same ∙ sym there.spelled
