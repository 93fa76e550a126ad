-- How the things that a command names are judged, one after the other: the first refusal decides.
-- The rules and their order are this project's own.
use Rattle.std.specs.Prelude.{ℕ, ℤ, pos, negsuc, ◌+◌, ◌==◌, ◌&&◌, ◌||◌, not, nat_lt, nat_le, Bool, List, [], ◌∷◌, ◌++◌, Result, Ok, Err, length, is_some, ok_or, false, if◌then◌else◌}
use Rattle.std.specs.List.{list_any}
use Rattle.std.specs.Option.{option_map_or}
use Rattle.std.specs.Str.{bytes_eq}
use Rattle.cds_base.specs.Answers.{◌>>=◌}
use Rattle.cds_sign.specs.declared.asked.AskedRow.{AskedRow}
use Rattle.cds_base.specs.declared.limits.TheConstants.{MOST_AMOUNT}
use Rattle.cds_sign.specs.declared.row.Row.{Row}
use Rattle.cds_sign.specs.declared.row.RowKind.{RowKind}
use Rattle.cds_sign.specs.declared.sequence.Sequence.{Sequence}
use Rattle.cds_sign.specs.declared.signed.Signed.{Signed}
use Rattle.cds_book.specs.Inputs.{is_standard}
use Rattle.cds_book.specs.Tables.{TablesState, signals_of, texts_of, draft_of, sequence_of, signatures_of, signed_of}
use Rattle.cds_book.specs.declared.error.PlanError.{PlanError}
use Rattle.cds_book.specs.declared.error.PlanError.TheVariants.{NoTrace, NoMethod, NoVersion, NoSequence, Edition, Basis, Number, TwoLabels, BadAmount}
use Rattle.cds_book.specs.declared.command.SignPlan.{SignPlan}
use Rattle.cds_book.specs.declared.command.SignPlan.TheVariants.{Kept, New}

-- nothing where this is so, else the refusal
abbrev pub must : PlanError → Bool → Result (Unit {0}) PlanError
must refusal so = if so then Ok tt else Err refusal

-- items one after the other, each judged with what came of those before it
unfoldable pub each_judged : {A B : Type 0} → (List B → A → Result B PlanError) → List B → List A →
    Result (List B) PlanError
each_judged judge done [] = Ok done
each_judged judge done (x ∷ xs) = do
  y ← judge done x
  each_judged judge (done ++ y ∷ []) xs

-- a version that can be bound where there are so many: there is one, and none past the last is named
abbrev pub can_bind : ℕ → ℕ → Bool
can_bind count version = nat_lt 0 count && nat_le version count

-- a method with a draft, and a version of it, 0 for the latest one
unfoldable pub method_judged : TablesState → List ℕ → ℕ → Result (Unit {0}) PlanError
method_judged tables method version = do
  _ ← must (NoMethod method) (is_some (draft_of tables method))
  must (NoVersion method) (can_bind (length (texts_of tables method)) version)

-- a sequence that another one lists: one that is there, or the other one itself
unfoldable pub standard_judged : TablesState → List ℕ → List ℕ → Result (List ℕ) PlanError
standard_judged tables name listed = do
  _ ← must (NoSequence listed) (bytes_eq listed name || is_some (sequence_of tables listed))
  Ok listed

-- the sequences that a sequence lists
unfoldable pub standards_judged : TablesState → List ℕ → List (List ℕ) → Result (List (List ℕ)) PlanError
standards_judged tables name listed = each_judged (λ _. standard_judged tables name) [] listed

-- a trace and a version of it, 0 for the latest one
unfoldable pub trace_judged : TablesState → List ℕ → ℕ → Result (Unit {0}) PlanError
trace_judged tables trace version = do
  _ ← must (NoTrace trace) (nat_lt 0 (length (signals_of tables trace)))
  must (NoVersion trace) (can_bind (length (signals_of tables trace)) version)

-- a label that none of the rows before has
unfoldable pub label_judged : List Row → List ℕ → Result (Unit {0}) PlanError
label_judged before label = must (TwoLabels label) (not (list_any (λ (row : Row). bytes_eq row.label label) before))

-- an amount of the row of this number, 1 to 10^9
unfoldable pub amount_judged : ℕ → List ℕ × ℤ → Result (List ℕ × ℕ) PlanError
amount_judged number (name, negsuc amount) = Err (BadAmount number)
amount_judged number (name, pos amount) =
    if nat_le 1 amount && nat_le amount MOST_AMOUNT then Ok (name, amount) else Err (BadAmount number)

-- the amounts of the row of this number, which only a standard may have
unfoldable pub amounts_judged : ℕ → RowKind → List (List ℕ × ℤ) → Result (List (List ℕ × ℕ)) PlanError
amounts_judged number kind asked = do
  _ ← must (BadAmount number) (is_standard kind || (length asked == 0))
  each_judged (λ _. amount_judged number) [] asked

-- a row behind those before it: its trace, the version of it, its label, its amounts
unfoldable pub row_judged : TablesState → List Row → AskedRow → Result Row PlanError
row_judged tables before row = do
  _ ← trace_judged tables row.trace row.version
  _ ← label_judged before row.label
  amounts ← amounts_judged (length before + 1) row.kind row.amounts
  Ok (record {
    label = row.label;
    kind = row.kind;
    trace = row.trace;
    version = row.version;
    used = row.used;
    u = row.u;
    v = row.v;
    amounts = amounts;
    events = row.events;
  })

-- the rows of a sequence
unfoldable pub rows_judged : TablesState → List AskedRow → Result (List Row) PlanError
rows_judged tables rows = each_judged (row_judged tables) [] rows

-- a sequence that a path names
unfoldable pub sequence_judged : TablesState → List ℕ → Result Sequence PlanError
sequence_judged tables name = ok_or (sequence_of tables name) (NoSequence name)

-- the edition of a sequence, 0 where there is none
unfoldable pub edition_of : TablesState → List ℕ → ℕ
edition_of tables name = option_map_or (λ (s : Sequence). s.edition) (sequence_of tables name) 0

-- the edition that was seen, which must be the kept one
unfoldable pub edition_judged : TablesState → List ℕ → ℕ → Result (Unit {0}) PlanError
edition_judged tables name edition = must (Edition (edition_of tables name)) (edition == edition_of tables name)

-- whether a signature is over this basis, by this name and with this meaning
abbrev pub says_same : ℕ → List ℕ → List ℕ → Signed → Bool
says_same basis name meaning signed =
    (signed.basis == basis) && (bytes_eq signed.name name && bytes_eq signed.meaning meaning)

-- a signature that isn't kept: its number must be the next one, then its basis the kept one
unfoldable pub new_judged : TablesState → List ℕ → ℕ → ℕ → ℕ → Result SignPlan PlanError
new_judged tables sequence kept basis number = do
  _ ← must (Number (length (signatures_of tables sequence) + 1)) (number == length (signatures_of tables sequence) + 1)
  _ ← must (Basis kept) (basis == kept)
  Ok New

-- a signature: the sequence must be there; one that says the same under its number is kept
unfoldable pub sign_judged : TablesState → List ℕ → ℕ → ℕ → List ℕ → List ℕ → Result SignPlan PlanError
sign_judged tables sequence basis number name meaning = do
  s ← sequence_judged tables sequence
  if option_map_or (says_same basis name meaning) (signed_of tables sequence number) false
      then Ok (Kept number)
      else new_judged tables sequence s.basis basis number
