-- How the fields of a section are judged. The order of judging is the order of the lines that cite this file.
use Rattle.std.specs.Prelude.{ℕ, ◌+◌, ◌++◌, nat_lt, Bool, List, [], ◌∷◌, length, get_or, map, filter, find, not, Option, Some, None, Result, Ok, Err, option_map, ok_or, is_some, codes, decimal, if◌then◌else◌}
use Rattle.std.specs.Cmp.Lexicographic.{slice_cmp}
use Rattle.std.specs.List.{list_any}
use Rattle.std.specs.Ordering.{nat_cmp, is_lt}
use Rattle.std.specs.Str.{bytes_eq}
use Rattle.cds_base.specs.Answers.{◌>>=◌, unless}
use Rattle.cds_base.specs.NameText.{name_of}
use Rattle.cds_fields.specs.Datum.{Datum, other, list_in, object_in}
use Rattle.cds_fields.specs.Refusals.{Refusals}

-- a table or an object: what stands before a field's name in its path, and the fields with their values, in byte order of their names
pub record Section (E : Type 0) : Type 0 where
  pub front : List ℕ
  pub fields : List (List ℕ × Datum)
  -- how its refusals are told
  pub told : Refusals E

-- a list: its path and its values
pub record Entries (E : Type 0) : Type 0 where
  pub path : List ℕ
  pub values : List Datum
  pub told : Refusals E

-- a value in a list, with its path
pub record Entry (E : Type 0) : Type 0 where
  pub path : List ℕ
  pub value : Datum
  pub told : Refusals E

-- the value of the field of this name
abbrev pub field_at : List ℕ → List (List ℕ × Datum) → Option Datum
field_at name fields = option_map (λ f. f.1) (find (λ f. bytes_eq name f.0) fields)

-- the section has a field of this name
abbrev pub has : {E : Type 0} → List ℕ → Section E → Bool
has name s = is_some (field_at name s.fields)

-- the path of a field
abbrev pub path_of : {E : Type 0} → List ℕ → Section E → List ℕ
path_of name s = s.front ++ name

-- the value of a field that must be there
abbrev pub needed : {E : Type 0} → List ℕ → Section E → Result Datum E
needed name s = ok_or (field_at name s.fields) (s.told.missing (path_of name s))

-- what was read of a field's value: nothing is out of range
abbrev pub in_range : {X E : Type 0} → Option X → List ℕ → Section E → Result X E
in_range read name s = ok_or read (s.told.range (path_of name s))

-- a field that must be there
unfoldable pub required : {X E : Type 0} → (Datum → Option X) → List ℕ → Section E → Result X E
required reads name s = do
  d ← needed name s
  in_range (reads d) name s

-- a field that may be absent
unfoldable pub optional : {X E : Type 0} → (Datum → Option X) → List ℕ → Section E → Result (Option X) E
optional reads name s = if has name s then (required reads name s >>= λ x. Ok (Some x)) else Ok None

-- a section under a field that must be there
unfoldable pub section : {E : Type 0} → List ℕ → Section E → Result (Section E) E
section name s = do
  fields ← required object_in name s
  Ok (record { front = path_of name s ++ codes "."; fields = fields; told = s.told })

-- the names that are none of the known ones
abbrev pub unknown_names : List (List ℕ) → List (List ℕ) → List (List ℕ)
unknown_names known names = filter (λ name. not (list_any (bytes_eq name) known)) names

-- the name, or the other one where that comes before it in byte order
abbrev pub lesser : List ℕ → Option (List ℕ) → List ℕ
lesser name None = name
lesser name (Some next) = if is_lt (slice_cmp nat_cmp next name) then next else name

-- the least of some names in byte order
abbrev pub least_name : List (List ℕ) → Option (List ℕ)
least_name [] = None
least_name (name ∷ names) = Some (lesser name (least_name names))

-- no field but the known ones: the least of the others in byte order is unknown
unfoldable pub only : {E : Type 0} → List (List ℕ) → Section E → Result (Unit {0}) E
only known s =
    unless (option_map (λ name. s.told.unknown (path_of name s))
    (least_name (unknown_names known (map (λ f. f.0) s.fields))))

-- a list of this path, which has at least and at most so many values
abbrev pub counted : {E : Type 0} → ℕ → ℕ → List ℕ → Refusals E → List Datum → Result (Entries E) E
counted least most path told values =
    if nat_lt most (length values) then Err (told.too_many path)
    else if nat_lt (length values) least then Err (told.range path)
    else Ok (record { path = path; values = values; told = told })

-- a list under a field that must be there
unfoldable pub entries : {E : Type 0} → ℕ → ℕ → List ℕ → Section E → Result (Entries E) E
entries least most name s = do
  values ← required list_in name s
  counted least most (path_of name s) s.told values

-- a list under a field that may be absent, and is empty then
unfoldable pub optional_entries : {E : Type 0} → ℕ → List ℕ → Section E → Result (Entries E) E
optional_entries most name s =
    if has name s then entries 0 most name s else Ok (record { path = path_of name s; values = []; told = s.told })

-- the path of an entry, which is counted from 1
abbrev pub entry_path : List ℕ → ℕ → List ℕ
entry_path path number = (path ++ codes ".") ++ decimal number

-- what an entry's value states: nothing is out of range
abbrev pub stated_by : {X E : Type 0} → (Datum → Option X) → Entry E → Result X E
stated_by reads e = ok_or (reads e.value) (e.told.range e.path)

-- an entry that is a section
unfoldable pub entry_section : {E : Type 0} → Entry E → Result (Section E) E
entry_section e = do
  fields ← stated_by object_in e
  Ok (record { front = e.path ++ codes "."; fields = fields; told = e.told })

-- the entry at a place of a list, counted from 0
abbrev pub entry_at : {E : Type 0} → ℕ → Entries E → Entry E
entry_at place es = record {
  path = entry_path es.path (place + 1);
  value = get_or es.values place other;
  told = es.told;
}

-- the values of a list that are left after those that state `done`, each judged with what those before it state
unfoldable pub each_value : {X E : Type 0} → (List X → Entry E → Result X E) → List ℕ → Refusals E → List X → List Datum
    → Result (List X) E
each_value judge path told done [] = Ok done
each_value judge path told done (d ∷ ds) = do
  x ← judge done (record { path = entry_path path (length done + 1); value = d; told = told })
  each_value judge path told (done ++ x ∷ []) ds

-- the values of a list one after the other, each judged with what those before it state
abbrev pub each : {X E : Type 0} → (List X → Entry E → Result X E) → Entries E → Result (List X) E
each judge es = each_value judge es.path es.told [] es.values

-- the fields of an object that are left after `done`, whose names are Names, in byte order of these, each with what its value states
unfoldable pub each_named : {X E : Type 0} → (Datum → Option X) → List ℕ → Refusals E → List (List ℕ × X)
    → List (List ℕ × Datum) → Result (List (List ℕ × X)) E
each_named reads front told done [] = Ok done
each_named reads front told done (f ∷ fs) = do
  name ← ok_or (name_of f.0) (told.range (front ++ f.0))
  x ← ok_or (reads f.1) (told.range (front ++ f.0))
  each_named reads front told (done ++ (name, x) ∷ []) fs

-- a section of at most so many fields, whose names are Names, each with what its value states
unfoldable pub named : {X E : Type 0} → (Datum → Option X) → ℕ → List ℕ → Section E → Result (List (List ℕ × X)) E
named reads most name s = do
  object ← section name s
  _ ← unless (if nat_lt most (length object.fields) then Some (s.told.too_many (path_of name s)) else None)
  each_named reads object.front s.told [] object.fields
