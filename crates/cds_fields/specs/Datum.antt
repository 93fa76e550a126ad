-- A value of a text, whatever form the text has: TOML and JSON are judged as one.
use Rattle.std.specs.Prelude.{ℕ, ℤ, List, [], ◌∷◌, Bool, Option, Some, None}

mutual
  -- a whole number, a word, true or false, a list, named fields in byte order of their names, or a value of another kind
  pub data Datum : Type 0 where
    whole : ℤ → Datum
    word : List ℕ → Datum
    flag : Bool → Datum
    list : Items → Datum
    object : Members → Datum
    other : Datum

  pub data Items : Type 0 where
    no_items : Items
    item : Datum → Items → Items

  pub data Members : Type 0 where
    no_members : Members
    member : List ℕ → Datum → Members → Members

-- the values of a list
abbrev pub data_of : Items → List Datum
data_of no_items = []
data_of (item d ds) = d ∷ data_of ds

-- the names and values of an object
abbrev pub fields_of : Members → List (List ℕ × Datum)
fields_of no_members = []
fields_of (member name d ms) = (name, d) ∷ fields_of ms

-- the whole number that a value is
abbrev pub whole_in : Datum → Option ℤ
whole_in (whole z) = Some z
whole_in _ = None

-- the word that a value is
abbrev pub word_in : Datum → Option (List ℕ)
word_in (word w) = Some w
word_in _ = None

-- true or false, where a value is one
abbrev pub flag_in : Datum → Option Bool
flag_in (flag b) = Some b
flag_in _ = None

-- the list that a value is
abbrev pub list_in : Datum → Option (List Datum)
list_in (list ds) = Some (data_of ds)
list_in _ = None

-- the named fields that a value is
abbrev pub object_in : Datum → Option (List (List ℕ × Datum))
object_in (object ms) = Some (fields_of ms)
object_in _ = None
