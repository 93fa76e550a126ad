-- The values of TOML, as they are judged.
use Rattle.std.proofs.Common.{◌≡◌, List, [], ◌∷◌, map, refl, ap, option_map, string_bytes}
use Rattle.toml.specs.Data.{Data, string, integer, float, boolean, datetime, array, table, as_integer, as_str, as_bool, as_array, as_table}
use Rattle.toml.specs.View.{view, items_view, members_view}
use Rattle.toml.specs.declared.value.Value.{Value}
use Rattle.toml.proofs.Views.{Entry}
use Rattle.cds_fields.specs.Datum.{whole_in, word_in, flag_in, list_in, object_in, data_of, fields_of}
use Rattle.cds_fields.specs.Toml.{of_toml, items_of_toml, members_of_toml}
use Rattle.cds_fields.specs.Seen.{fields_seen}

-- the whole number
pub whole_in-toml : (d : Data) → whole_in (of_toml d) ≡ as_integer d
whole_in-toml (string s) = refl
whole_in-toml (integer z) = refl
whole_in-toml (float x) = refl
whole_in-toml (boolean b) = refl
whole_in-toml (datetime t) = refl
whole_in-toml (array ds) = refl
whole_in-toml (table ms) = refl

-- the word
pub word_in-toml : (d : Data) → word_in (of_toml d) ≡ as_str d
word_in-toml (string s) = refl
word_in-toml (integer z) = refl
word_in-toml (float x) = refl
word_in-toml (boolean b) = refl
word_in-toml (datetime t) = refl
word_in-toml (array ds) = refl
word_in-toml (table ms) = refl

-- true or false
pub flag_in-toml : (d : Data) → flag_in (of_toml d) ≡ as_bool d
flag_in-toml (string s) = refl
flag_in-toml (integer z) = refl
flag_in-toml (float x) = refl
flag_in-toml (boolean b) = refl
flag_in-toml (datetime t) = refl
flag_in-toml (array ds) = refl
flag_in-toml (table ms) = refl

-- the list
pub list_in-toml : (d : Data) → list_in (of_toml d) ≡ option_map (λ ds. data_of (items_of_toml ds)) (as_array d)
list_in-toml (string s) = refl
list_in-toml (integer z) = refl
list_in-toml (float x) = refl
list_in-toml (boolean b) = refl
list_in-toml (datetime t) = refl
list_in-toml (array ds) = refl
list_in-toml (table ms) = refl

-- the fields
pub object_in-toml : (d : Data) → object_in (of_toml d) ≡ option_map (λ ms. fields_of (members_of_toml ms)) (as_table d)
object_in-toml (string s) = refl
object_in-toml (integer z) = refl
object_in-toml (float x) = refl
object_in-toml (boolean b) = refl
object_in-toml (datetime t) = refl
object_in-toml (array ds) = refl
object_in-toml (table ms) = refl

-- the values of a list are those of its vector
pub data_of-toml : (vs : List Value) → data_of (items_of_toml (items_view vs)) ≡ map (λ v. of_toml (view v)) vs
data_of-toml [] = refl
data_of-toml (v ∷ vs) = ap (λ ds. of_toml (view v) ∷ ds) (data_of-toml vs)

-- the fields of a table are those of its map
pub fields_of-toml : (es : List Entry) → fields_of (members_of_toml (members_view es)) ≡ fields_seen (λ v. of_toml (view v)) es
fields_of-toml [] = refl
fields_of-toml (e ∷ es) = ap (λ fs. (string_bytes e.0, of_toml (view e.1)) ∷ fs) (fields_of-toml es)

pub ruleset toml_values = (whole_in-toml, word_in-toml, flag_in-toml, list_in-toml, object_in-toml, data_of-toml, fields_of-toml)
