-- The values of JSON, as they are judged.
use Rattle.std.proofs.Common.{◌≡◌, ℤ, List, [], ◌∷◌, map, Option, Some, None, refl, ap, option_map, string_bytes}
use Rattle.std.specs.Prelude.{option_and_then}
use Rattle.serde_json.specs.Data.{Data, null, boolean, number, string, array, object}
use Rattle.serde_json.specs.Find.{as_number, as_integer, as_str, as_bool, as_array, as_object}
use Rattle.serde_json.specs.View.{view, items_view, members_view}
use Rattle.serde_json.specs.declared.value.Value.{Value}
use Rattle.serde_json.proofs.Views.{Entry}
use Rattle.cds_fields.specs.Datum.{whole_in, word_in, flag_in, list_in, object_in, data_of, fields_of}
use Rattle.cds_fields.specs.Json.{of_json, of_whole, items_of_json, members_of_json}
use Rattle.cds_fields.specs.Seen.{fields_seen}

whole_in-of_whole : (z : Option ℤ) → whole_in (of_whole z) ≡ z
whole_in-of_whole None = refl
whole_in-of_whole (Some z) = refl

-- the whole number
pub whole_in-json : (d : Data) → whole_in (of_json d) ≡ option_and_then as_integer (as_number d)
whole_in-json null = refl
whole_in-json (boolean b) = refl
whole_in-json (number n) = whole_in-of_whole (as_integer n)
whole_in-json (string s) = refl
whole_in-json (array ds) = refl
whole_in-json (object ms) = refl

other_word : (z : Option ℤ) → word_in (of_whole z) ≡ None
other_word None = refl
other_word (Some z) = refl

-- the word
pub word_in-json : (d : Data) → word_in (of_json d) ≡ as_str d
word_in-json null = refl
word_in-json (boolean b) = refl
word_in-json (number n) = other_word (as_integer n)
word_in-json (string s) = refl
word_in-json (array ds) = refl
word_in-json (object ms) = refl

other_flag : (z : Option ℤ) → flag_in (of_whole z) ≡ None
other_flag None = refl
other_flag (Some z) = refl

-- true or false
pub flag_in-json : (d : Data) → flag_in (of_json d) ≡ as_bool d
flag_in-json null = refl
flag_in-json (boolean b) = refl
flag_in-json (number n) = other_flag (as_integer n)
flag_in-json (string s) = refl
flag_in-json (array ds) = refl
flag_in-json (object ms) = refl

other_list : (z : Option ℤ) → list_in (of_whole z) ≡ None
other_list None = refl
other_list (Some z) = refl

-- the list
pub list_in-json : (d : Data) → list_in (of_json d) ≡ option_map (λ ds. data_of (items_of_json ds)) (as_array d)
list_in-json null = refl
list_in-json (boolean b) = refl
list_in-json (number n) = other_list (as_integer n)
list_in-json (string s) = refl
list_in-json (array ds) = refl
list_in-json (object ms) = refl

other_object : (z : Option ℤ) → object_in (of_whole z) ≡ None
other_object None = refl
other_object (Some z) = refl

-- the fields
pub object_in-json : (d : Data) → object_in (of_json d) ≡ option_map (λ ms. fields_of (members_of_json ms)) (as_object d)
object_in-json null = refl
object_in-json (boolean b) = refl
object_in-json (number n) = other_object (as_integer n)
object_in-json (string s) = refl
object_in-json (array ds) = refl
object_in-json (object ms) = refl

-- the values of a list are those of its vector
pub data_of-json : (vs : List Value) → data_of (items_of_json (items_view vs)) ≡ map (λ v. of_json (view v)) vs
data_of-json [] = refl
data_of-json (v ∷ vs) = ap (λ ds. of_json (view v) ∷ ds) (data_of-json vs)

-- the fields of an object are those of its map
pub fields_of-json : (es : List Entry) → fields_of (members_of_json (members_view es)) ≡ fields_seen (λ v. of_json (view v)) es
fields_of-json [] = refl
fields_of-json (e ∷ es) = ap (λ fs. (string_bytes e.0, of_json (view e.1)) ∷ fs) (fields_of-json es)

pub ruleset json_values = (whole_in-json, word_in-json, flag_in-json, list_in-json, object_in-json, data_of-json, fields_of-json)
