-- The values of a text, with UTF-8 as a fact and as a test.
use Rattle.std.proofs.Common.{◌≡◌, ℕ, Bool, true, false, List, Option, Some, None, IsUtf8, refl, sym, cond, ap, option_map}
use Rattle.std.proofs.lemmas.Str.{IsUtf8-from_is_utf8, is_utf8-from_IsUtf8}
use Rattle.std.specs.Str.{is_utf8}
use Rattle.serde_json.specs.Data.{Data}
use Rattle.serde_json.specs.Read.{read as read_text}
use Rattle.toml.specs.Parse.{parse_document}
use Rattle.toml.specs.View.{view as toml_view, members_view}
use Rattle.toml.proofs.Views.{Entry}
use Rattle.cds_fields.specs.Datum.{fields_of}
use Rattle.cds_fields.specs.Json.{of_json, json_value}
use Rattle.cds_fields.specs.Seen.{fields_seen}
use Rattle.cds_fields.specs.Toml.{of_toml, members_of_toml, toml_fields}
use Rattle.cds_fields.proofs.Toml.{fields_of-toml}

-- the value of a text in UTF-8
pub json_value-utf8 : (text : List ℕ) (d : Data) → IsUtf8 text → read_text text ≡ Some d → Some (of_json d) ≡ json_value text
unfolding json_value
json_value-utf8 text d utf8 read = rw (is_utf8-from_IsUtf8 text utf8, read)

-- the fields of a text in UTF-8 are those of its map
pub toml_fields-utf8 : (text : List ℕ) (es : List Entry) → IsUtf8 text → parse_document text ≡ Some (members_view es)
    → Some (fields_seen (λ v. of_toml (toml_view v)) es) ≡ toml_fields text
unfolding toml_fields
toml_fields-utf8 text es utf8 read = rw (is_utf8-from_IsUtf8 text utf8, read) (sym (ap Some (fields_of-toml es)))

either : {X : Type 0} (b : Bool) (o : Option X) → (b ≡ true → o ≡ None) → None ≡ cond b o None
either true o h = sym (h refl)
either false o h = refl

-- a text that is no UTF-8, or no JSON where it is, has no value
pub json_value-none : (text : List ℕ) → (IsUtf8 text → read_text text ≡ None) → None ≡ json_value text
unfolding json_value
json_value-none text h = either (is_utf8 text) _ (λ e. ap (option_map of_json) (h (IsUtf8-from_is_utf8 text e)))

-- a text that is no UTF-8, or no TOML where it is, has no fields
pub toml_fields-none : (text : List ℕ) → (IsUtf8 text → parse_document text ≡ None) → None ≡ toml_fields text
unfolding toml_fields
toml_fields-none text h = either (is_utf8 text) _ (λ e. ap (option_map (λ ms. fields_of (members_of_toml ms))) (h (IsUtf8-from_is_utf8 text e)))
