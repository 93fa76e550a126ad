-- The values of JSON. A number with a fraction or an exponent, and `-0`, is no whole number.
use Rattle.std.specs.Prelude.{ℕ, ℤ, List, Option, Some, None, option_map, if◌then◌else◌}
use Rattle.std.specs.Str.{is_utf8}
use Rattle.serde_json.specs.Data.{Data, null, boolean, number, string, array, Items, no_items, item, Members, no_members, member}
use Rattle.serde_json.specs.Data.{object as json_object}
use Rattle.serde_json.specs.Find.{as_integer}
use Rattle.serde_json.specs.Read.{read}
use Rattle.cds_fields.specs.Datum.{Datum, whole, word, flag, list, object, other}
use Rattle.cds_fields.specs.Datum as datum

-- a number, where it is whole
abbrev pub of_whole : Option ℤ → Datum
of_whole (Some z) = whole z
of_whole None = other

-- a value of JSON, its items and its members
abbrev mutual
  pub of_json : Data → Datum
  of_json null = other
  of_json (boolean b) = flag b
  of_json (number n) = of_whole (as_integer n)
  of_json (string s) = word s
  of_json (array ds) = list (items_of_json ds)
  of_json (json_object ms) = object (members_of_json ms)

  pub items_of_json : Items → datum.Items
  items_of_json no_items = datum.no_items
  items_of_json (item d ds) = datum.item (of_json d) (items_of_json ds)

  pub members_of_json : Members → datum.Members
  members_of_json no_members = datum.no_members
  members_of_json (member name d ms) = datum.member name (of_json d) (members_of_json ms)

-- the value of a text, which is JSON in UTF-8
unfoldable pub json_value : List ℕ → Option Datum
json_value text = if is_utf8 text then option_map of_json (read text) else None
