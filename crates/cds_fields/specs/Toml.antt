-- The values of TOML. A number with a point, and a time, is no whole number.
use Rattle.std.specs.Prelude.{ℕ, List, Option, None, option_map, if◌then◌else◌}
use Rattle.std.specs.Str.{is_utf8}
use Rattle.toml.specs.Data.{Data, string, integer, float, boolean, datetime, array, table, Items, no_items, item, Members, no_members, member}
use Rattle.toml.specs.Parse.{parse_document}
use Rattle.cds_fields.specs.Datum.{Datum, whole, word, flag, list, object, other, fields_of}
use Rattle.cds_fields.specs.Datum as datum

-- a value of TOML, its items and its members
abbrev mutual
  pub of_toml : Data → Datum
  of_toml (string s) = word s
  of_toml (integer z) = whole z
  of_toml (float x) = other
  of_toml (boolean b) = flag b
  of_toml (datetime t) = other
  of_toml (array ds) = list (items_of_toml ds)
  of_toml (table ms) = object (members_of_toml ms)

  pub items_of_toml : Items → datum.Items
  items_of_toml no_items = datum.no_items
  items_of_toml (item d ds) = datum.item (of_toml d) (items_of_toml ds)

  pub members_of_toml : Members → datum.Members
  members_of_toml no_members = datum.no_members
  members_of_toml (member name d ms) = datum.member name (of_toml d) (members_of_toml ms)

-- the fields of a text, which is TOML in UTF-8
unfoldable pub toml_fields : List ℕ → Option (List (List ℕ × Datum))
toml_fields text =
    if is_utf8 text then option_map (λ ms. fields_of (members_of_toml ms)) (parse_document text) else None
