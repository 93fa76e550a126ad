-- What a value of a body states, for each kind of field of its own. Nothing where it is of another kind or out of its
-- range.
use Rattle.std.specs.Prelude.{ℕ, List, [], ◌∷◌, Option, Some, None, option_and_then, codes, if◌then◌else◌}
use Rattle.cds_fields.specs.Datum.{Datum, word_in}
use Rattle.cds_sign.specs.Printed.{is_printed}
use Rattle.cds_sign.specs.declared.row.RowKind.{RowKind}
use Rattle.cds_sign.specs.declared.row.RowKind.TheVariants.{Blank, Standard, Replicate, Sample}

-- the words for the kinds of rows
abbrev pub row_kinds : List (List ℕ × RowKind)
row_kinds =
    (codes "blank", Blank) ∷ (codes "standard", Standard) ∷ (codes "replicate", Replicate) ∷ (codes "sample", Sample)
    ∷ []

-- the text, if it can be the name or the meaning of a signature
abbrev pub printed : List ℕ → Option (List ℕ)
printed text = if is_printed text then Some text else None

-- the name or the meaning of a signature
abbrev pub printed_in : Datum → Option (List ℕ)
printed_in d = option_and_then printed (word_in d)
