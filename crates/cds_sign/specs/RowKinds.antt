-- The numbers of what a row is injected for: the one numbering, for records and for comparing. This project's own.
use Rattle.std.specs.Prelude.{ℕ}
use Rattle.cds_sign.specs.declared.row.RowKind.{RowKind}
use Rattle.cds_sign.specs.declared.row.RowKind.TheVariants.{Blank, Standard, Replicate, Sample}

-- the number of a row's kind
abbrev pub kind_number : RowKind → ℕ
kind_number Blank = 1
kind_number Standard = 2
kind_number Replicate = 3
kind_number Sample = 4
