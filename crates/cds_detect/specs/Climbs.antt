-- How a climb goes on.
use Rattle.std.specs.Prelude.{ℕ, ◌+◌, Option, Some, None, nat_lt, if◌then◌else◌}
use Rattle.cds_detect.specs.declared.class.Class.{Class}
use Rattle.cds_detect.specs.declared.class.Class.TheVariants.{Inhibited, Up, Down, Flat}

-- a climb goes on over a rise, behind which no class is flat yet, and over flat classes until there are `plateau` of them in a row
abbrev pub flats_after : Class → ℕ → ℕ → Option ℕ
flats_after Inhibited flats plateau = None
flats_after Up flats plateau = Some 0
flats_after Down flats plateau = None
flats_after Flat flats plateau = if nat_lt flats plateau then Some (flats + 1) else None
