-- The least and the greatest of samples as they are read. For private functions alone.
use Rattle.std.specs.Prelude.{ℤ, List, [], ◌∷◌, Option, Some, None, fold}
use Rattle.std.specs.Int.{int_min, int_max}
use Rattle.cds_figures.specs.declared.blank.Extent.{Extent}

-- the least and the greatest of these samples, if there is one
abbrev pub extent_of : List ℤ → Option Extent
extent_of [] = None
extent_of (sample ∷ samples) =
    Some (record { least = fold int_min sample samples; greatest = fold int_max sample samples })
