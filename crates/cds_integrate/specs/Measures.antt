-- The exact areas and heights of parts, and which parts are rejected. This project's own rules. An area stands times
-- twice the span of the part's line, a height times its span, so that both are whole numbers.
use Rattle.std.specs.Prelude.{ℕ, ◌*◌, ◌/◌, ◌||◌, Bool, List, [], ◌∷◌, ℤ, pos, ◌+ℤ◌, ◌-ℤ◌, ◌*ℤ◌, nat_abs, int_le, int_lt}
use Rattle.std.specs.Prelude.{nat_lt, if◌then◌else◌}
use Rattle.std.specs.List.{fold}
use Rattle.std.specs.Int.{int_div_euclid}
use Rattle.cds_base.specs.declared.time.TheConstants.{MILLISECOND_US}
use Rattle.cds_rules.specs.Fields.{Fields}
use Rattle.cds_trace.specs.Signal.{Signal}
use Rattle.cds_trace.specs.Heights.{span, height_by_span}
use Rattle.cds_area.specs.Area.{area_by_double_span}
use Rattle.cds_integrate.specs.Shapes.{Shape}

-- a part with its area and its height at the apex
pub record Measured : Type 0 where
  pub shape : Shape
  -- the area, times twice the span of the part's line
  pub area : ℤ
  -- the height, times its span
  pub height : ℤ

-- the riders of a part: those directly behind it
abbrev pub riders : List Shape → List Shape
riders [] = []
riders (shape ∷ later) = if shape.rider then shape ∷ riders later else []

-- where the part of the last of these riders ends, or the part itself where it has none
abbrev pub reach_over : Shape → List Shape → ℕ
reach_over shape riders = fold (λ reach rider. rider.reach) shape.end riders

-- how far the area of a part goes: a rider's to the end of its range, any other part's to the end of its last rider's
-- part
abbrev pub area_end : Shape → List Shape → ℕ
area_end shape later = if shape.rider then shape.end else reach_over shape (riders later)

-- the area above the part's line up to there, riders included
abbrev pub gross_area : Signal → Shape → List Shape → ℤ
gross_area signal shape later = area_by_double_span signal shape.line shape.start (area_end shape later)

-- twice the area of a rider over its own line: a whole number, since the range of a rider is the whole of its line
abbrev pub twice_area : Signal → Shape → ℤ
twice_area signal rider =
    int_div_euclid (area_by_double_span signal rider.line rider.start rider.end) (pos (span rider.line))

-- twice the areas of riders, each over its own line, together
abbrev pub twice_areas : Signal → List Shape → ℤ
twice_areas signal riders = fold (λ sum rider. sum +ℤ twice_area signal rider) (pos 0) riders

-- the area of a part: a rider's over its range, any other part's without the areas of its riders
abbrev pub area_of : Signal → Shape → List Shape → ℤ
area_of signal shape later =
    if shape.rider then gross_area signal shape later
    else gross_area signal shape later -ℤ twice_areas signal (riders later) *ℤ pos (span shape.line)

-- the gross areas of parts
abbrev pub gross_areas : Signal → List Shape → List ℤ
gross_areas signal [] = []
gross_areas signal (shape ∷ later) = gross_area signal shape later ∷ gross_areas signal later

-- what is measured of a part
abbrev pub measure : Signal → Shape → List Shape → Measured
measure signal shape later =
    record { shape = shape; area = area_of signal shape later; height = height_by_span signal shape.line shape.apex }

-- what is measured of parts in their order
abbrev pub measured : Signal → List Shape → List Measured
measured signal [] = []
measured signal (shape ∷ later) = measure signal shape later ∷ measured signal later

-- the reported area: area * period / 1000, rounded down
abbrev pub reported_area : Signal → Measured → ℕ
reported_area signal part = nat_abs part.area * signal.period / (MILLISECOND_US * (2 * span part.shape.line))

-- a part is rejected whose area or height isn't positive, or whose reported area or exact height is below the method's
-- least
abbrev pub is_rejected : Signal → Fields → Measured → Bool
is_rejected signal fields part =
    (int_le part.area (pos 0) || int_le part.height (pos 0))
    || (nat_lt (reported_area signal part) fields.min_area || int_lt part.height
    (pos (fields.min_height * span part.shape.line)))
