-- How the parts of a cluster stand on their lines. For private functions alone.
use Rattle.std.specs.Prelude.{◌≡◌, ℕ, ◌-◌, ◌*◌, ◌<◌, ◌≤◌, true, false, List, [], ◌∷◌, length, pos, ◌≤ℤ◌, ◌*ℤ◌}
use Rattle.std.specs.Prelude.{unsigned_abs, IfSome}
use Rattle.std.specs.List.{sum_by, fold}
use Rattle.cds_rules.specs.Fields.{Fields}
use Rattle.cds_trace.specs.Signal.{Signal, IsSample}
use Rattle.cds_trace.specs.declared.trace.TheConstants.{GREATEST_SAMPLE}
use Rattle.cds_trace.specs.Heights.{span, height_by_span}
use Rattle.cds_base.specs.declared.cluster.Part.{Part}
use Rattle.cds_base.specs.declared.peak.TheConstants.{HEIGHT_LIMIT}
use Rattle.cds_area.specs.Area.{area_by_double_span}
use Rattle.cds_trace.specs.Standing.{IsCrest}
use Rattle.cds_events.specs.Standing.{IsPart}
use Rattle.cds_integrate.specs.Lines.{first_behind}
use Rattle.cds_integrate.specs.Shapes.{Shape}
use Rattle.cds_integrate.specs.Measures.{Measured, riders, area_end, twice_area, is_rejected}
use Rattle.cds_integrate.specs.Peaks.{Found}

-- a part whose range lies on its line, and that within the trace
pub record IsShape (signal : Signal) (shape : Shape) : Type 0 where
  pub low : shape.start ≤ shape.apex
  pub high : shape.apex ≤ shape.end
  pub order : shape.start < shape.end
  pub reaches : shape.end ≤ shape.reach
  pub from : shape.line.from ≤ shape.start
  pub to : shape.end ≤ shape.line.to
  pub within : shape.line.to < length signal.samples
  pub levels : IsSample shape.line.from_y × IsSample shape.line.to_y
  pub crest : shape.start < shape.apex → shape.apex < shape.end → IsCrest signal shape.apex
  -- a rider lies over the whole of its line, and nowhere under it
  pub exact : shape.rider ≡ true →
      area_by_double_span signal shape.line shape.start shape.end ≡ twice_area signal shape *ℤ pos (span shape.line)
  pub over : shape.rider ≡ true → pos 0 ≤ℤ twice_area signal shape

-- the line of a part reaches as far as its area goes
abbrev pub Reaches : Shape → List Shape → Type 0
Reaches shape later = area_end shape later ≤ shape.line.to

-- parts in a row, each of which begins where the one before reaches
abbrev pub InRow : Signal → ℕ → List Shape → ℕ → Type 0
InRow signal start [] end = start ≡ end
InRow signal start (shape ∷ later) end =
    (shape.start ≡ start) × IsShape signal shape × Reaches shape later × InRow signal shape.reach later end

-- how many samples these ranges have, but one for each
abbrev pub widths : List Found → ℕ
widths found = sum_by (λ one. one.part.shape.end - one.part.shape.start) found

-- where the part of the last rider among those directly ahead ends, or this sample where there is none
abbrev pub from_reach : ℕ → List Shape → ℕ
from_reach reach later = fold (λ reach rider. rider.reach) reach (riders later)

-- the most that an area over so many samples but one may be, times its divisor: twice the greatest sample for each
abbrev pub most_area : ℕ → ℕ → ℕ
most_area range den = 2 * unsigned_abs GREATEST_SAMPLE * range * den

-- a part whose measures are those of its line, within what is reported
pub record IsMeasured (signal : Signal) (part : Measured) : Type 0 where
  pub shape : IsShape signal part.shape
  pub area : part.area ≤ℤ pos (most_area (length signal.samples - 1) (2 * span part.shape.line))
  pub height : part.height ≡ height_by_span signal part.shape.line part.shape.apex
  pub small : unsigned_abs part.height < HEIGHT_LIMIT

-- a found part, and the one before it
pub record IsFound (signal : Signal) (fields : Fields) (found : Found) : Type 0 where
  pub part : IsMeasured signal found.part
  pub before : IfSome found.before (IsMeasured signal)
  pub kept : is_rejected signal fields found.part ≡ false

-- a part over a baseline with these nodes, none of which lies inside it
pub record IsOver (signal : Signal) (nodes : List ℕ) (part : Part) : Type 0 where
  pub part_is : IsPart signal part
  pub order : part.start < part.end
  pub clear : part.end ≤ first_behind nodes part.start
  pub within : first_behind nodes part.start < length signal.samples
