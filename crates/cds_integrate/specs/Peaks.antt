-- The peaks of a row: the parts that aren't rejected, each with its widths, its valley and its name. This project's own
-- rules.
use Rattle.std.specs.Prelude.{◌≡◌, ℕ, suc, ◌*◌, ◌&&◌, ◌==◌, Bool, false, not, List, [], ◌∷◌, Option, Some, None, length}
use Rattle.std.specs.Prelude.{ℤ, pos, int_lt, if◌then◌else◌}
use Rattle.std.specs.List.{filter, find, range_with_len}
use Rattle.cds_base.specs.declared.peak.Ratio.{Ratio}
use Rattle.cds_base.specs.declared.peak.Peak.{Peak}
use Rattle.cds_rules.specs.Fields.{Fields}
use Rattle.cds_trace.specs.Signal.{Signal}
use Rattle.cds_trace.specs.Heights.{span, height_by_span}
use Rattle.cds_area.specs.Area.{IsRatio}
use Rattle.cds_names.specs.Naming.{number_of}
use Rattle.cds_figures.specs.Crossings.{crossings_of}
use Rattle.cds_figures.specs.PeakTime.{peak_time_of}
use Rattle.cds_integrate.specs.declared.peaks.TheConstants.{HALF, TWENTIETH}
use Rattle.cds_integrate.specs.Shapes.{Shape}
use Rattle.cds_integrate.specs.Measures.{Measured, reported_area, is_rejected}

-- a part with the one before it in its cluster, if there is one
pub record Found : Type 0 where
  pub before : Option Measured
  pub part : Measured

-- each part with the one before it in its cluster, if there is one
abbrev pub with_before : Option Measured → List Measured → List Found
with_before before [] = []
with_before before (part ∷ parts) = record { before = before; part = part } ∷ with_before (Some part) parts

-- those of parts that aren't rejected
abbrev pub kept_of : Signal → Fields → List Found → List Found
kept_of signal fields parts = filter (λ found. not (is_rejected signal fields found.part)) parts

-- the parts of a cluster that aren't rejected
abbrev pub accepted : Signal → Fields → List Measured → List Found
accepted signal fields parts = kept_of signal fields (with_before None parts)

-- the height of a part's left end above its line, times the line's span
abbrev pub boundary_height : Signal → Measured → ℤ
boundary_height signal part = height_by_span signal part.shape.line part.shape.start

-- the boundary of two parts in a row is a valley of the second one: neither is a rider, the first isn't rejected, and
-- the boundary lies above the line
abbrev pub is_valley_between : Signal → Fields → Measured → Measured → Bool
is_valley_between signal fields before part =
    (not before.shape.rider && not part.shape.rider)
    && (not (is_rejected signal fields before) && int_lt (pos 0) (boundary_height signal part))

-- the part before a peak, where the boundary of the two is a valley
abbrev pub neighbour : Signal → Fields → Option Measured → Measured → Option Measured
neighbour signal fields None part = None
neighbour signal fields (Some before) part = if is_valley_between signal fields before part then Some before else None

-- the height of that part and the height of the boundary, where there is such a part
abbrev pub IsValley : Signal → Measured → Option Measured → Option (Ratio × Ratio) → Type 0
IsValley signal part None None = Unit {0}
IsValley signal part None (Some heights) = ⊥
IsValley signal part (Some before) None = ⊥
IsValley signal part (Some before) (Some heights) =
    IsRatio heights.0 before.height (span before.shape.line)
    × IsRatio heights.1 (boundary_height signal part) (span part.shape.line)

-- the same of a part and of the one before it in its cluster
abbrev pub IsValleyOf : Signal → Fields → Option Measured → Measured → Option (Ratio × Ratio) → Type 0
IsValleyOf signal fields before part heights = IsValley signal part (neighbour signal fields before part) heights

-- the crossings of a peak at so many twentieths of its height
abbrev pub crossings_at : Signal → Shape → ℕ → Option (ℕ × ℕ)
crossings_at signal shape twentieths = crossings_of signal shape.line shape.start shape.apex shape.end twentieths

-- the time of a part under the method's rules, in microseconds
abbrev pub time_of : Signal → Fields → Found → ℕ
time_of signal fields found =
    peak_time_of signal fields.rules found.part.shape.start found.part.shape.apex found.part.shape.end

-- what a row says of a part that isn't rejected, and of its component
pub record IsPeak (signal : Signal) (fields : Fields) (component : Option ℕ) (found : Found) (peak : Peak) :
    Type 0 where
  pub start : peak.start ≡ found.part.shape.start
  pub apex : peak.apex ≡ found.part.shape.apex
  pub end : peak.end ≡ found.part.shape.end
  pub rider : peak.rider ≡ found.part.shape.rider
  pub line : peak.line ≡ found.part.shape.line
  -- its time under the rules
  pub time : peak.time_us ≡ time_of signal fields found
  -- its exact area and height
  pub area : IsRatio peak.area found.part.area (2 * span found.part.shape.line)
  pub height : IsRatio peak.height found.part.height (span found.part.shape.line)
  -- its reported area
  pub units : peak.units ≡ reported_area signal found.part
  -- where it crosses half its height and one twentieth of it
  pub half : peak.half ≡ crossings_at signal found.part.shape HALF
  pub twentieth : peak.twentieth ≡ crossings_at signal found.part.shape TWENTIETH
  pub valley : IsValleyOf signal fields found.before found.part peak.valley
  pub component_is : peak.component ≡ component

-- what a component names is the peak of this number
abbrev pub gives : ℕ → Option ℕ → Bool
gives number None = false
gives number (Some peak) = peak == number

-- the number of the component that names the peak of this number; both are counted from 1
abbrev pub component_of : List (Option ℕ) → ℕ → Option ℕ
component_of naming number =
    find (λ component. gives number (number_of naming component)) (range_with_len 1 (length naming))

-- the peaks of a row in their order, the first of which has this number
abbrev pub ArePeaks : Signal → Fields → List (Option ℕ) → ℕ → List Found → List Peak → Type 0
ArePeaks signal fields naming number [] [] = Unit {0}
ArePeaks signal fields naming number [] (peak ∷ peaks) = ⊥
ArePeaks signal fields naming number (found ∷ rest) [] = ⊥
ArePeaks signal fields naming number (found ∷ rest) (peak ∷ peaks) =
    IsPeak signal fields (component_of naming number) found peak × ArePeaks signal fields naming (suc number) rest peaks
