-- The points of calibration, and the lines through them. The points come from the sequences that a sequence lists, each
-- evaluated by its own method; the two methods know a component by its name. This project's own.
use Rattle.std.specs.Prelude.{ℕ, List, [], Option, None, map, take, flat_map, filter_map, option_map, if◌then◌else◌}
use Rattle.std.specs.Prelude.{unwrap_or}
use Rattle.std.specs.Option.{option_and_then}
use Rattle.std.specs.Result.{result_ok}
use Rattle.cds_base.specs.Named.{named}
use Rattle.cds_rules.specs.Fields.{Fields}
use Rattle.cds_rules.specs.Values.{number_of}
use Rattle.cds_rules.specs.declared.component.Component.{Component}
use Rattle.cds_rules.specs.declared.method.Weight.{Weight}
use Rattle.cds_calib.specs.declared.point.Point.{Point}
use Rattle.cds_calib.specs.declared.point.TheConstants.{MOST_POINTS}
use Rattle.cds_calib.specs.Fit.{fit_of}
use Rattle.cds_calib.specs.Determination.{determination_of}
use Rattle.cds_integrate.specs.Seen.{PeakSeen, RowSeen}
use Rattle.cds_book.specs.Tables.{numbered}
use Rattle.cds_graph.specs.declared.calibration.Calibration.{Calibration}
use Rattle.cds_graph.specs.Found.{FoundSequence, FoundListed, FoundStandard}
use Rattle.cds_graph.specs.Rows.{peak_in}

-- the amount that a standard states of the component of this name
abbrev pub amount_stated : List (List ℕ × ℕ) → List ℕ → Option ℕ
amount_stated amounts name = option_map (λ (a : List ℕ × ℕ). a.1) (named (λ (a : List ℕ × ℕ). a.0) amounts name)

-- the peak that a method names so in a row
abbrev pub peak_called : Fields → RowSeen → List ℕ → Option PeakSeen
peak_called fields row name =
    option_and_then (λ component. result_ok (peak_in row component)) (number_of fields.components name)

-- the point of an amount and a peak: the amount and the reported area
abbrev pub point_at : ℕ → PeakSeen → Point
point_at amount peak = record { amount = amount; area = peak.units }

-- the point that a standard gives, if it is used, states an amount of the component and has a peak named so
abbrev pub point_of : List ℕ → Fields → FoundStandard → Option Point
point_of name fields standard =
    if standard.row.used
    then option_and_then (λ amount. option_map (point_at amount) (peak_called fields standard.found name))
    (amount_stated standard.row.amounts name)
    else None

-- the points that a listed sequence gives, row by row
abbrev pub points_in : List ℕ → FoundListed → List Point
points_in name listed = filter_map (point_of name listed.fields) listed.rows

-- the points of the component of this name from these listed sequences, in their order, at most the first 64
unfoldable pub points_from : List FoundListed → List ℕ → List Point
points_from standards name = take MOST_POINTS (flat_map (points_in name) standards)

-- the calibration by these points
abbrev pub calibration_by : Weight → List Point → Calibration
calibration_by weight points = record {
  points = points;
  line = fit_of weight points;
  determination = determination_of points;
}

-- the calibration of a component
abbrev pub calibration_of : FoundSequence → Component → Calibration
calibration_of sequence component =
    calibration_by sequence.fields.weight (points_from sequence.standards component.name)

-- the calibrations of the components of the method, in their order
abbrev pub calibrations_of : FoundSequence → List Calibration
calibrations_of sequence = map (calibration_of sequence) sequence.fields.components

-- the points of a component by its number among these calibrations; none where there is no such component
abbrev pub points_numbered : List Calibration → ℕ → List Point
points_numbered calibrations component =
    unwrap_or (option_map (λ (c : Calibration). c.points) (numbered calibrations component)) []
