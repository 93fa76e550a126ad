use Rattle.std.proofs.Common.{◌≡◌, map, take}
use Rattle.cds_graph.specs.Held.{found_shown}
use Rattle.cds_graph.specs.Points.{calibration_of}
use Rattle.cds_graph.proofs.calibration.calibrations_of.Given as goal

abbrev pub invariant-loop-component : goal.invariant-loop-component
invariant-loop-component l =
    l.calibrations.items ≡ map (calibration_of (found_shown l.found)) (take l.component-index l.components)
