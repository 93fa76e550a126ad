-- The parts of a run of fused peaks: one for each peak, cut at the valleys. This project's own rule.
use Rattle.std.specs.Prelude.{ℕ, ◌+◌, ◌-◌, List, [], ◌∷◌}
use Rattle.cds_base.specs.declared.cluster.Cut.{Cut}
use Rattle.cds_base.specs.declared.cluster.Cut.TheVariants.{Valley}
use Rattle.cds_base.specs.declared.cluster.Part.{Part}
use Rattle.cds_trace.specs.Signal.{Signal}
use Rattle.cds_events.specs.Placed.{Placed}
use Rattle.cds_trace.specs.Extremes.{first_least}

-- the valley of two neighbours: the first least sample strictly between their apexes
abbrev pub valley : Signal → Placed → Placed → ℕ
valley signal a b = first_least signal (a.apex + 1) (b.apex - 1)

-- where the part of a peak ends: at the valley before the next peak of its run, or where the last peak ends
abbrev pub part_end : Signal → Placed → List Placed → ℕ
part_end signal peak [] = peak.end
part_end signal peak (next ∷ later) = valley signal peak next

-- the parts of the rest of a run from this sample on, where the first of them has this left end
abbrev pub parts_from : Signal → ℕ → Cut → List Placed → List Part
parts_from signal start left [] = []
parts_from signal start left (peak ∷ later) =
    let end = part_end signal peak later in
    record { start = start; apex = peak.apex; end = end; left = left } ∷ parts_from signal end Valley later
