-- What a value of a method's text states, for each kind of field of its own. Nothing where it is of another kind or out of range.
use Rattle.std.specs.Prelude.{ℕ, ◌+◌, ◌==◌, List, [], ◌∷◌, Option, Some, None, option_map, option_and_then, position, codes, if◌then◌else◌}
use Rattle.std.specs.Str.{bytes_eq}
use Rattle.cds_fields.specs.Datum.{Datum, word_in}
use Rattle.cds_rules.specs.declared.component.Component.{Component}
use Rattle.cds_rules.specs.declared.check.CheckKind.{CheckKind}
use Rattle.cds_rules.specs.declared.check.CheckKind.TheVariants.{Resolution, Tailing, Plates, SignalNoise, Retention, PeakValley, RsdArea, RsdTime, R2}
use Rattle.cds_rules.specs.declared.method.Weight.{Weight}
use Rattle.cds_rules.specs.declared.method.Weight.TheVariants.{Equal, Origin, Inverse}

-- the words of weighting
abbrev pub weights : List (List ℕ × Weight)
weights = (codes "equal", Equal) ∷ (codes "origin", Origin) ∷ (codes "inverse", Inverse) ∷ []

-- the words for the kinds of checks
abbrev pub check_kinds : List (List ℕ × CheckKind)
check_kinds =
    (codes "resolution", Resolution)
    ∷ (codes "tailing", Tailing)
    ∷ (codes "plates", Plates)
    ∷ (codes "signal_noise", SignalNoise)
    ∷ (codes "retention", Retention)
    ∷ (codes "peak_valley", PeakValley)
    ∷ (codes "rsd_area", RsdArea)
    ∷ (codes "rsd_time", RsdTime)
    ∷ (codes "r2", R2)
    ∷ []

-- the number of the component of this name, counted from 1
abbrev pub number_of : List Component → List ℕ → Option ℕ
number_of components text = option_map (λ place. place + 1) (position (λ c. bytes_eq c.name text) components)

-- the name of a component, by its number
abbrev pub component_in : List Component → Datum → Option ℕ
component_in components d = option_and_then (number_of components) (word_in d)

-- the same, of another component than this
abbrev pub other_in : List Component → ℕ → Datum → Option ℕ
other_in components component d =
    option_and_then (λ other. if other == component then None else Some other) (component_in components d)
