-- The method that a text states, or its first refusal: each table's fields with their ranges, line by line in the order of judging.
-- The form of the text is this project's own.
use Rattle.std.specs.Prelude.{ℕ, ◌+◌, ◌||◌, nat_le, List, [], ◌∷◌, length, Option, Some, None, Result, Ok, Err, ok_or, unwrap_or, codes, if◌then◌else◌}
use Rattle.std.specs.List.{list_any}
use Rattle.std.specs.Str.{bytes_eq}
use Rattle.cds_base.specs.Answers.{◌>>=◌, unless}
use Rattle.cds_base.specs.declared.event.Event.{Event}
use Rattle.cds_base.specs.declared.time.TheConstants.{LAST_TIME_MS, LAST_TIME_US}
use Rattle.cds_fields.specs.Event.{events_of}
use Rattle.cds_fields.specs.Section.{Section, Entry, has, required, optional, only, optional_entries, entry_section, each}
use Rattle.cds_fields.specs.Toml.{toml_fields}
use Rattle.cds_fields.specs.Values.{number_in, name_in, one_of}
use Rattle.cds_base.specs.declared.event.TheConstants.{MOST_SLOPE, MOST_EVENTS}
use Rattle.cds_rules.specs.declared.check.Check.{Check}
use Rattle.cds_rules.specs.declared.check.CheckKind.{CheckKind}
use Rattle.cds_rules.specs.declared.component.Component.{Component}
use Rattle.cds_rules.specs.declared.error.MethodError.{MethodError}
use Rattle.cds_rules.specs.declared.error.MethodError.TheVariants.{NotToml, TwoComponents, TooLong}
use Rattle.cds_rules.specs.declared.limits.TheConstants.{MOST_BUNCH, MOST_PLATEAU, MOST_FUSE, MOST_AREA, MOST_HEIGHT, FIRST_RULES, LAST_RULES, MOST_COMPONENTS, MOST_CHECKS, MOST_METHOD_BYTES}
use Rattle.cds_rules.specs.Fields.{Fields}
use Rattle.cds_rules.specs.Ranges.{has_other, most_limit}
use Rattle.cds_rules.specs.Refusal.{method_refusals}
use Rattle.cds_rules.specs.Values.{weights, check_kinds, component_in, other_in}

-- the two ends of a noise window, where there is one
pub record Noise : Type 0 where
  pub from_ms : Option ℕ
  pub to_ms : Option ℕ

-- the noise window: where one end is there both must be, and it begins before it ends
unfoldable pub noise_of : Section MethodError → Result Noise MethodError
noise_of s =
    if has (codes "noise_from_ms") s || has (codes "noise_to_ms") s
    then (do
      from ← required (number_in 0 LAST_TIME_MS) (codes "noise_from_ms") s
      to ← required (number_in (from + 1) LAST_TIME_MS) (codes "noise_to_ms") s
      Ok (record { from_ms = Some from; to_ms = Some to }))
    else Ok (record { from_ms = None; to_ms = None })

-- the names of the fields of the whole text
abbrev pub top_fields : List (List ℕ)
top_fields =
    codes "bunch" ∷ codes "slope_on" ∷ codes "slope_off" ∷ codes "plateau" ∷ codes "fuse" ∷ codes "min_area" ∷ codes "min_height"
    ∷ codes "weight" ∷ codes "dead_time_us" ∷ codes "noise_from_ms" ∷ codes "noise_to_ms" ∷ codes "rules"
    ∷ codes "component" ∷ codes "event" ∷ codes "check" ∷ []

-- a component, whose name is none of those before it
unfoldable pub component_of : List Component → Entry MethodError → Result Component MethodError
component_of before e = do
  s ← entry_section e
  name ← required name_in (codes "name") s
  _ ← unless (if list_any (λ c. bytes_eq c.name name) before then Some (TwoComponents name) else None)
  time_ms ← required (number_in 0 LAST_TIME_MS) (codes "time_ms") s
  window_ms ← required (number_in 0 LAST_TIME_MS) (codes "window_ms") s
  _ ← only (codes "name" ∷ codes "time_ms" ∷ codes "window_ms" ∷ []) s
  Ok (record { name = name; time_ms = time_ms; window_ms = window_ms })

-- the second component of a check of resolution
unfoldable pub other_of : CheckKind → List Component → ℕ → Section MethodError → Result (Option ℕ) MethodError
other_of kind components component s =
    if has_other kind then (required (other_in components component) (codes "other") s >>= λ other. Ok (Some other)) else Ok None

-- the fields of a check of this kind
abbrev pub check_fields : CheckKind → List (List ℕ)
check_fields kind =
    if has_other kind then codes "kind" ∷ codes "component" ∷ codes "other" ∷ codes "limit" ∷ []
    else codes "kind" ∷ codes "component" ∷ codes "limit" ∷ []

-- a check of these components
unfoldable pub check_of : List Component → Entry MethodError → Result Check MethodError
check_of components e = do
  s ← entry_section e
  kind ← required (one_of check_kinds) (codes "kind") s
  component ← required (component_in components) (codes "component") s
  other ← other_of kind components component s
  limit ← required (number_in 1 (most_limit kind)) (codes "limit") s
  _ ← only (check_fields kind) s
  Ok (record { kind = kind; component = component; other = other; limit = limit })

-- the components, the events and the checks of a method, each list read entry by entry
unfoldable pub components_of : Section MethodError → Result (List Component) MethodError
components_of s = optional_entries MOST_COMPONENTS (codes "component") s >>= λ es. each component_of es

unfoldable pub method_events : Section MethodError → Result (List Event) MethodError
method_events s = optional_entries MOST_EVENTS (codes "event") s >>= λ es. events_of es

unfoldable pub checks_of : List Component → Section MethodError → Result (List Check) MethodError
checks_of components s = optional_entries MOST_CHECKS (codes "check") s >>= λ es. each (λ _. check_of components) es

-- the edition of the rules, the first one where none is stated
unfoldable pub rules_of : Section MethodError → Result ℕ MethodError
rules_of s = optional (number_in FIRST_RULES LAST_RULES) (codes "rules") s >>= λ rules. Ok (unwrap_or rules FIRST_RULES)

-- the fields of a method that are no lists, each with its range; the lists are still empty
unfoldable pub settings_of : Section MethodError → Result Fields MethodError
settings_of s = do
  bunch ← required (number_in 1 MOST_BUNCH) (codes "bunch") s
  slope_on ← required (number_in 1 MOST_SLOPE) (codes "slope_on") s
  slope_off ← required (number_in 1 MOST_SLOPE) (codes "slope_off") s
  plateau ← required (number_in 0 MOST_PLATEAU) (codes "plateau") s
  fuse ← required (number_in 0 MOST_FUSE) (codes "fuse") s
  min_area ← required (number_in 0 MOST_AREA) (codes "min_area") s
  min_height ← required (number_in 0 MOST_HEIGHT) (codes "min_height") s
  weight ← required (one_of weights) (codes "weight") s
  dead_time_us ← optional (number_in 1 LAST_TIME_US) (codes "dead_time_us") s
  noise ← noise_of s
  rules ← rules_of s
  Ok (record {
    bunch = bunch;
    slope_on = slope_on;
    slope_off = slope_off;
    plateau = plateau;
    fuse = fuse;
    min_area = min_area;
    min_height = min_height;
    weight = weight;
    dead_time_us = dead_time_us;
    noise_from_ms = noise.from_ms;
    noise_to_ms = noise.to_ms;
    rules = rules;
    components = [];
    events = [];
    checks = [];
  })

-- a method: its fields in their order, then the unknown ones, then its lists
unfoldable pub method_of : Section MethodError → Result Fields MethodError
method_of s = do
  settings ← settings_of s
  _ ← only top_fields s
  components ← components_of s
  events ← method_events s
  checks ← checks_of components s
  Ok (record settings { components = components; events = events; checks = checks })

-- the method that a text of at most 65,536 bytes states, which is TOML in UTF-8, or its first refusal
unfoldable pub stated : List ℕ → Result Fields MethodError
stated text =
    if nat_le (length text) MOST_METHOD_BYTES
    then (do
      fields ← ok_or (toml_fields text) NotToml
      method_of (record { front = []; fields = fields; told = method_refusals }))
    else Err TooLong
