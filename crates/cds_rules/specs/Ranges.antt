-- The ranges and counts of a method. All are this project's own.
use Rattle.std.specs.Prelude.{◌≡◌, ◌≢◌, ℕ, ◌<◌, ◌≤◌, Bool, true, false, List, length, All, AllPairs, Option, is_some}
use Rattle.std.specs.Option.{ForSome}
use Rattle.cds_base.specs.declared.time.TheConstants.{LAST_TIME_MS, LAST_TIME_US}
use Rattle.cds_base.specs.declared.event.TheConstants.{MOST_SLOPE}
use Rattle.cds_rules.specs.declared.component.Component.{Component}
use Rattle.cds_rules.specs.declared.check.Check.{Check}
use Rattle.cds_rules.specs.declared.check.CheckKind.{CheckKind}
use Rattle.cds_rules.specs.declared.check.CheckKind.TheVariants.{Resolution, R2}
use Rattle.cds_rules.specs.declared.limits.TheConstants.{MOST_BUNCH, MOST_PLATEAU, MOST_FUSE, MOST_AREA, MOST_HEIGHT}
use Rattle.cds_rules.specs.declared.limits.TheConstants.{FIRST_RULES, LAST_RULES, MOST_COMPONENTS, MOST_CHECKS, MOST_LIMIT, MOST_R2_LIMIT}

-- the numbers by which peaks are found: 1 to 64 samples a bunch, slopes of 1 to 1,000,000,000 counts per second, at most 1,000 flat bunches
pub record SlopeRanges (bunch slope_on slope_off plateau : ℕ) : Type 0 where
  pub bunch_least : 1 ≤ bunch
  pub bunch_most : bunch ≤ MOST_BUNCH
  pub slope_on_least : 1 ≤ slope_on
  pub slope_on_most : slope_on ≤ MOST_SLOPE
  pub slope_off_least : 1 ≤ slope_off
  pub slope_off_most : slope_off ≤ MOST_SLOPE
  pub plateau_most : plateau ≤ MOST_PLATEAU

-- the numbers by which peaks are fused and left out: at most 1,000 bunches, 4 * 10^15 count milliseconds, 200,000,000 counts
pub record LeastRanges (fuse min_area min_height : ℕ) : Type 0 where
  pub fuse_most : fuse ≤ MOST_FUSE
  pub min_area_most : min_area ≤ MOST_AREA
  pub min_height_most : min_height ≤ MOST_HEIGHT

-- the optional times: a dead time of 1 to 14,400,000,000 microseconds, and a noise window with both ends or none, from below to
pub record TimeRanges (dead_time_us noise_from_ms noise_to_ms : Option ℕ) : Type 0 where
  pub dead_time_least : ForSome dead_time_us (λ time. 1 ≤ time)
  pub dead_time_most : ForSome dead_time_us (λ time. time ≤ LAST_TIME_US)
  pub noise_both : is_some noise_from_ms ≡ is_some noise_to_ms
  pub noise_order : ForSome noise_from_ms (λ from. ForSome noise_to_ms (λ to. from < to))
  pub noise_most : ForSome noise_to_ms (λ to. to ≤ LAST_TIME_MS)

-- an edition of the rules of integration, 1 or 2
pub record RulesRange (rules : ℕ) : Type 0 where
  pub least : FIRST_RULES ≤ rules
  pub most : rules ≤ LAST_RULES

-- the times of a component, at most 14,400,000 milliseconds each
pub record ComponentTimes (component : Component) : Type 0 where
  pub time_most : component.time_ms ≤ LAST_TIME_MS
  pub window_most : component.window_ms ≤ LAST_TIME_MS

-- at most 32 components of different names, each with its times in range
pub record ComponentRanges (components : List Component) : Type 0 where
  pub count : length components ≤ MOST_COMPONENTS
  pub times : All ComponentTimes components
  pub different : AllPairs (λ one later. one.name ≢ later.name) components

-- only a check of resolution has a second component
abbrev pub has_other : CheckKind → Bool
has_other Resolution = true
has_other _ = false

-- the greatest limit of a check: 10,000 for determination, else 1,000,000
abbrev pub most_limit : CheckKind → ℕ
most_limit R2 = MOST_R2_LIMIT
most_limit _ = MOST_LIMIT

-- a check of a method with this many components, which are numbered from 1
pub record CheckRange (count : ℕ) (check : Check) : Type 0 where
  pub component_least : 1 ≤ check.component
  pub component_most : check.component ≤ count
  pub other_stands : is_some check.other ≡ has_other check.kind
  pub other_least : ForSome check.other (λ other. 1 ≤ other)
  pub other_most : ForSome check.other (λ other. other ≤ count)
  pub other_differs : ForSome check.other (λ other. other ≢ check.component)
  pub limit_least : 1 ≤ check.limit
  pub limit_most : check.limit ≤ most_limit check.kind

-- at most 64 checks, each of components of the method
pub record CheckRanges (components : List Component) (checks : List Check) : Type 0 where
  pub count : length checks ≤ MOST_CHECKS
  pub each : All (CheckRange (length components)) checks
