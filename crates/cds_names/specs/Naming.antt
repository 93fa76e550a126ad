-- Which peak each component of a method names. A naming knows components and peaks by their places, from 0; their
-- numbers are counted from 1. This project's own rule.
use Rattle.std.specs.Prelude.{◌≡◌, ℕ, ◌+◌, ◌-◌, ◌<◌, ◌≤◌, ◌⊎◌, ◌==◌, List, length, Option, Some, None, option_map, slice_get, slice_index_or, if◌then◌else◌}
use Rattle.std.specs.Int.{abs_diff}
use Rattle.cds_base.specs.declared.Window.{Window}
use Rattle.cds_names.specs.declared.names.TheConstants.{NUMBER_LIMIT}

-- a component and a peak, by their places, and how far the time of the peak is from the component's expected time
pub record Pair : Type 0 where
  pub distance : ℕ
  pub component : ℕ
  pub peak : ℕ

-- the component wants the peak, whose time lies in the component's window
pub record IsWanted (windows : List Window) (times : List ℕ) (pair : Pair) : Type 0 where
  pub window : Window
  pub time : ℕ
  pub component_is : slice_get windows pair.component ≡ Some window
  pub peak_is : slice_get times pair.peak ≡ Some time
  pub distance_is : pair.distance ≡ abs_diff window.time_us time
  pub near : pair.distance ≤ window.width_us

-- a pair comes before another: it is nearer, or as near and of an earlier component, or of the same component
-- and an earlier peak
abbrev pub IsBefore : Pair → Pair → Type 0
IsBefore p q =
    (p.distance < q.distance)
    ⊎ ((p.distance ≡ q.distance) × ((p.component < q.component) ⊎ ((p.component ≡ q.component) × (p.peak < q.peak))))

-- the peak that a naming gives a component, where it gives one
abbrev pub peak_of : List (Option ℕ) → ℕ → Option ℕ
peak_of naming component = slice_index_or naming component None

-- the number of the peak that a naming gives the component at a place, where it gives one
abbrev pub number_at : List (Option ℕ) → ℕ → Option ℕ
number_at naming place = option_map (λ peak. peak + 1) (peak_of naming place)

-- the number of the peak that a naming gives the component of a number, where it gives one; no component has the number 0
abbrev pub number_of : List (Option ℕ) → ℕ → Option ℕ
number_of naming number = if number == 0 then None else number_at naming (number - 1)

-- components and peaks have numbers below the limit
pub record IsNumbered (naming : List (Option ℕ)) : Type 0 where
  pub few : length naming < NUMBER_LIMIT
  pub numbers : (c p : ℕ) → peak_of naming c ≡ Some p → p + 1 < NUMBER_LIMIT

-- the naming has the pair
abbrev pub HasPair : List (Option ℕ) → Pair → Type 0
HasPair naming pair = peak_of naming pair.component ≡ Some pair.peak

-- a naming gives each component at most one peak, one that it wants, and each peak to at most one component
pub record IsNaming (windows : List Window) (times : List ℕ) (naming : List (Option ℕ)) : Type 0 where
  pub one_entry_each : length naming ≡ length windows
  pub wanted : (c p : ℕ) → peak_of naming c ≡ Some p →
      (d : ℕ) × IsWanted windows times (record { distance = d; component = c; peak = p })
  pub no_peak_twice : (c e p : ℕ) → peak_of naming c ≡ Some p → peak_of naming e ≡ Some p → c ≡ e

-- a wanted pair blocks a naming where its component has no peak or one of a later pair, and its peak has no
-- component or one of a later pair
pub record Blocks (windows : List Window) (times : List ℕ) (naming : List (Option ℕ)) (pair : Pair) : Type 0 where
  pub wanted : IsWanted windows times pair
  pub component_would : (other : Pair) → IsWanted windows times other → HasPair naming other →
      other.component ≡ pair.component → IsBefore pair other
  pub peak_would : (other : Pair) → IsWanted windows times other → HasPair naming other →
      other.peak ≡ pair.peak → IsBefore pair other

-- a naming that no wanted pair blocks
pub record IsUnblocked (windows : List Window) (times : List ℕ) (naming : List (Option ℕ)) : Type 0 where
  pub is_naming : IsNaming windows times naming
  pub unblocked : (pair : Pair) → Blocks windows times naming pair → ⊥

-- no other naming is without a blocking pair
abbrev pub IsOnlyUnblocked : List Window → List ℕ → List (Option ℕ) → Type 0
IsOnlyUnblocked windows times naming = (other : List (Option ℕ)) → IsUnblocked windows times other → other ≡ naming

-- the naming of peaks with these times: no wanted pair blocks it, and it is the only one without a blocking pair
pub record TheNaming (windows : List Window) (times : List ℕ) : Type 0 where
  pub naming : List (Option ℕ)
  pub unblocked : IsUnblocked windows times naming
  pub only : IsOnlyUnblocked windows times naming
