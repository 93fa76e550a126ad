-- One step of the naming: a pair is given where neither its component nor its peak has another.
use Rattle.std.specs.Prelude.{ℕ, Bool, true, false, not, ◌&&◌, cond, List, Option, Some, is_none, slice_index_or, slice_set}
use Rattle.cds_names.specs.Naming.{Pair, peak_of}

-- the component has no peak yet, and the peak no component
abbrev pub is_free : List (Option ℕ) → List Bool → Pair → Bool
is_free peaks taken pair = is_none (peak_of peaks pair.component) && not (slice_index_or taken pair.peak false)

-- the naming with the pair, where both its sides are free
abbrev pub peaks_with : List (Option ℕ) → List Bool → Pair → List (Option ℕ)
peaks_with peaks taken pair = cond (is_free peaks taken pair) (slice_set peaks pair.component (Some pair.peak)) peaks

-- which peaks have a component then
abbrev pub taken_with : List (Option ℕ) → List Bool → Pair → List Bool
taken_with peaks taken pair = cond (is_free peaks taken pair) (slice_set taken pair.peak true) taken
