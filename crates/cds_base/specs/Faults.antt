-- Counts of faults, which never fall and stand still at their greatest value.
use Rattle.std.specs.Prelude.{ℕ, ◌+◌, ◌-◌, ◌^◌, ◌≤◌, min}

-- the greatest count of faults
abbrev pub most_faults : ℕ
most_faults = 2 ^ 64 - 1

-- the count rose: it is greater than before, or stands at its greatest value
abbrev pub Rose : ℕ → ℕ → Type 0
Rose before now = min (before + 1) most_faults ≤ now
