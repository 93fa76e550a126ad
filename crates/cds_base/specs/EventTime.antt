-- The window of a timed event. This project's own rule.
use Rattle.std.specs.Prelude.{ℕ, ◌*◌, ◌&&◌, Bool, nat_le, nat_lt}
use Rattle.cds_base.specs.declared.time.TheConstants.{MILLISECOND_US}

-- the time, in microseconds, lies in the window from `from` up to and without `to`, in milliseconds
abbrev pub is_in_window : ℕ → ℕ → ℕ → Bool
is_in_window from to time = nat_le (MILLISECOND_US * from) time && nat_lt time (MILLISECOND_US * to)
