-- Where the signal crosses a level of a peak's height, left and right of its apex. After the widths at half height and
-- at one twentieth of the height of USP General Chapter 621, in this project's form: between two samples the signal is
-- straight, and times are rounded down to the microsecond. Heights stand times twenty times the line's span, so that
-- all are whole numbers.
use Rattle.std.specs.Prelude.{ℕ, zero, suc, ◌+◌, ◌-◌, ◌*◌, ◌/◌, ℤ, pos, ◌-ℤ◌, ◌*ℤ◌, unsigned_abs, int_le, Bool, if◌then◌else◌, Option, Some, None, option_map}
use Rattle.std.specs.List.{range_with_len, find}
use Rattle.cds_base.specs.declared.peak.Line.{Line}
use Rattle.cds_trace.specs.Signal.{Signal}
use Rattle.cds_trace.specs.Heights.{height_by_span}
use Rattle.cds_figures.specs.declared.widths.TheConstants.{TWENTIETHS}

-- the greatest of `count` numbers in a row, the first of which is `from`, that passes the test, if one does
abbrev pub last_passing : (ℕ → Bool) → ℕ → ℕ → Option ℕ
last_passing test from zero = None
last_passing test from (suc count) = if test (from + count) then Some (from + count) else last_passing test from count

-- the least of them
abbrev pub first_passing : (ℕ → Bool) → ℕ → ℕ → Option ℕ
first_passing test from count = find test (range_with_len from count)

-- the height at sample i, in the parts of a height in which levels are stated
abbrev pub scaled_height : Signal → Line → ℕ → ℤ
scaled_height signal line i = height_by_span signal line i *ℤ pos TWENTIETHS

-- the level of so many twentieths of the height at the apex
abbrev pub scaled_level : Signal → Line → ℕ → ℕ → ℤ
scaled_level signal line apex twentieths = height_by_span signal line apex *ℤ pos twentieths

-- the signal at sample i is not above the level
abbrev pub is_down_to : Signal → Line → ℤ → ℕ → Bool
is_down_to signal line level i = int_le (scaled_height signal line i) level

-- the time at which the straight line between samples i and i + 1, on the two sides of a level, meets it, rounded down: of
-- the period between the two as much as lies, of the way from the one height to the other, before the level
abbrev pub meeting_time : ℕ → ℕ → ℤ → ℤ → ℤ → ℕ
meeting_time period i from to level = i * period + period * unsigned_abs (level -ℤ from) / unsigned_abs (to -ℤ from)

-- the same of a signal above a line
abbrev pub meets_at : Signal → Line → ℤ → ℕ → ℕ
meets_at signal line level i =
    meeting_time signal.period i (scaled_height signal line i) (scaled_height signal line (i + 1)) level

-- the left crossing: the last sample from the start to before the apex that is down to the level, and the next one, lie on
-- its two sides
abbrev pub left_crossing : Signal → Line → ℤ → ℕ → ℕ → Option ℕ
left_crossing signal line level start apex =
    option_map (meets_at signal line level) (last_passing (is_down_to signal line level) start (apex - start))

-- the right crossing: the sample before the first one behind the apex, up to the end, that is down to the level, and that one
abbrev pub right_crossing : Signal → Line → ℤ → ℕ → ℕ → Option ℕ
right_crossing signal line level apex end =
    option_map (λ i. meets_at signal line level (i - 1))
    (first_passing (is_down_to signal line level) (apex + 1) (end - apex))

-- both, where there are both
abbrev pub both : Option ℕ → Option ℕ → Option (ℕ × ℕ)
both None right = None
both (Some left) None = None
both (Some left) (Some right) = Some (left, right)

-- the crossings of a peak at so many twentieths of its height, as times in microseconds
abbrev pub crossings_of : Signal → Line → ℕ → ℕ → ℕ → ℕ → Option (ℕ × ℕ)
crossings_of signal line start apex end twentieths =
    let level = scaled_level signal line apex twentieths in
    both (left_crossing signal line level start apex) (right_crossing signal line level apex end)
