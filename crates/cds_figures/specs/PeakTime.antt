-- The time of a peak: that of its apex sample, or of the vertex of the parabola through the apex sample and its two
-- neighbours. This project's own rules.
use Rattle.std.specs.Prelude.{ℕ, ◌+◌, ◌-◌, ◌*◌, ◌&&◌, ◌==◌, Bool, ℤ, pos, ◌+ℤ◌, ◌-ℤ◌, ◌*ℤ◌, nat_lt, unsigned_abs, if◌then◌else◌}
use Rattle.std.specs.Int.{int_div_euclid}
use Rattle.cds_trace.specs.Signal.{Signal, sample_at}
use Rattle.cds_figures.specs.declared.times.TheConstants.{VERTEX_RULES}

-- how sharply the signal bends down at sample i: by how much twice the sample is above the sum of its two neighbours
abbrev pub bend_at : Signal → ℕ → ℤ
bend_at signal i = pos 2 *ℤ sample_at signal i -ℤ (sample_at signal (i - 1) +ℤ sample_at signal (i + 1))

-- how far the vertex of the parabola through sample i and its two neighbours lies behind sample i, in microseconds, rounded
-- down towards minus infinity: the period, times the rise from the one neighbour to the other, over twice the bend
abbrev pub vertex_offset : Signal → ℕ → ℤ
vertex_offset signal i =
    int_div_euclid (pos signal.period *ℤ (sample_at signal (i + 1) -ℤ sample_at signal (i - 1)))
    (pos 2 *ℤ bend_at signal i)

-- the vertex counts under rules 2, and where the apex lies strictly inside the range of the peak
abbrev pub is_at_vertex : ℕ → ℕ → ℕ → ℕ → Bool
is_at_vertex rules start apex end = (rules == VERTEX_RULES) && (nat_lt start apex && nat_lt apex end)

-- the time of a peak with this range and this apex sample, in microseconds: that of the vertex where it counts, and else
-- that of the apex sample
abbrev pub peak_time_of : Signal → ℕ → ℕ → ℕ → ℕ → ℕ
peak_time_of signal rules start apex end =
    if is_at_vertex rules start apex end then unsigned_abs (pos (apex * signal.period) +ℤ vertex_offset signal apex)
    else apex * signal.period
