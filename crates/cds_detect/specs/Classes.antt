-- The classes of a trace: whether its bunched signal rises, falls or is flat. This project's own rule.
use Rattle.std.specs.Prelude.{ℕ, ◌+◌, ◌-◌, ◌*◌, ◌/◌, Bool, ℤ, pos, ◌-ℤ◌, ◌*ℤ◌, int_le, List, map, length, if◌then◌else◌}
use Rattle.std.specs.List.{range_with_len}
use Rattle.cds_base.specs.declared.event.Event.{Event}
use Rattle.cds_trace.specs.Signal.{Signal, sum_between}
use Rattle.cds_detect.specs.declared.class.Class.{Class}
use Rattle.cds_detect.specs.declared.class.TheConstants.{SECOND_US}
use Rattle.cds_detect.specs.declared.class.Class.TheVariants.{Inhibited, Up, Down, Flat}
use Rattle.cds_detect.specs.Slopes.{Slopes, is_inhibited, slopes_at}

-- by what peaks are found
pub record Settings : Type 0 where
  -- how many samples make a bunch
  pub bunch : ℕ
  -- the method's own slope thresholds
  pub own : Slopes
  -- how many flat classes in a row end a climb
  pub plateau : ℕ
  -- the events of the method and then those of the row
  pub events : List Event

-- the sum of the samples of bunch j
abbrev pub bunch_sum : Signal → ℕ → ℕ → ℤ
bunch_sum signal bunch j = sum_between signal (j * bunch) (j * bunch + bunch)

-- how many classes there are: two fewer than whole bunches, and none of fewer than three bunches
abbrev pub class_count : ℕ → ℕ → ℕ
class_count samples bunch = samples / bunch - 2

-- one count per second over two bunches makes this difference of their sums, in millionths of a count
abbrev pub weight_of : ℕ → ℕ → ℕ
weight_of bunch period = 2 * bunch * bunch * period

-- the sum rises by at least the slope from `low` to `high`, two bunches further
abbrev pub is_steep : ℕ → ℕ → ℤ → ℤ → Bool
is_steep slope weight low high = int_le (pos (slope * weight)) ((high -ℤ low) *ℤ pos SECOND_US)

-- the class under these thresholds of a bunch with the sum `near`, and with the sum `far` two bunches further
abbrev pub class_between : Slopes → ℕ → ℕ → ℤ → ℤ → Class
class_between slopes bunch period near far =
    let weight = weight_of bunch period in
    if is_steep slopes.on weight near far then Up else (if is_steep slopes.off weight far near then Down else Flat)

-- the class of bunch j: inhibited where an event forbids peaks at its time; else up, down or flat under the thresholds of its time
abbrev pub class_of : Signal → Settings → ℕ → Class
class_of signal settings j =
    let time = j * settings.bunch * signal.period in
    if is_inhibited settings.events time then Inhibited
    else class_between (slopes_at settings.own settings.events time) settings.bunch signal.period
    (bunch_sum signal settings.bunch j) (bunch_sum signal settings.bunch (j + 2))

-- the classes of a trace, in the order of their bunches
unfoldable pub classes : Signal → Settings → List Class
classes signal settings =
    map (class_of signal settings) (range_with_len 0 (class_count (length signal.samples) settings.bunch))
