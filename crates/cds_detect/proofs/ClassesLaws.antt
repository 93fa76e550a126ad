-- The list of classes, by its indices.
use Rattle.std.proofs.Common.{◌≡◌, ℕ, ◌+◌, ◌*◌, ◌<◌, ◌≤◌, false, List, ◌++◌, ℤ, length, arith, sym}
use Rattle.std.proofs.lemmas.List.FromFn.{length-map-range_with_len, get_or-map-range_with_len}
use Rattle.cds_trace.specs.Signal.{Signal}
use Rattle.cds_detect.specs.declared.class.Class.TheVariants.{Flat}
use Rattle.cds_detect.specs.declared.class.Class.{Class}
use Rattle.cds_detect.specs.Classes.{Settings, class_count, class_of, class_between, classes, bunch_sum}
use Rattle.cds_detect.specs.Slopes.{Slopes, is_inhibited, slopes_at}
use Rattle.cds_base.specs.declared.event.Event.{Event}
use Rattle.std.proofs.lemmas.Grind.{common_steps}
use Rattle.cds_detect.specs.Spans.{class_at}
use Rattle.cds_detect.proofs.SpansLaws.{class_at-past}

pub length-classes : (signal : Signal) (settings : Settings) → length (classes signal settings) ≡ class_count (length signal.samples) settings.bunch
unfolding classes
length-classes signal settings = length-map-range_with_len (class_of signal settings) 0 (class_count (length signal.samples) settings.bunch)

pub class_at-classes : (signal : Signal) (settings : Settings) (j : ℕ) → j < class_count (length signal.samples) settings.bunch → class_at (classes signal settings) j ≡ class_of signal settings j
unfolding classes
class_at-classes signal settings j l = get_or-map-range_with_len (class_of signal settings) 0 (class_count (length signal.samples) settings.bunch) j j Flat l (omega arith)

pub class_at-classes_past : (signal : Signal) (settings : Settings) (j : ℕ) → class_count (length signal.samples) settings.bunch ≤ j → class_at (classes signal settings) j ≡ Flat
class_at-classes_past signal settings j l = class_at-past (classes signal settings) j (omega (arith, length-classes signal settings))

-- where no event forbids peaks, the class is that of the sums under the thresholds of its time
pub class_of-free : (signal : Signal) (settings : Settings) (j time period : ℕ) (near far : ℤ) (slopes : Slopes) (class : Class) → time ≡ j * settings.bunch * signal.period → period ≡ signal.period → is_inhibited settings.events time ≡ false → slopes ≡ slopes_at settings.own settings.events time → near ≡ bunch_sum signal settings.bunch j → far ≡ bunch_sum signal settings.bunch (j + 2) → class ≡ class_between slopes settings.bunch period near far → class ≡ class_of signal settings j
class_of-free signal settings j time period near far slopes class at p free in_force n f is =
    let whole : class_between (slopes_at settings.own settings.events time) settings.bunch signal.period (bunch_sum signal settings.bunch j) (bunch_sum signal settings.bunch (j + 2)) ≡ class = rw (← n, ← f, ← p, ← in_force) (sym is) in
    rw (← at, free) (sym whole)

pub is_inhibited-append : (xs ys : List Event) (time : ℕ) → is_inhibited xs time ≡ false → is_inhibited ys time ≡ false → is_inhibited (xs ++ ys) time ≡ false
is_inhibited-append xs ys time e f = grind (arith, common_steps)

pub ruleset class_laws = (length-classes, class_at-classes, class_at-classes_past)
