-- Where the scan stands.
use Rattle.std.proofs.Common.{◌≡◌, ◌+◌, ◌<◌, length, arith, ◌∙◌, sym}
use Rattle.cds_trace.specs.Signal.{Signal}
use Rattle.cds_detect.specs.declared.class.Class.TheVariants.{Flat}
use Rattle.cds_detect.specs.declared.scan.Window.{Window}
use Rattle.cds_detect.specs.Bunches.{IsBunchSum}
use Rattle.cds_detect.specs.Classes.{Settings, class_count, class_of, bunch_sum}
use Rattle.cds_detect.specs.Windows.{Stands}
use Rattle.cds_detect.proofs.ClassesLaws.{class_at-classes, class_at-classes_past}

-- at a class
pub stands-here : (signal : Signal) (settings : Settings) (w : Window) → w.at < class_count (length signal.samples) settings.bunch → w.class ≡ class_of signal settings w.at → w.middle ≡ bunch_sum signal settings.bunch (w.at + 1) → w.far ≡ bunch_sum signal settings.bunch (w.at + 2) → IsBunchSum w.middle → IsBunchSum w.far → Stands signal settings w
stands-here signal settings w l class middle far middle_range far_range = record {
  within = omega arith;
  class = class ∙ sym (class_at-classes signal settings w.at l);
  middle = λ _. middle;
  far = λ _. far;
  middle_range = middle_range;
  far_range = far_range;
}

-- behind the last class
pub stands-past : (signal : Signal) (settings : Settings) (w : Window) → w.at ≡ class_count (length signal.samples) settings.bunch → w.class ≡ Flat → IsBunchSum w.middle → IsBunchSum w.far → Stands signal settings w
stands-past signal settings w e class middle_range far_range = record {
  within = omega arith;
  class = class ∙ sym (class_at-classes_past signal settings w.at (omega arith));
  middle = λ l. absurd (omega arith);
  far = λ l. absurd (omega arith);
  middle_range = middle_range;
  far_range = far_range;
}
