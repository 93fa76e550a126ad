-- The definitions on small traces, worked out by hand.
use Rattle.std.proofs.Common.{◌≡◌, List, [], ◌∷◌, pos, refl}
use Rattle.cds_detect.specs.declared.class.Class.TheVariants.{Up, Down, Flat}
use Rattle.cds_base.specs.declared.event.Event.{Event}
use Rattle.cds_base.specs.declared.event.Event.TheVariants.{Inhibit, Slope}
use Rattle.cds_trace.specs.Signal.{Signal}
use Rattle.cds_detect.specs.Classes.{Settings, classes}
use Rattle.cds_base.specs.Search.{least}
use Rattle.cds_detect.specs.Raw.{raw_peaks_of}

abbrev by : List Event → Settings
by events = record { bunch = 1; own = record { at = 0; on = 5; off = 5 }; plateau = 3; events = events }

abbrev one : Signal
one = record { period = 1000000; samples = pos 0 ∷ pos 0 ∷ pos 0 ∷ pos 10 ∷ pos 40 ∷ pos 60 ∷ pos 40 ∷ pos 10 ∷ pos 0 ∷ pos 0 ∷ pos 0 ∷ [] }

classes-one : classes one (by []) ≡ Flat ∷ Up ∷ Up ∷ Up ∷ Flat ∷ Down ∷ Down ∷ Down ∷ Flat ∷ []
unfolding least classes
classes-one = refl

raw-one : raw_peaks_of one (by []) ≡ record { start = 1; apex = 5; end = 8 } ∷ []
unfolding least classes
raw-one = refl

inhibited : raw_peaks_of one (by (Inhibit 0 6000 ∷ [])) ≡ []
unfolding least classes
inhibited = refl

steeper : raw_peaks_of one (by (Slope 0 30 5 ∷ [])) ≡ []
unfolding least classes
steeper = refl
