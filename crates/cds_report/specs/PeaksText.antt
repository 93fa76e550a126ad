-- The text of a trace's raw peaks. This project's own format.
use Rattle.std.specs.Prelude.{ℕ, ◌+◌, List, [], ◌∷◌, ◌++◌, codes, decimal}
use Rattle.cds_base.specs.declared.peak.RawPeak.{RawPeak}
use Rattle.cds_detect.specs.declared.raw.Raw.{Raw}
use Rattle.cds_detect.specs.declared.raw.Raw.TheVariants as raw

-- the line of a peak: its number, its first sample, its apex and its last sample, in digits with commas between
abbrev pub peak_line : ℕ → RawPeak → List ℕ
peak_line number peak = decimal number ++ codes "," ++ decimal peak.start ++ codes "," ++ decimal peak.apex ++ codes "," ++ decimal peak.end ++ codes "\n"

-- the lines of the peaks, the first of which has this number
abbrev pub peak_lines : ℕ → List RawPeak → List ℕ
peak_lines number [] = []
peak_lines number (peak ∷ peaks) = peak_line number peak ++ peak_lines (number + 1) peaks

-- the table of the peaks, numbered from 1
abbrev pub peaks_table : List RawPeak → List ℕ
peaks_table peaks = codes "peak,start,apex,end\n" ++ peak_lines 1 peaks

-- what stands in place of the table where there are more raw peaks than a row may have: their number
abbrev pub too_many_line : ℕ → List ℕ
too_many_line count = codes "too many " ++ decimal count ++ codes "\n"

-- the text of what the detector finds in a trace
abbrev pub peaks_text : Raw → List ℕ
peaks_text (raw.List peaks) = peaks_table peaks
peaks_text (raw.TooMany count) = too_many_line count
