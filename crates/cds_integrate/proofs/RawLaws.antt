-- The raw peaks of a signal stand in order, whatever is stated about finding them.
use Rattle.std.proofs.Common.{◌≡◌, ℕ, ◌≤◌, [], map, length, refl, ap, arith, inl, inr}
use Rattle.std.specs.List.{range_with_len}
use Rattle.std.proofs.lemmas.Bool.{cases_eq}
use Rattle.std.proofs.Math.Nat.{div-zero}
use Rattle.cds_trace.specs.Signal.{Signal}
use Rattle.cds_trace.specs.Standing.{RawFrom}
use Rattle.cds_detect.specs.Classes.{Settings, class_count, class_of, classes}
use Rattle.cds_detect.specs.Raw.{raw_peaks_of}
use Rattle.cds_detect.proofs.StandLaws.{stand-raw_peaks_of}

pub raw-stand : (signal : Signal) (settings : Settings) → 2 ≤ length signal.samples →
    RawFrom signal 0 (raw_peaks_of signal settings)
unfolding classes
raw-stand signal settings enough = elim (cases_eq settings.bunch 0) [
  | inl none ↦
      let count : class_count (length signal.samples) settings.bunch ≡ 0 =
      rw (none, div-zero (length signal.samples)) refl in
      let empty : classes signal settings ≡ [] =
      ap (λ (m : ℕ). map (class_of signal settings) (range_with_len 0 m)) count in
      rw empty tt
  | inr some ↦ stand-raw_peaks_of signal settings (omega arith) enough
]
