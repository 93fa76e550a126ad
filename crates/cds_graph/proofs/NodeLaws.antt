-- What is found in a row, as its node keeps it.
use Rattle.std.proofs.Common.{◌≡◌, ◌∙◌, ℕ, ◌≤◌, Option, Some, None, option_map}
use Rattle.std.proofs.Common.{find, refl, sym, ap, arith}
use Rattle.std.specs.Prelude.{ok_or}
use Rattle.cds_base.specs.declared.peak.Missing.TheVariants.{NoPeak}
use Rattle.cds_base.specs.declared.peak.Peak.{Peak}
use Rattle.cds_integrate.specs.Row.{Answer, Peaks, TooMany, peaks_in, too_many_in}
use Rattle.cds_integrate.specs.Seen.{PeakSeen, peak_seen, seen}
use Rattle.cds_graph.specs.Nodes.{IsCounted, seen_by}
use Rattle.cds_graph.specs.Rows.{is_number, peak_in}
use Rattle.cds_graph.proofs.FoundLaws.{find-seen}

-- a peak that is found, as it is seen
shown-found : (found : Option Peak) →
    seen_by peak_seen (ok_or found NoPeak) ≡ ok_or (option_map peak_seen found) NoPeak
shown-found None = refl
shown-found (Some peak) = refl

-- the peak of a component in a row that has peaks
pub peak-found : (part : Answer) (component : ℕ) (found : Option Peak) → IsCounted part → too_many_in part ≤ 0 →
    found ≡ find (λ (p : Peak). is_number component p.component) (peaks_in part) →
    seen_by peak_seen (ok_or found NoPeak) ≡ peak_in (seen part) component
peak-found (Peaks list) component found some none is =
    ap (λ (o : Option Peak). seen_by peak_seen (ok_or o NoPeak)) is
    ∙ shown-found (find (λ (p : Peak). is_number component p.component) list)
    ∙ ap (λ (o : Option PeakSeen). ok_or o NoPeak)
    (sym (find-seen (λ (p : PeakSeen). is_number component p.component) peak_seen list))
peak-found (TooMany number) component found some none is = absurd (omega (arith, some number refl, none))
