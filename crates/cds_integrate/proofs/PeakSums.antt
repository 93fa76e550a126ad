-- The areas of a row's peaks between two samples are those of its parts there, where none of these is rejected.
use Rattle.std.proofs.Common.{◌≡◌, ℕ, suc, ◌*◌, ◌<◌, Bool, true, false, not, List, [], ◌∷◌, map, Option, Some, None, ℤ}
use Rattle.std.proofs.Common.{pos, ◌*ℤ◌, inl, inr, refl, sym, ap, subst, ◌∙◌, arith}
use Rattle.std.specs.List.{filter, list_any, flat_map}
use Rattle.std.proofs.lemmas.Bool.{cases_Bool, or_parts}
use Rattle.std.proofs.lemmas.List.{map-append}
use Rattle.std.proofs.lemmas.List.Elements.{filter-append}
use Rattle.cds_base.specs.declared.event.Event.{Event}
use Rattle.cds_base.specs.declared.peak.Peak.{Peak}
use Rattle.cds_base.specs.declared.cluster.Cluster.{Cluster}
use Rattle.cds_rules.specs.Fields.{Fields, row_events}
use Rattle.cds_trace.specs.Signal.{Signal, IsTrace}
use Rattle.cds_trace.specs.Heights.{span}
use Rattle.cds_integrate.specs.Measures.{Measured}
use Rattle.cds_integrate.specs.Peaks.{Found}
use Rattle.cds_integrate.specs.Row.{Answer, Peaks, TooMany}
use Rattle.cds_trace.specs.Heights.{chord}
use Rattle.cds_integrate.specs.Measures.{is_rejected}
use Rattle.cds_integrate.specs.Peaks.{with_before, kept_of, ArePeaks}
use Rattle.cds_integrate.specs.Row.{row_clusters, parts_in, parts_of, found_in, found_of, IsRow}
use Rattle.cds_integrate.specs.Sums.{AreOver, area_fraction, peak_fraction, lies_within, peak_lies_within, IsConserved}
use Rattle.cds_integrate.specs.Sums.{IsSummed, Sums}
use Rattle.cds_integrate.proofs.NumberLaws.{share-same}
use Rattle.cds_integrate.proofs.NodeLaws.{each-any}
use Rattle.cds_integrate.proofs.FoundLaws.{kept-yes, kept-no}
use Rattle.cds_integrate.proofs.ConservationLaws.{two-more, conserves}

-- fractions with divisors above 0, one by one the same numbers as those of another list
abbrev AreSame : List (ℤ × ℕ) → List (ℤ × ℕ) → Type 0
AreSame [] [] = Unit {0}
AreSame [] (y ∷ ys) = ⊥
AreSame (x ∷ xs) [] = ⊥
AreSame (x ∷ xs) (y ∷ ys) = (0 < y.1) × (y.0 *ℤ pos x.1 ≡ x.0 *ℤ pos y.1) × AreSame xs ys

-- they are together the same
over-same : (den : ℕ) (shares : List ℤ) (xs ys : List (ℤ × ℕ)) → AreOver den shares xs → AreSame xs ys →
    AreOver den shares ys
over-same den [] [] [] over same = tt
over-same den [] [] (y ∷ ys) over same = absurd same
over-same den [] (x ∷ xs) ys over same = absurd over
over-same den (share ∷ shares) [] ys over same = absurd over
over-same den (share ∷ shares) (x ∷ xs) [] over same = absurd same
over-same den (share ∷ shares) (x ∷ xs) (y ∷ ys) over same =
    (same.0, share-same share x.0 y.0 y.1 x.1 den over.0 over.1 same.1, over-same den shares xs ys over.2 same.2)

-- one item of a list that is kept, and one that isn't
filter-yes : {X : Type 0} (test : X → Bool) (x : X) (xs : List X) → test x ≡ true →
    filter test (x ∷ xs) ≡ x ∷ filter test xs
filter-yes test x xs is = rw is refl

filter-no : {X : Type 0} (test : X → Bool) (x : X) (xs : List X) → test x ≡ false →
    filter test (x ∷ xs) ≡ filter test xs
filter-no test x xs is = rw is refl

-- where none of the items that pass one test passes another, nothing is lost by leaving out those that pass the other
-- first
filter-kept : {X : Type 0} (test other : X → Bool) (xs : List X) → list_any other (filter test xs) ≡ false →
    filter test (filter (λ x. not (other x)) xs) ≡ filter test xs
filter-kept test other [] none = refl
filter-kept test other (x ∷ xs) none =
    elim (cases_Bool (test x)) [
      | inl in_it ↦
          let split = or_parts (other x) (list_any other (filter test xs)) (rw in_it at none) in
          rw split.0 (rw in_it (ap (λ ys. x ∷ ys) (filter-kept test other xs split.1)))
      | inr out ↦
          let rest = filter-kept test other xs (rw out at none) in
          elim (cases_Bool (other x)) [
            | inl is ↦ rw (is, out) rest
            | inr not_it ↦ rw not_it (rw out rest)
          ]
    ]

-- the part of a found part
abbrev part_of : Found → Measured
part_of found = found.part

-- a part isn't rejected
abbrev is_kept : Signal → Fields → Measured → Bool
is_kept signal fields part = not (is_rejected signal fields part)

-- the found parts of a cluster, and those of a row, are its parts that aren't rejected
kept-parts : (signal : Signal) (fields : Fields) (before : Option Measured) (parts : List Measured) →
    map part_of (kept_of signal fields (with_before before parts)) ≡ filter (is_kept signal fields) parts
kept-parts signal fields before [] = refl
kept-parts signal fields before (part ∷ parts) =
    let one : Found = record { before = before; part = part } in
    let rest = kept-parts signal fields (Some part) parts in
    elim (cases_Bool (is_rejected signal fields part)) [
      | inl is ↦ rw (kept-no signal fields one (with_before (Some part) parts) is) (rw is rest)
      | inr other ↦ rw (kept-yes signal fields one (with_before (Some part) parts) other)
          (rw other (ap (λ ps. part ∷ ps) rest))
    ]

found-parts : (signal : Signal) (fields : Fields) (events : List Event) (clusters : List Cluster) →
    map part_of (flat_map (found_in signal fields events) clusters) ≡ filter (is_kept signal fields)
    (flat_map (parts_in signal events) clusters)
found-parts signal fields events [] = refl
found-parts signal fields events (cluster ∷ clusters) =
    let here = kept-parts signal fields None (parts_in signal events cluster) in
    let rest = found-parts signal fields events clusters in
    map-append part_of (found_in signal fields events cluster) (flat_map (found_in signal fields events) clusters)
    ∙ (rw (here, rest) (sym (filter-append (is_kept signal fields) (parts_in signal events cluster)
    (flat_map (parts_in signal events) clusters))))

-- the areas of peaks between two samples are those of the found parts there
peaks-same : (signal : Signal) (fields : Fields) (naming : List (Option ℕ)) (number a b : ℕ) (found : List Found)
    (peaks : List Peak) →
    ArePeaks signal fields naming number found peaks →
    AreSame (map area_fraction (filter (lies_within a b) (map part_of found)))
    (map peak_fraction (filter (peak_lies_within a b) peaks))
peaks-same signal fields naming number a b [] [] are = tt
peaks-same signal fields naming number a b [] (peak ∷ peaks) are = absurd are
peaks-same signal fields naming number a b (one ∷ found) [] are = absurd are
peaks-same signal fields naming number a b (one ∷ found) (peak ∷ peaks) are =
    let rest = peaks-same signal fields naming (suc number) a b found peaks are.1 in
    let same : peak_lies_within a b peak ≡ lies_within a b one.part = rw (are.0.start, are.0.end) refl in
    elim (cases_Bool (lies_within a b one.part)) [
      | inl is ↦
          rw (
            filter-yes (lies_within a b) one.part (map part_of found) is,
            filter-yes
                (peak_lies_within a b) peak peaks (same ∙ is),
          )
          (omega (arith, peak.area.positive), are.0.area, rest)
      | inr other ↦
          rw (
            filter-no (lies_within a b) one.part (map part_of found) other,
            filter-no
                (peak_lies_within a b) peak peaks (same ∙ other),
          ) rest
    ]

-- so where none of a row's parts there is rejected, both are together the same
row-summed : (signal : Signal) (fields : Fields) (manual : List Event) (naming : List (Option ℕ)) (peaks : List Peak)
    (a b : ℕ) →
    ArePeaks signal fields naming 1 (found_of signal fields manual) peaks →
    IsConserved signal (parts_of signal fields manual) a b →
    IsSummed signal fields (parts_of signal fields manual) peaks a b
row-summed signal fields manual naming peaks a b are whole kept =
    let found : List Found = found_of signal fields manual in
    let parts : List Measured = parts_of signal fields manual in
    let those = found-parts signal fields (row_events fields manual) (row_clusters signal fields manual) in
    let same = peaks-same signal fields naming 1 a b found peaks are in
    let within : filter (lies_within a b) (map part_of found) ≡ filter (lies_within a b) parts =
    ap (filter (lies_within a b)) those ∙ filter-kept (lies_within a b) (is_rejected signal fields) parts kept in
    let areas = subst (λ (ps : List Measured). AreSame (map area_fraction ps)
    (map peak_fraction (filter (peak_lies_within a b) peaks))) within same in
    record {
      some = whole.some;
      shares = whole.shares;
      each = over-same (2 * span (chord signal a b)) whole.shares (map area_fraction (filter (lies_within a b) parts))
          (map peak_fraction (filter (peak_lies_within a b) peaks)) whole.each areas;
      sum = whole.sum;
    }

-- the areas of the peaks of each row
pub sums : (signal : Signal) (fields : Fields) (manual : List Event) (row : Answer) → IsTrace signal →
    IsRow signal fields manual row → Sums signal fields manual row
sums signal fields manual (Peaks peaks) trace is =
    λ k d below.
    let parts : List Measured = parts_of signal fields manual in
    two-more (IsConserved signal parts) (IsSummed signal fields parts peaks) (λ n. Unit {0}) _
    (λ a b _ _ whole. row-summed signal fields manual is.1.naming peaks a b is.1.peaks_are whole)
    (each-any _) (conserves signal fields manual trace k d below)
sums signal fields manual (TooMany number) trace is = tt
