-- The components of a row's peaks: each is one of the method's, and no two peaks are of one.
use Rattle.std.proofs.Common.{◌≡◌, ℕ, zero, suc, ◌+◌, ◌≤◌, Bool, true, List, [], ◌∷◌, Option, Some, None, length}
use Rattle.std.proofs.Common.{All, refl, arith, sym, ap, ◌∙◌}
use Rattle.std.specs.Prelude.{IfSome}
use Rattle.std.specs.List.{range_with_len}
use Rattle.std.proofs.lemmas.Bool.{eqb-true}
use Rattle.std.proofs.lemmas.List.{length-map}
use Rattle.std.proofs.lemmas.List.Elements.{All-nil, All-cons}
use Rattle.std.proofs.lemmas.List.Kept.{AllPairs-cons}
use Rattle.cds_base.specs.declared.event.Event.{Event}
use Rattle.cds_base.specs.declared.peak.Peak.{Peak}
use Rattle.cds_rules.specs.Fields.{Fields}
use Rattle.cds_trace.specs.Signal.{Signal}
use Rattle.cds_names.specs.Naming.{number_of}
use Rattle.cds_events.proofs.ListLaws.{find-passes, find-all}
use Rattle.cds_integrate.specs.Peaks.{Found, gives, component_of, ArePeaks}
use Rattle.cds_integrate.specs.Row.{Answer, Peaks, TooMany, peaks_in, window_of, found_of, IsOfOne, AreOfTheirOwn}
use Rattle.cds_integrate.specs.Row.{AreComponents, IsRow}

-- numbers in a row from one on
within-range : (start count most : ℕ) → start + count ≤ most + 1 → 1 ≤ start →
    All (λ k. (1 ≤ k) × (k ≤ most)) (range_with_len start count)
within-range start zero most room low = All-nil (λ k. (1 ≤ k) × (k ≤ most))
within-range start (suc count) most room low =
    All-cons (λ k. (1 ≤ k) × (k ≤ most)) start (range_with_len (start + 1) count) (low, omega arith)
    (within-range (start + 1) count most (omega arith) (omega arith))

-- a component names the peak of the number that it gives
gives-is : (number : ℕ) (named : Option ℕ) → gives number named ≡ true → named ≡ Some number
gives-is number None e = cc
gives-is number (Some peak) e = ap Some (eqb-true peak number e)

-- the component of a peak is one of so many as a naming has, and is named this peak
record IsNamed (naming : List (Option ℕ)) (number component : ℕ) : Type 0 where
  low : 1 ≤ component
  high : component ≤ length naming
  named : number_of naming component ≡ Some number

component-is : (naming : List (Option ℕ)) (number component : ℕ) → component_of naming number ≡ Some component →
    IsNamed naming number component
component-is naming number component e =
    let test : ℕ → Bool = λ c. gives number (number_of naming c) in
    let range = find-all (λ k. (1 ≤ k) × (k ≤ length naming)) test (range_with_len 1 (length naming)) component e
    (within-range 1 (length naming) (length naming) (omega arith) (omega arith)) in
    record {
      low = range.0;
      high = range.1;
      named = gives-is number (number_of naming component) (find-passes test
          (range_with_len 1 (length naming)) component e);
    }

-- the component of a peak, where it has one, is named a peak of this number or a later one
abbrev IsLater : List (Option ℕ) → ℕ → Peak → Type 0
IsLater naming low peak = (c : ℕ) → peak.component ≡ Some c → (m : ℕ) × (low ≤ m) × (number_of naming c ≡ Some m)

later-peaks : (signal : Signal) (fields : Fields) (naming : List (Option ℕ)) (low number : ℕ) (found : List Found)
    (peaks : List Peak) →
    low ≤ number → ArePeaks signal fields naming number found peaks → All (IsLater naming low) peaks
later-peaks signal fields naming low number [] [] l are = All-nil (IsLater naming low)
later-peaks signal fields naming low number [] (peak ∷ peaks) l are = absurd are
later-peaks signal fields naming low number (one ∷ found) [] l are = absurd are
later-peaks signal fields naming low number (one ∷ found) (peak ∷ peaks) l are =
    All-cons (IsLater naming low) peak peaks
    (λ c e. (number, l, (component-is naming number c (sym are.0.component_is ∙ e)).named))
    (later-peaks signal fields naming low (suc number) found peaks (omega arith) are.1)

-- no two peaks are of one component
own-components : (signal : Signal) (fields : Fields) (naming : List (Option ℕ)) (number : ℕ) (found : List Found)
    (peaks : List Peak) →
    ArePeaks signal fields naming number found peaks → AreOfTheirOwn peaks
own-components signal fields naming number [] [] are = λ i j d l m. absurd (omega arith)
own-components signal fields naming number [] (peak ∷ peaks) are = absurd are
own-components signal fields naming number (one ∷ found) [] are = absurd are
own-components signal fields naming number (one ∷ found) (peak ∷ peaks) are =
    let R : Peak → Peak → Type 0 = λ a b. (c : ℕ) → a.component ≡ Some c → b.component ≡ Some c → ⊥ in
    let later = later-peaks signal fields naming (suc number) (suc number) found peaks (omega arith) are.1 in
    let apart : All (R peak) peaks = λ k d l c e f.
    let here : number_of naming c ≡ Some number =
    (component-is naming number c (sym are.0.component_is ∙ e)).named in
    let there = later k d l c f in
    let same : Some number ≡ Some there.0 = sym here ∙ there.2 in
    let equal : number ≡ there.0 = cc in
    omega (arith, equal, there.1) in
    AllPairs-cons R peak peaks apart (own-components signal fields naming (suc number) found peaks are.1)

-- each component is one of so many
of-one : (components : ℕ) (naming : List (Option ℕ)) (number : ℕ) (component named : Option ℕ) →
    length naming ≡ components →
    component_of naming number ≡ named → component ≡ named → IfSome component (λ c. (1 ≤ c) × (c ≤ components))
of-one components naming number None named count e is = tt
of-one components naming number (Some c) named count e is =
    let here = component-is naming number c (e ∙ sym is) in
    (here.low, omega (arith, here.high, count))

each-component : (signal : Signal) (fields : Fields) (naming : List (Option ℕ)) (number : ℕ) (found : List Found)
    (peaks : List Peak) →
    length naming ≡ length fields.components → ArePeaks signal fields naming number found peaks →
    All (IsOfOne (length fields.components)) peaks
each-component signal fields naming number [] [] count are = All-nil (IsOfOne (length fields.components))
each-component signal fields naming number [] (peak ∷ peaks) count are = absurd are
each-component signal fields naming number (one ∷ found) [] count are = absurd are
each-component signal fields naming number (one ∷ found) (peak ∷ peaks) count are =
    All-cons (IsOfOne (length fields.components)) peak peaks
    (of-one (length fields.components) naming number peak.component
    (component_of naming number) count refl are.0.component_is)
    (each-component signal fields naming (suc number) found peaks count are.1)

-- the components of the peaks of each row
pub components : (signal : Signal) (fields : Fields) (manual : List Event) (row : Answer) →
    IsRow signal fields manual row →
    AreComponents fields (peaks_in row)
components signal fields manual (Peaks peaks) is =
    let naming : List (Option ℕ) = is.1.naming in
    let found : List Found = found_of signal fields manual in
    let count : length naming ≡ length fields.components =
    is.1.unblocked.is_naming.one_entry_each ∙ length-map fields.components window_of in
    record {
      each = each-component signal fields naming 1 found peaks count is.1.peaks_are;
      apart = own-components signal fields naming 1 found peaks is.1.peaks_are;
    }
components signal fields manual (TooMany number) is = record {
  each = All-nil (IsOfOne (length fields.components));
  apart = λ i j d l m. absurd (omega arith);
}
