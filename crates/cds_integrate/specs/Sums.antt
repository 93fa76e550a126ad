-- Conservation: what the areas over one baseline line are together, those of the parts and those of the peaks. This
-- project's own rule.
use Rattle.std.specs.Prelude.{◌≡◌, ℕ, ◌*◌, ◌<◌, List, [], ◌∷◌, ◌&&◌, Bool, false, All, nat_le, map, ℤ, pos, ◌+ℤ◌, ◌*ℤ◌}
use Rattle.std.specs.List.{fold, filter, list_any}
use Rattle.cds_base.specs.declared.event.Event.{Event}
use Rattle.cds_base.specs.declared.peak.Peak.{Peak}
use Rattle.cds_rules.specs.Fields.{Fields, row_events}
use Rattle.cds_trace.specs.Signal.{Signal}
use Rattle.cds_trace.specs.Heights.{span}
use Rattle.cds_area.specs.Area.{area_by_double_span}
use Rattle.cds_integrate.specs.Measures.{Measured}
use Rattle.cds_integrate.specs.Row.{Answer, Peaks, TooMany}
use Rattle.cds_trace.specs.Heights.{chord}
use Rattle.cds_integrate.specs.Shapes.{nodes_of}
use Rattle.cds_integrate.specs.Measures.{is_rejected}
use Rattle.cds_integrate.specs.Row.{row_clusters, parts_of}

-- these whole numbers, over the divisor den, are the fractions one by one; the divisor of each is above 0
abbrev pub AreOver : ℕ → List ℤ → List (ℤ × ℕ) → Type 0
AreOver den [] [] = Unit {0}
AreOver den [] (fraction ∷ fractions) = ⊥
AreOver den (share ∷ shares) [] = ⊥
AreOver den (share ∷ shares) (fraction ∷ fractions) =
    (0 < fraction.1) × (share *ℤ pos fraction.1 ≡ fraction.0 *ℤ pos den) × AreOver den shares fractions

-- the fractions are together num / den: over that divisor, which is above 0, they are whole numbers, whose sum is num
pub record AreTogether (fractions : List (ℤ × ℕ)) (num : ℤ) (den : ℕ) : Type 0 where
  pub some : 0 < den
  pub shares : List ℤ
  pub each : AreOver den shares fractions
  pub sum : fold ◌+ℤ◌ (pos 0) shares ≡ num

-- these areas are together the area over the whole chord of two samples
abbrev pub AreWhole : Signal → ℕ → ℕ → List (ℤ × ℕ) → Type 0
AreWhole signal a b areas =
    AreTogether areas (area_by_double_span signal (chord signal a b) a b) (2 * span (chord signal a b))

-- the area of a part as a fraction, and that of a peak
abbrev pub area_fraction : Measured → ℤ × ℕ
area_fraction part = (part.area, 2 * span part.shape.line)

abbrev pub peak_fraction : Peak → ℤ × ℕ
peak_fraction peak = (peak.area.num, peak.area.den)

-- the range of a part lies between two samples, and that of a peak
abbrev pub lies_within : ℕ → ℕ → Measured → Bool
lies_within a b part = nat_le a part.shape.start && nat_le part.shape.end b

abbrev pub peak_lies_within : ℕ → ℕ → Peak → Bool
peak_lies_within a b peak = nat_le a peak.start && nat_le peak.end b

-- the areas of the parts between two samples, riders and rejected ones included, are together the area over their whole
-- chord
abbrev pub IsConserved : Signal → List Measured → ℕ → ℕ → Type 0
IsConserved signal parts a b = AreWhole signal a b (map area_fraction (filter (lies_within a b) parts))

-- where none of these parts is rejected, the areas of the peaks between the two samples are together the same
abbrev pub IsSummed : Signal → Fields → List Measured → List Peak → ℕ → ℕ → Type 0
IsSummed signal fields parts peaks a b =
    list_any (is_rejected signal fields) (filter (lies_within a b) parts) ≡ false →
    AreWhole signal a b (map peak_fraction (filter (peak_lies_within a b) peaks))

-- P holds of each two neighbours in a list of samples
abbrev pub EachTwo : (ℕ → ℕ → Type 0) → List ℕ → Type 0
EachTwo P [] = Unit {0}
EachTwo P (a ∷ []) = Unit {0}
EachTwo P (a ∷ b ∷ samples) = P a b × EachTwo P (b ∷ samples)

-- P holds of the ends of each baseline line of a row: of each two neighbouring nodes, in each of its clusters
abbrev pub OverEachLine : Signal → Fields → List Event → (ℕ → ℕ → Type 0) → Type 0
OverEachLine signal fields manual P =
    All (λ cluster. EachTwo P (nodes_of signal (row_events fields manual) cluster)) (row_clusters signal fields manual)

-- over each baseline line of a row the areas of all its parts are conserved
abbrev pub Conserves : Signal → Fields → List Event → Type 0
Conserves signal fields manual = OverEachLine signal fields manual (IsConserved signal (parts_of signal fields manual))

-- and those of its peaks are, where no part over the line is rejected; a row of too many raw peaks has no peaks
abbrev pub Sums : Signal → Fields → List Event → Answer → Type 0
Sums signal fields manual (Peaks peaks) =
    OverEachLine signal fields manual (IsSummed signal fields (parts_of signal fields manual) peaks)
Sums signal fields manual (TooMany number) = Unit {0}
