-- Parts that aren't rejected, one at a time and with their widths, and what they come from.
use Rattle.std.proofs.Common.{◌≡◌, ℕ, suc, ◌+◌, ◌-◌, ◌<◌, ◌≤◌, true, false, List, [], ◌∷◌, ◌++◌, All, length, drop}
use Rattle.std.proofs.Common.{get_or, Option, Some, None, pos, inl, inr, refl, sym, ap, ◌∙◌, arith, append_assoc}
use Rattle.std.proofs.Common.{drop-cons}
use Rattle.std.specs.List.{flat_map}
use Rattle.std.proofs.lemmas.Bool.{cases_Bool}
use Rattle.std.proofs.lemmas.List.Sums.{sum_by-append}
use Rattle.cds_base.specs.declared.cluster.Cluster.{Cluster}
use Rattle.cds_rules.specs.Fields.{Fields}
use Rattle.cds_trace.specs.Signal.{Signal}
use Rattle.cds_events.specs.Standing.{IsCluster, ClustersFrom}
use Rattle.cds_integrate.specs.Shapes.{Shape}
use Rattle.cds_integrate.specs.Measures.{Measured}
use Rattle.cds_integrate.specs.Peaks.{Found}
use Rattle.cds_integrate.specs.Measures.{measure, measured, is_rejected}
use Rattle.cds_integrate.specs.Peaks.{with_before, kept_of}
use Rattle.cds_integrate.specs.Standing.{InRow, IsFound, widths}
use Rattle.cds_integrate.proofs.RowLaws.{no_shape}

-- a found part to stand where a list has none
abbrev pub no_found : Found
no_found = record { before = None; part = record { shape = no_shape; area = pos 0; height = pos 0 } }

-- how many samples the range of a found part has, but one
abbrev pub width_of : Found → ℕ
width_of one = one.part.shape.end - one.part.shape.start

zero-add : (n : ℕ) → 0 + n ≡ n
zero-add n = omega arith

-- one more width
pub widths-on : (one : Found) (found : List Found) → widths (one ∷ found) ≡ width_of one + widths found
widths-on one found = sum_by-append width_of (one ∷ []) found ∙ ap (λ n. n + widths found) (zero-add (width_of one))

-- a part that is kept, and one that isn't
pub kept-yes : (signal : Signal) (fields : Fields) (one : Found) (rest : List Found) →
    is_rejected signal fields one.part ≡ false →
    kept_of signal fields (one ∷ rest) ≡ one ∷ kept_of signal fields rest
kept-yes signal fields one rest is = rw is refl

pub kept-no : (signal : Signal) (fields : Fields) (one : Found) (rest : List Found) →
    is_rejected signal fields one.part ≡ true →
    kept_of signal fields (one ∷ rest) ≡ kept_of signal fields rest
kept-no signal fields one rest is = rw is refl

-- the ranges of the parts of a row that aren't rejected are together no wider than the row
pub kept-widths : (signal : Signal) (fields : Fields) (before : Option Measured) (shapes : List Shape)
    (start end : ℕ) → InRow signal start shapes end →
    widths (kept_of signal fields (with_before before (measured signal shapes))) + start ≤ end
kept-widths signal fields before [] start end row = omega (arith, row)
kept-widths signal fields before (shape ∷ later) start end row =
    let part : Measured = measure signal shape later in
    let one : Found = record { before = before; part = part } in
    let others : List Found = with_before (Some part) (measured signal later) in
    let rest = kept-widths signal fields (Some part) later shape.reach end row.3 in
    elim (cases_Bool (is_rejected signal fields part)) [
      | inl is ↦ rw (kept-no signal fields one others is) (omega (arith, rest, row.0, row.1.order, row.1.reaches))
      | inr other ↦ rw (kept-yes signal fields one others other, widths-on one (kept_of signal fields others))
          (omega (arith, rest, row.0, row.1.order, row.1.reaches))
    ]

-- the ranges of found parts have at least two samples each
pub found-count : (signal : Signal) (fields : Fields) (found : List Found) → All (IsFound signal fields) found →
    length found ≤ widths found
found-count signal fields [] each = omega arith
found-count signal fields (one ∷ found) each =
    let here : IsFound signal fields one = each 0 no_found (omega arith) in
    let rest = found-count signal fields found (λ k d below. each (suc k) d (omega arith)) in
    rw (widths-on one found) (omega (arith, rest, here.part.shape.order))

-- each part of a row takes at least one sample
pub row-count : (signal : Signal) (shapes : List Shape) (start end : ℕ) → InRow signal start shapes end →
    start + length shapes ≤ end
row-count signal [] start end row = omega (arith, row)
row-count signal (shape ∷ later) start end row =
    omega (arith, row.0, row.1.order, row.1.reaches, row-count signal later shape.reach end row.3)

-- raw peaks that stand one after the other

-- a cluster that begins at a sample or behind it begins at the first sample or behind it
pub cluster-anywhere : (signal : Signal) (at : ℕ) (cluster : Cluster) → IsCluster signal at cluster →
    IsCluster signal 0 cluster
cluster-anywhere signal at cluster is =
    record {
      follows = omega arith;
      some = is.some;
      tiled = is.tiled;
      parts = is.parts;
      begins = is.begins;
      ends =
          is.ends;
    }

-- clusters from one on
pub clusters-at : (signal : Signal) (clusters : List Cluster) (d : Cluster) (i at : ℕ) → i < length clusters →
    ClustersFrom signal at (drop i clusters) →
    IsCluster signal at (get_or clusters i d) × ClustersFrom signal (get_or clusters i d).end (drop (i + 1) clusters)
clusters-at signal clusters d i at below from =
    let e : i + 1 ≡ suc i = omega arith in
    rw e (rw (drop-cons clusters i d below) at from)

-- what the clusters from one on give
pub flat-at : (f : Cluster → List Found) (clusters : List Cluster) (d : Cluster) (i : ℕ) (old all : List Found) →
    i < length clusters →
    old ++ flat_map f (drop i clusters) ≡ all →
    (old ++ f (get_or clusters i d)) ++ flat_map f (drop (i + 1) clusters) ≡ all
flat-at f clusters d i old all below is =
    let e : i + 1 ≡ suc i = omega arith in
    rw e (append_assoc old (f (get_or clusters i d)) (flat_map f (drop (suc i) clusters)) ∙
    (ap (λ xs. old ++ flat_map f xs) (sym (drop-cons clusters i d below)) ∙ is))

-- the same of an item of theirs
pub flat-on : (f : Cluster → List Found) (clusters : List Cluster) (item : Cluster) (i : ℕ) (old all : List Found) →
    i < length clusters →
    item ≡ get_or clusters i item → old ++ flat_map f (drop i clusters) ≡ all →
    (old ++ f item) ++ flat_map f (drop (i + 1) clusters) ≡ all
flat-on f clusters item i old all below at is =
    ap (λ c. (old ++ f c) ++ flat_map f (drop (i + 1) clusters)) at ∙ flat-at f clusters item i old all below is
