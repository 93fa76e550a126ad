-- The points of a cluster: their marks, their order and their place within the trace.
use Rattle.std.proofs.Common.{◌≡◌, ◌∙◌, ℕ, zero, suc, ◌+◌, ◌-◌, ◌<◌, ◌≤◌, Bool, true, false, inl, inr, List, [], ◌∷◌, ◌++◌, length, get_or, drop, take, ap, arith, refl}
use Rattle.std.specs.Prelude.{if◌then◌else◌, All}
use Rattle.std.proofs.lemmas.Bool.{cases_Bool, cases_eq}
use Rattle.std.proofs.lemmas.List.{drop_more, length-append, length-drop, append_assoc, get_or_at, take_rest}
use Rattle.std.proofs.lemmas.List.Elements.{All-from_get_or}
use Rattle.cds_base.specs.declared.cluster.Part.{Part}
use Rattle.cds_base.specs.Tiles.{Tiles}
use Rattle.cds_baseline.specs.Cluster.{is_valley, valleys, marks, inner}
use Rattle.cds_baseline.specs.Nodes.{sample_of, is_fixed}
use Rattle.cds_baseline.specs.Chain.{IsRising}

-- the marks from part i on, where it begins at a valley
pub marks-valley : (inner : List Part) (covered front all : List Bool) (i : ℕ) (d : Part) (e : Bool) → i < length inner → length covered ≡ length inner →
    is_valley (get_or inner i d).left ≡ true → front ++ marks (drop i inner) (drop i covered) ≡ all →
    (front ++ get_or covered i e ∷ []) ++ marks (drop (i + 1) inner) (drop (i + 1) covered) ≡ all
marks-valley inner covered front all i d e below same valley before =
    let below' : i < length covered = omega arith in
    let here : marks (drop i inner) (drop i covered) ≡ get_or covered i e ∷ marks (drop (i + 1) inner) (drop (i + 1) covered) =
    rw (drop_more inner i d below, drop_more covered i e below') (rw valley refl) in
    append_assoc front (get_or covered i e ∷ []) (marks (drop (i + 1) inner) (drop (i + 1) covered)) ∙ rw here at before

-- and where it doesn't
pub marks-other : (inner : List Part) (covered front all : List Bool) (i : ℕ) (d : Part) → i < length inner → length covered ≡ length inner →
    is_valley (get_or inner i d).left ≡ false → front ++ marks (drop i inner) (drop i covered) ≡ all →
    front ++ marks (drop (i + 1) inner) (drop (i + 1) covered) ≡ all
marks-other inner covered front all i d below same other before =
    let below' : i < length covered = omega arith in
    let here : marks (drop i inner) (drop i covered) ≡ marks (drop (i + 1) inner) (drop (i + 1) covered) =
    rw (drop_more inner i d below, drop_more covered i false below') (rw other refl) in
    rw here at before

-- as many points are marked as there are
pub length-marks : (parts : List Part) (entries : List Bool) → length entries ≡ length parts → length (marks parts entries) ≡ length (valleys parts)
length-marks [] entries same = refl
length-marks (part ∷ parts) [] same = absurd (omega arith)
length-marks (part ∷ parts) (entry ∷ entries) same =
    let rest = length-marks parts entries (omega arith) in
    elim (cases_Bool (is_valley part.left)) [
      | inl valley ↦ rw valley (ap suc rest)
      | inr other ↦ rw other rest
    ]

-- at most one valley a part
pub length-valleys : (parts : List Part) → length (valleys parts) ≤ length parts
length-valleys [] = omega arith
length-valleys (part ∷ parts) =
    let rest = length-valleys parts in
    elim (cases_Bool (is_valley part.left)) [
      | inl valley ↦ rw valley (omega arith)
      | inr other ↦ rw other (omega arith)
    ]

-- samples that rise from above a first one on
abbrev pub Rises : ℕ → List ℕ → Type 0
Rises low [] = Unit {0}
Rises low (sample ∷ samples) = (low < sample) × Rises sample samples

-- a tiled range isn't turned round
pub Tiles-order : (start end : ℕ) (parts : List Part) → Tiles start parts end → start ≤ end
Tiles-order start end [] tiles = omega arith
Tiles-order start end (part ∷ parts) tiles = omega (arith, tiles.1, Tiles-order part.end end parts tiles.2)

-- the valleys of parts that tile a range rise, and so does its end behind them
pub valleys-rise : (low start end : ℕ) (parts : List Part) → Tiles start parts end → low < start → Rises low (valleys parts ++ end ∷ [])
valleys-rise low start end [] tiles above = (omega arith, tt)
valleys-rise low start end (part ∷ parts) tiles above =
    elim (cases_Bool (is_valley part.left)) [
      | inl valley ↦ rw valley (omega (arith, tiles.0), valleys-rise part.start part.end end parts tiles.2 (omega (arith, tiles.0, tiles.1)))
      | inr other ↦ rw other (valleys-rise low part.end end parts tiles.2 (omega (arith, tiles.1)))
    ]

-- rising samples, by their numbers
Rises-above : (low : ℕ) (samples : List ℕ) (k : ℕ) → Rises low samples → k < length samples → low < get_or samples k 0
Rises-above low [] k rises below = absurd (omega arith)
Rises-above low (sample ∷ samples) zero rises below = rises.0
Rises-above low (sample ∷ samples) (suc k) rises below = omega (arith, rises.0, Rises-above sample samples k rises.1 (omega arith))

pub Rises-rising : (low : ℕ) (samples : List ℕ) → Rises low samples → IsRising (sample_of (low ∷ samples)) (length (low ∷ samples))
Rises-rising low samples rises zero zero order below = absurd (omega arith)
Rises-rising low samples rises zero (suc b) order below = Rises-above low samples b rises (omega arith)
Rises-rising low samples rises (suc a) zero order below = absurd (omega arith)
Rises-rising low [] rises (suc a) (suc b) order below = absurd (omega arith)
Rises-rising low (sample ∷ samples) rises (suc a) (suc b) order below = Rises-rising sample samples rises.1 a b (omega arith) (omega arith)

-- the last of some entries
pub last-is : {X : Type 0} (front : List X) (last d : X) → get_or (front ++ last ∷ []) (length (front ++ last ∷ []) - 1) d ≡ last
last-is front last d =
    let at : length (front ++ last ∷ []) - 1 ≡ length front = omega (arith, length-append front (last ∷ [])) in
    rw at (get_or_at front last [] d (length front) refl)

-- rising samples whose last one is within the trace all are
pub rising-within : (samples : List ℕ) (m : ℕ) → IsRising (sample_of samples) (length samples) → sample_of samples (length samples - 1) < m →
    All (λ p. p < m) samples
rising-within samples m rising last =
    All-from_get_or (λ p. p < m) samples 0
    (λ i below. elim (cases_eq i (length samples - 1)) [
      | inl end ↦ rw end last
      | inr other ↦ omega (arith, rising i (length samples - 1) (omega arith) (omega arith), last)
    ])

-- what the slice behind the first entry is, and on a forced baseline
pub inner-slice : {X : Type 0} (forced : Bool) (entries : List X) →
    take (length entries - (if forced then length entries else 1)) (drop (if forced then length entries else 1) entries) ≡ inner forced entries
inner-slice true entries = let none : length entries - length entries ≡ 0 = omega arith in rw none refl
inner-slice false entries = take_rest entries 1

-- the points of a cluster rise
cluster-rises : (start end : ℕ) (forced : Bool) (parts : List Part) → 0 < length parts → Tiles start parts end →
    Rises start (valleys (inner forced parts) ++ end ∷ [])
cluster-rises start end forced [] some tiles = absurd (omega arith)
cluster-rises start end true (part ∷ parts) some tiles = (omega (arith, tiles.1, Tiles-order part.end end parts tiles.2), tt)
cluster-rises start end false (part ∷ parts) some tiles = valleys-rise start part.end end parts tiles.2 tiles.1

-- the entries behind the first one are as many in both of two lists of one length, and fewer than all
length-inner : {X Y : Type 0} (forced : Bool) (xs : List X) (ys : List Y) → length xs ≡ length ys → length (inner forced xs) ≡ length (inner forced ys)
length-inner true xs ys same = refl
length-inner false xs ys same = omega (arith, length-drop 1 xs, length-drop 1 ys)

length-inner-le : {X : Type 0} (forced : Bool) (xs : List X) → 0 < length xs → length (inner forced xs) + 1 ≤ length xs
length-inner-le true xs some = omega arith
length-inner-le false xs some = omega (arith, length-drop 1 xs)

-- what the search for nodes needs of points, of which there are at most `most`
pub record IsReady (points : List ℕ) (fixed : List Bool) (samples most : ℕ) : Type 0 where
  pub whole : length fixed ≡ length points
  pub rising : IsRising (sample_of points) (length points)
  pub within : All (λ p. p < samples) points
  pub last : is_fixed fixed (length points - 1) ≡ true
  pub few : length points ≤ most

-- the points of a cluster have it
pub cluster-ready : (start end : ℕ) (forced : Bool) (parts : List Part) (covered : List Bool) (samples : ℕ) → 0 < length parts → Tiles start parts end →
    end < samples → length covered ≡ length parts →
    IsReady (start ∷ valleys (inner forced parts) ++ end ∷ []) (true ∷ marks (inner forced parts) (inner forced covered) ++ true ∷ []) samples (length parts + 1)
cluster-ready start end forced parts covered samples some tiles within same =
    let ps : List Part = inner forced parts in
    let cs : List Bool = inner forced covered in
    let points : List ℕ = start ∷ valleys ps ++ end ∷ [] in
    let fixed : List Bool = true ∷ marks ps cs ++ true ∷ [] in
    let long : length points ≡ length (valleys ps) + 2 = omega (arith, length-append (start ∷ valleys ps) (end ∷ [])) in
    let long' : length fixed ≡ length (marks ps cs) + 2 = omega (arith, length-append (true ∷ marks ps cs) (true ∷ [])) in
    let whole : length fixed ≡ length points = omega (arith, length-marks ps cs (length-inner forced covered parts same)) in
    let rising : IsRising (sample_of points) (length points) = Rises-rising start (valleys ps ++ end ∷ []) (cluster-rises start end forced parts some tiles) in
    let end_is : sample_of points (length points - 1) ≡ end = last-is (start ∷ valleys ps) end 0 in
    record {
      whole = whole;
      rising = rising;
      within = rising-within points samples rising (rw end_is within);
      last = rw (← whole) (last-is (true ∷ marks ps cs) true false);
      few = omega (arith, length-valleys ps, length-inner-le forced parts some);
    }
