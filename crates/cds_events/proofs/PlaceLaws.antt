-- How raw peaks stand among the forced pieces.
use Rattle.std.proofs.Common.{◌≡◌, ℕ, ◌+◌, ◌<◌, ◌≤◌, true, false, List, [], ◌∷◌, Option, Some, None, length, get_or}
use Rattle.std.proofs.Common.{map, fold, refl, arith, inl, inr}
use Rattle.std.specs.Prelude.{All, nat_lt, nat_le, min, max, ◌⊎◌}
use Rattle.std.specs.List.{find, filter, AllPairs}
use Rattle.std.proofs.lemmas.Bool.{cond_both, and_cases, and_parts, ltb-true, ltb-false, leb-false, eqb-false}
use Rattle.std.proofs.lemmas.List.{length-map}
use Rattle.std.proofs.lemmas.List.Kept.{AllPairs-filter, AllPairs-cons}
use Rattle.std.proofs.lemmas.List.Elements.{All-nil, All-cons, All-map, All-filter, filter_passes}
use Rattle.cds_base.specs.declared.peak.RawPeak.{RawPeak}
use Rattle.cds_trace.specs.Signal.{Signal}
use Rattle.cds_events.specs.Pieces.{Piece}
use Rattle.cds_events.specs.Placed.{Placed}
use Rattle.cds_events.specs.Placed.{belongs, trimmed, over_range, place, is_peak, placed_peaks}
use Rattle.cds_events.specs.Runs.{fused}
use Rattle.cds_events.specs.Ordered.{IsPlaced}
use Rattle.cds_trace.specs.Standing.{IsCrest, IsRawPeak, RawFrom}
use Rattle.cds_events.proofs.TopLaws.{IsTop, first_greatest-top, top-crest}
use Rattle.cds_events.proofs.ListLaws.{find-passes, find-all, find-none, pairs-map}
use Rattle.cds_events.proofs.PieceLaws.{IsPiece, SameOrApart, ArePieces, apart-order}

-- raw peaks from a sample on all begin there or behind it

raw-each : (signal : Signal) (low at : ℕ) (raw : List RawPeak) → low ≤ at → RawFrom signal at raw →
    All (IsRawPeak signal low) raw
raw-each signal low at [] l stand = All-nil (IsRawPeak signal low)
raw-each signal low at (peak ∷ raw) l stand =
    let is : IsRawPeak signal low peak = record {
      follows = omega (arith, stand.0.follows);
      rises = stand.0.rises;
      falls = stand.0.falls;
      apex = stand.0.apex;
      ends = stand.0.ends;
    } in
    All-cons (IsRawPeak signal low) peak raw is (raw-each signal low peak.end raw
    (omega (arith, is.follows, is.rises, is.falls)) stand.1)

-- the apex of a raw peak is a crest
raw-crest : (signal : Signal) (at : ℕ) (peak : RawPeak) → IsRawPeak signal at peak → IsCrest signal peak.apex
raw-crest signal at peak is =
    let top : IsTop signal peak.start peak.end peak.apex =
    rw is.apex (first_greatest-top signal peak.start peak.end (omega (arith, is.rises, is.falls))) in
    top-crest signal peak.start peak.end peak.apex top is.rises is.falls

-- two raw peaks in their order
record InOrder (signal : Signal) (a b : RawPeak) : Type 0 where
  first : IsRawPeak signal 0 a
  second : IsRawPeak signal a.end b

raw-pairs : (signal : Signal) (at : ℕ) (raw : List RawPeak) → RawFrom signal at raw → AllPairs (InOrder signal) raw
raw-pairs signal at [] stand = λ i j d l m. absurd (omega arith)
raw-pairs signal at (peak ∷ raw) stand =
    let first : IsRawPeak signal 0 peak = record {
      follows = omega arith;
      rises = stand.0.rises;
      falls = stand.0.falls;
      apex = stand.0.apex;
      ends = stand.0.ends;
    } in
    let later : All (IsRawPeak signal peak.end) raw = raw-each signal peak.end peak.end raw (omega arith) stand.1 in
    AllPairs-cons (InOrder signal) peak raw (λ k d l. record { first = first; second = later k d l })
    (raw-pairs signal peak.end raw stand.1)

-- what forced pieces leave of a raw peak

record IsTrimmed (pieces : List Piece) (peak left : RawPeak) : Type 0 where
  apex : left.apex ≡ peak.apex
  start : peak.start ≤ left.start
  end : left.end ≤ peak.end
  raised : All (λ piece. piece.end ≤ peak.apex → piece.end ≤ left.start) pieces
  lowered : All (λ piece. peak.apex ≤ piece.start → left.end ≤ piece.start) pieces

trimmed-start : (peak : RawPeak) (piece : Piece) →
    (peak.start ≤ (trimmed peak piece).start) × (piece.end ≤ peak.apex → piece.end ≤ (trimmed peak piece).start)
trimmed-start peak piece = cond_both (nat_le piece.end peak.apex) (max peak.start piece.end) peak.start
    (λ start. (peak.start ≤ start) × (piece.end ≤ peak.apex → piece.end ≤ start))
    (λ e. (omega arith, λ l. omega arith))
    (λ e. (omega arith, λ l. absurd (omega (arith, leb-false piece.end peak.apex e))))

trimmed-end : (peak : RawPeak) (piece : Piece) →
    ((trimmed peak piece).end ≤ peak.end) × (peak.apex ≤ piece.start → (trimmed peak piece).end ≤ piece.start)
trimmed-end peak piece = cond_both (nat_le peak.apex piece.start) (min peak.end piece.start) peak.end
    (λ end. (end ≤ peak.end) × (peak.apex ≤ piece.start → end ≤ piece.start))
    (λ e. (omega arith, λ l. omega arith))
    (λ e. (omega arith, λ l. absurd (omega (arith, leb-false peak.apex piece.start e))))

fold-trimmed : (pieces : List Piece) (peak : RawPeak) → IsTrimmed pieces peak (fold trimmed peak pieces)
fold-trimmed [] peak = record {
  apex = refl;
  start = omega arith;
  end = omega arith;
  raised = All-nil (λ (piece : Piece). piece.end ≤ peak.apex → piece.end ≤ peak.start);
  lowered = All-nil (λ (piece : Piece). peak.apex ≤ piece.start → peak.end ≤ piece.start);
}
fold-trimmed (piece ∷ pieces) peak =
    let one : RawPeak = trimmed peak piece in
    let left : RawPeak = fold trimmed one pieces in
    let rest : IsTrimmed pieces one left = fold-trimmed pieces one in
    let starts = trimmed-start peak piece in
    let ends = trimmed-end peak piece in
    record {
      apex = rest.apex;
      start = omega (arith, starts.0, rest.start);
      end = omega (arith, ends.0, rest.end);
      raised = All-cons (λ (piece : Piece). piece.end ≤ peak.apex → piece.end ≤ left.start) piece pieces
          (λ l. omega (arith, starts.1 l, rest.start)) rest.raised;
      lowered = All-cons (λ (piece : Piece). peak.apex ≤ piece.start → left.end ≤ piece.start) piece pieces
          (λ l. omega (arith, ends.1 l, rest.end)) rest.lowered;
    }

belongs-inside : (peak : RawPeak) (piece : Piece) → belongs peak piece ≡ true →
    (piece.start < peak.apex) × (peak.apex < piece.end)
belongs-inside peak piece e =
    let parts = and_parts (nat_lt piece.start peak.apex) (nat_lt peak.apex piece.end) e in
    (ltb-true piece.start peak.apex parts.0, ltb-true peak.apex piece.end parts.1)

belongs-outside : (peak : RawPeak) (piece : Piece) → belongs peak piece ≡ false →
    (peak.apex ≤ piece.start) ⊎ (piece.end ≤ peak.apex)
belongs-outside peak piece e = elim (and_cases (nat_lt piece.start peak.apex) (nat_lt peak.apex piece.end) e) [
  | inl f ↦ inl (ltb-false piece.start peak.apex f)
  | inr f ↦ inr (ltb-false peak.apex piece.end f)
]

-- a placed peak keeps its apex and ends within the trace

record Stays (signal : Signal) (peak : RawPeak) (stands : Placed) : Type 0 where
  apex : stands.apex ≡ peak.apex
  ends : stands.end < length signal.samples

over_range-stays : (signal : Signal) (pieces : List Piece) (peak left : RawPeak) (around : Option Piece) →
    find (belongs peak) pieces ≡ around → ArePieces signal pieces → IsRawPeak signal 0 peak →
    left ≡ fold trimmed peak pieces → Stays signal peak (over_range around left)
over_range-stays signal pieces peak left None e are is fold_is =
    let whole : IsTrimmed pieces peak left = rw fold_is (fold-trimmed pieces peak) in
    record { apex = whole.apex; ends = omega (arith, whole.end, is.ends) }
over_range-stays signal pieces peak left (Some piece) e are is fold_is =
    let whole : IsTrimmed pieces peak left = rw fold_is (fold-trimmed pieces peak) in
    let inside : IsPiece signal piece = find-all (IsPiece signal) (belongs peak) pieces piece e are.each in
    record { apex = whole.apex; ends = inside.ends }

place-stays : (signal : Signal) (pieces : List Piece) (peak : RawPeak) → ArePieces signal pieces →
    IsRawPeak signal 0 peak → Stays signal peak (place pieces peak)
place-stays signal pieces peak are is =
    over_range-stays signal pieces peak (fold trimmed peak pieces) (find (belongs peak) pieces) refl are is refl

-- a placed peak that is one: the apex is a crest, strictly inside
pub placed-each : (signal : Signal) (pieces : List Piece) (raw : List RawPeak) → ArePieces signal pieces →
    RawFrom signal 0 raw → All (IsPlaced signal) (placed_peaks pieces raw)
placed-each signal pieces raw are stand =
    let Within : Placed → Type 0 = λ peak. (peak.end < length signal.samples) × IsCrest signal peak.apex in
    let each : All (IsRawPeak signal 0) raw = raw-each signal 0 0 raw (omega arith) stand in
    let within : All (λ peak. Within (place pieces peak)) raw =
    λ k d l. (
    let is : IsRawPeak signal 0 (get_or raw k d) = each k d l in
    let stays = place-stays signal pieces (get_or raw k d) are is in
    (stays.ends, rw stays.apex (raw-crest signal 0 (get_or raw k d) is))) in
    let kept : All Within (placed_peaks pieces raw) =
    All-filter is_peak Within (map (place pieces) raw) (All-map Within (place pieces) raw within) in
    let passes : All (λ peak. is_peak peak ≡ true) (placed_peaks pieces raw) =
    filter_passes is_peak (map (place pieces) raw) in
    λ k d l. (
    let peak : Placed = get_or (placed_peaks pieces raw) k d in
    let tests = and_parts (nat_lt peak.start peak.apex) (nat_lt peak.apex peak.end) (passes k d l) in
    record {
      rises = ltb-true peak.start peak.apex tests.0;
      falls = ltb-true peak.apex peak.end tests.1;
      crest = (kept k d l).1;
      ends = (kept k d l).0;
    })

-- an earlier and a later peak: a sample lies between their apexes, and where they aren't fused the later begins behind
-- the end of the earlier, or there
pub record IsBefore (gap : ℕ) (pieces : List Piece) (a b : Placed) : Type 0 where
  pub apexes : a.apex + 2 ≤ b.apex
  pub apart : fused gap pieces a b ≡ false → a.end ≤ b.start

outside-later : (peak : RawPeak) (piece : Piece) → belongs peak piece ≡ false → piece.start < peak.apex →
    piece.end ≤ peak.apex
outside-later peak piece e l = elim (belongs-outside peak piece e) [
  | inl before ↦ absurd (omega arith)
  | inr behind ↦ behind
]

outside-earlier : (peak : RawPeak) (piece : Piece) → belongs peak piece ≡ false → peak.apex < piece.end →
    peak.apex ≤ piece.start
outside-earlier peak piece e l = elim (belongs-outside peak piece e) [
  | inl before ↦ before
  | inr behind ↦ absurd (omega arith)
]

apart-placed : (signal : Signal) (gap : ℕ) (pieces : List Piece) (a b left right : RawPeak)
    (first second : Option Piece) → find (belongs a) pieces ≡ first → find (belongs b) pieces ≡ second →
    ArePieces signal pieces → a.apex < b.apex → a.end ≤ b.start → IsTrimmed pieces a left → IsTrimmed pieces b right →
    fused gap pieces (over_range first left) (over_range second right) ≡ false →
    (over_range first left).end ≤ (over_range second right).start
apart-placed signal gap pieces a b left right None None e f are order free lowered raised apart =
    omega (arith, lowered.end, raised.start)
apart-placed signal gap pieces a b left right None (Some piece) e f are order free lowered raised apart =
    let inside = belongs-inside b piece (find-passes (belongs b) pieces piece f) in
    let outside : belongs a piece ≡ false =
    find-all (λ p. belongs a p ≡ false) (belongs b) pieces piece f (find-none (belongs a) pieces e) in
    find-all (λ p. a.apex ≤ p.start → left.end ≤ p.start) (belongs b) pieces piece f lowered.lowered
    (outside-earlier a piece outside (omega (arith, inside.1)))
apart-placed signal gap pieces a b left right (Some piece) None e f are order free lowered raised apart =
    let inside = belongs-inside a piece (find-passes (belongs a) pieces piece e) in
    let outside : belongs b piece ≡ false =
    find-all (λ p. belongs b p ≡ false) (belongs a) pieces piece e (find-none (belongs b) pieces f) in
    find-all (λ p. p.end ≤ b.apex → p.end ≤ right.start) (belongs a) pieces piece e raised.raised
    (outside-later b piece outside (omega (arith, inside.0)))
apart-placed signal gap pieces a b left right (Some piece) (Some other) e f are order free lowered raised apart =
    let inside = belongs-inside a piece (find-passes (belongs a) pieces piece e) in
    let inside_other = belongs-inside b other (find-passes (belongs b) pieces other f) in
    let all : All (SameOrApart piece) pieces =
    find-all (λ p. All (SameOrApart p) pieces) (belongs a) pieces piece e are.apart in
    let two : SameOrApart piece other = find-all (SameOrApart piece) (belongs b) pieces other f all in
    apart-order piece other two (eqb-false piece.start other.start apart) (omega (arith, inside.0, inside_other.1))

place-before : (signal : Signal) (gap : ℕ) (pieces : List Piece) (a b : RawPeak) → ArePieces signal pieces →
    InOrder signal a b → IsBefore gap pieces (place pieces a) (place pieces b)
place-before signal gap pieces a b are order =
    let first = fold-trimmed pieces a in
    let second = fold-trimmed pieces b in
    let apex_a : (place pieces a).apex ≡ a.apex = (place-stays signal pieces a are order.first).apex in
    let is_b : IsRawPeak signal 0 b = record {
      follows = omega arith;
      rises = order.second.rises;
      falls = order.second.falls;
      apex = order.second.apex;
      ends = order.second.ends;
    } in
    let apex_b : (place pieces b).apex ≡ b.apex = (place-stays signal pieces b are is_b).apex in
    let free : a.end ≤ b.start = order.second.follows in
    let apexes : a.apex + 2 ≤ b.apex = omega (arith, order.first.falls, free, order.second.rises) in
    record {
      apexes = rw (apex_a, apex_b) apexes;
      apart = apart-placed signal gap pieces a b (fold trimmed a pieces) (fold trimmed b pieces)
          (find (belongs a) pieces) (find (belongs b) pieces) refl refl are (omega arith) free first second;
    }

nothing : RawPeak
nothing = record { start = 0; apex = 0; end = 0 }

pub placed-pairs : (signal : Signal) (gap : ℕ) (pieces : List Piece) (raw : List RawPeak) → ArePieces signal pieces →
    RawFrom signal 0 raw → AllPairs (IsBefore gap pieces) (placed_peaks pieces raw)
placed-pairs signal gap pieces raw are stand =
    let pairs : AllPairs (InOrder signal) raw = raw-pairs signal 0 raw stand in
    AllPairs-filter (IsBefore gap pieces) is_peak (map (place pieces) raw)
    (pairs-map (IsBefore gap pieces) (place pieces) nothing raw
    (λ i j d l m. place-before signal gap pieces (get_or raw i d) (get_or raw j d) are (pairs i j d l m)))

length-filter : (peaks : List Placed) → length (filter is_peak peaks) ≤ length peaks
length-filter [] = omega arith
length-filter (peak ∷ peaks) =
    let rest = length-filter peaks in
    cond_both (is_peak peak) (peak ∷ filter is_peak peaks) (filter is_peak peaks)
    (λ kept. length kept ≤ length (peak ∷ peaks)) (λ _. omega arith) (λ _. omega arith)

pub length-placed_peaks : (pieces : List Piece) (raw : List RawPeak) → length (placed_peaks pieces raw) ≤ length raw
length-placed_peaks pieces raw = omega (arith, length-filter (map (place pieces) raw), length-map raw (place pieces))
