-- What drop lines leave of parts.
use Rattle.std.proofs.Common.{◌≡◌, ℕ, ◌+◌, ◌-◌, ◌*◌, ◌<◌, ◌≤◌, true, false, List, [], ◌∷◌, ◌++◌, length, get_or, take}
use Rattle.std.proofs.Common.{refl, arith, ap, ◌∙◌, inl, inr}
use Rattle.std.specs.Prelude.{All, nat_lt}
use Rattle.std.specs.List.{list_any, sum_by}
use Rattle.std.proofs.lemmas.Bool.{cases_Bool, and_parts, and_left, or_parts, ltb-true}
use Rattle.std.proofs.lemmas.List.{take_more}
use Rattle.std.proofs.lemmas.List.Sums.{sum_by_more}
use Rattle.std.proofs.lemmas.List.Concat.{flat_map-append}
use Rattle.std.proofs.lemmas.List.Elements.{All-nil, All-cons}
use Rattle.cds_base.specs.declared.cluster.Part.{Part}
use Rattle.cds_trace.specs.Signal.{Signal}
use Rattle.cds_events.specs.declared.segments.Segment.{Segment}
use Rattle.cds_trace.specs.Extremes.{first_greatest}
use Rattle.cds_events.specs.Drops.{crosses, is_cut, front, back, cut_by, cut_each, cut_all}
use Rattle.cds_events.specs.Ordered.{IsInside}
use Rattle.cds_events.specs.Segments.{Covers, IsMark, top_within, cut_each_by}
use Rattle.cds_events.proofs.ListLaws.{flat_map-agree, All-flat_map}
use Rattle.cds_events.proofs.SegmentLaws.{top_within-first_greatest}

-- a piece of a part whose ends are ends of segments
pub record IsMarked (segments : List Segment) (start end : ℕ) (piece : Part) : Type 0 where
  pub low : start ≤ piece.start
  pub order : piece.start < piece.end
  pub high : piece.end ≤ end
  pub from : IsMark segments piece.start
  pub to : IsMark segments piece.end

-- a line that cuts a part lies strictly inside
pub cut-inside : (at : ℕ) (part : Part) → is_cut at part ≡ true → (part.start < at) × (at < part.end)
cut-inside at part e =
    let parts = and_parts (crosses at part) _ e in
    let ends = and_parts (nat_lt part.start at) (nat_lt at part.end) parts.0 in
    (ltb-true part.start at ends.0, ltb-true at part.end ends.1)

-- two ways to tell tops that agree on both sides of the line cut alike
cut_by-same : (top other : ℕ → ℕ → ℕ) (at : ℕ) (part : Part) →
    (is_cut at part ≡ true → (top part.start at ≡ other part.start at) × (top at part.end ≡ other at part.end)) →
    cut_by top at part ≡ cut_by other at part
cut_by-same top other at part agree = elim (cases_Bool (is_cut at part)) [
  | inl e ↦ (let both = agree e in rw (e, both.0, both.1) refl)
  | inr e ↦ rw e refl
]

-- the segments cut as the signal does
pub cut_each_by-signal : (signal : Signal) (segments : List Segment) (start end : ℕ) (pieces : List Part) (at : ℕ) →
    Covers signal start segments end → All (IsMarked segments start end) pieces → IsMark segments at →
    cut_each_by segments pieces at ≡ cut_each signal pieces at
cut_each_by-signal signal segments start end pieces at covers marked mark =
    flat_map-agree (cut_by (top_within segments) at) (cut_by (first_greatest signal) at) pieces
    (λ k d l.
    let piece : Part = get_or pieces k d in
    let is : IsMarked segments start end piece = marked k d l in
    cut_by-same (top_within segments) (first_greatest signal) at piece (λ e.
    let inside = cut-inside at piece e in (
      top_within-first_greatest signal start segments end piece.start at covers is.from mark is.low inside.0
          (omega (arith, inside.1, is.high)),
      top_within-first_greatest signal start segments end at piece.end covers mark is.to
          (omega (arith, inside.0, is.low)) inside.1 is.high,
    )))

-- and the ends of what is left are ends of segments
cut_by-marked : (segments : List Segment) (start end : ℕ) (top : ℕ → ℕ → ℕ) (at : ℕ) (piece : Part) →
    IsMark segments at → IsMarked segments start end piece → All (IsMarked segments start end) (cut_by top at piece)
cut_by-marked segments start end top at piece mark is = elim (cases_Bool (is_cut at piece)) [
  | inl e ↦ (
      let inside = cut-inside at piece e in
      let P : Part → Type 0 = IsMarked segments start end in
      let before : P (front top at piece) =
      record {
        low = is.low;
        order = inside.0;
        high = omega
            (arith, inside.1, is.high);
        from = is.from;
        to = mark;
      } in
      let behind : P (back top at piece) =
      record { low = omega (arith, inside.0, is.low); order = inside.1; high = is.high; from = mark; to = is.to } in
      rw e (All-cons P (front top at piece) (back top at piece ∷ []) before
      (All-cons P (back top at piece) [] behind (All-nil P))))
  | inr e ↦ rw e (All-cons (IsMarked segments start end) piece [] is (All-nil (IsMarked segments start end)))
]

pub cut_each_by-marked : (segments : List Segment) (start end : ℕ) (pieces : List Part) (at : ℕ) → IsMark segments at →
    All (IsMarked segments start end) pieces → All (IsMarked segments start end) (cut_each_by segments pieces at)
cut_each_by-marked segments start end pieces at mark marked =
    All-flat_map (IsMarked segments start end) (cut_by (top_within segments) at) pieces
    (λ k d l. cut_by-marked segments start end (top_within segments) at (get_or pieces k d) mark (marked k d l))

-- lines cut each of two lists of parts for itself
pub cut_all-append : (signal : Signal) (xs ys : List Part) (drops : List ℕ) →
    cut_all signal (xs ++ ys) drops ≡ cut_all signal xs drops ++ cut_all signal ys drops
cut_all-append signal xs ys [] = refl
cut_all-append signal xs ys (at ∷ drops) =
    ap (λ parts. cut_all signal parts drops) (flat_map-append (cut_by (first_greatest signal) at) xs ys)
    ∙ cut_all-append signal (cut_each signal xs at) (cut_each signal ys at) drops

pub cut_all-none : (signal : Signal) (drops : List ℕ) → cut_all signal [] drops ≡ []
cut_all-none signal [] = refl
cut_all-none signal (at ∷ drops) = cut_all-none signal drops

-- lines that don't cross a part leave it whole
pub cut_all-whole : (signal : Signal) (part : Part) (drops : List ℕ) → list_any (λ at. crosses at part) drops ≡ false →
    cut_all signal (part ∷ []) drops ≡ part ∷ []
cut_all-whole signal part [] none = refl
cut_all-whole signal part (at ∷ drops) none =
    let each = or_parts (crosses at part) (list_any (λ at. crosses at part) drops) none in
    let whole : is_cut at part ≡ false = and_left (crosses at part) _ each.0 in
    rw whole (cut_all-whole signal part drops each.1)

-- one part more
pub cut_parts-more : (signal : Signal) (parts : List Part) (drops : List ℕ) (pieces cut : List Part) (i : ℕ)
    (d : Part) → i < length parts → pieces ≡ cut_all signal (take i parts) drops →
    cut ≡ cut_all signal (get_or parts i d ∷ []) drops → pieces ++ cut ≡ cut_all signal (take (i + 1) parts) drops
cut_parts-more signal parts drops pieces cut i d l before here =
    rw (take_more parts i d l, cut_all-append signal (take i parts) (get_or parts i d ∷ []) drops, before, here) refl

-- and the steps for it
pub cut_parts-steps : (signal : Signal) (parts : List Part) (i : ℕ) (d : Part) (old now new : ℕ) → i < length parts →
    All (IsInside signal) parts → now ≤ old + sum_by (λ part. 2 * (part.end - part.start)) (take i parts) →
    new + 2 * (get_or parts i d).start ≤ now + 2 * (get_or parts i d).end →
    new ≤ old + sum_by (λ part. 2 * (part.end - part.start)) (take (i + 1) parts)
cut_parts-steps signal parts i d old now new l inside before here =
    let is : IsInside signal (get_or parts i d) = inside i d l in
    omega (arith, before, here, is.order, sum_by_more (λ (part : Part). 2 * (part.end - part.start)) parts i d l)
