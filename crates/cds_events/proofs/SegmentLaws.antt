-- The segments of a part between drop lines, and what they tell of the range between two lines.
use Rattle.std.proofs.Common.{◌≡◌, ℕ, ◌<◌, ◌≤◌, true, false, ℤ, ◌<ℤ◌, ◌≤ℤ◌, List, [], ◌∷◌, ◌++◌, Option, Some, None}
use Rattle.std.proofs.Common.{fold, refl, arith, sym, subst, inl, inr}
use Rattle.std.specs.Prelude.{nat_le, int_lt}
use Rattle.std.proofs.lemmas.Bool.{cases_Bool, and_from, and_left, and_right, le-leb, lt-leb}
use Rattle.std.proofs.lemmas.Int.{ints}
use Rattle.std.proofs.lemmas.List.Elements.{All-nil, All-cons, All-head, All-tail}
use Rattle.cds_trace.specs.Signal.{Signal, sample_at}
use Rattle.cds_events.specs.declared.segments.Segment.{Segment}
use Rattle.cds_trace.specs.Extremes.{first_greatest}
use Rattle.cds_events.specs.Segments.{IsSegment, Covers, IsOutside, IsMark, higher, is_within, best_with, top_or}
use Rattle.cds_events.specs.Segments.{top_within}
use Rattle.cds_events.proofs.TopLaws.{IsTop, first_greatest-is, first_greatest-top, top-later, top-earlier}

pub Covers-push : (signal : Signal) (start : ℕ) (xs : List Segment) (last : Segment) →
    Covers signal start xs last.from → IsSegment signal last → Covers signal start (xs ++ last ∷ []) last.to
Covers-push signal start [] last covers is = (sym covers, is, refl)
Covers-push signal start (x ∷ xs) last covers is = (covers.0, covers.1, Covers-push signal x.to xs last covers.2 is)

Covers-order : (signal : Signal) (start : ℕ) (xs : List Segment) (end : ℕ) → Covers signal start xs end → start ≤ end
Covers-order signal start [] end covers = omega arith
Covers-order signal start (x ∷ xs) end covers =
    omega (arith, covers.0, covers.1.order, Covers-order signal x.to xs end covers.2)

-- a sample up to the start of the segments, or from their end on, lies inside none of them
pub mark-low : (signal : Signal) (start : ℕ) (xs : List Segment) (end at : ℕ) → at ≤ start →
    Covers signal start xs end → IsMark xs at
mark-low signal start [] end at l covers = All-nil (λ x. IsOutside x.from x.to at)
mark-low signal start (x ∷ xs) end at l covers =
    All-cons (λ x. IsOutside x.from x.to at) x xs (inl (omega (arith, covers.0)))
    (mark-low signal x.to xs end at (omega (arith, covers.0, covers.1.order)) covers.2)

pub mark-high : (signal : Signal) (start : ℕ) (xs : List Segment) (end at : ℕ) → end ≤ at →
    Covers signal start xs end → IsMark xs at
mark-high signal start [] end at l covers = All-nil (λ x. IsOutside x.from x.to at)
mark-high signal start (x ∷ xs) end at l covers =
    All-cons (λ x. IsOutside x.from x.to at) x xs (inr (omega (arith, Covers-order signal x.to xs end covers.2)))
    (mark-high signal x.to xs end at l covers.2)

lt_true : (x y : ℤ) → int_lt x y ≡ true → x <ℤ y
lt_true x y e = grind (arith, ints)

lt_false : (x y : ℤ) → int_lt x y ≡ false → y ≤ℤ x
lt_false x y e = grind (arith, ints)

-- the best segment so far tells the first greatest sample up to this one
abbrev BestTo : Signal → ℕ → ℕ → Option Segment → Type 0
BestTo signal from at None = at ≤ from
BestTo signal from at (Some best) =
    (from < at) × (best.top ≡ first_greatest signal from at) × (best.level ≡ sample_at signal best.top)

higher-best : (signal : Signal) (from : ℕ) (best : Option Segment) (next : Segment) →
    BestTo signal from next.from best → from ≤ next.from → IsSegment signal next →
    BestTo signal from next.to (Some (higher best next))
higher-best signal from None next best low is =
    let same : next.from ≡ from = omega arith in
    (omega (arith, is.order), rw same at is.top, is.level)
higher-best signal from (Some best) next told low is =
    let first : IsTop signal from next.from best.top = rw told.1 (first_greatest-top signal from next.from low) in
    let second : IsTop signal next.from next.to next.top =
    rw is.top (first_greatest-top signal next.from next.to (omega (arith, is.order))) in
    elim (cases_Bool (int_lt best.level next.level)) [
      | inl above ↦ (
          let rises : sample_at signal best.top <ℤ sample_at signal next.top =
          rw (← told.2, ← is.level) (lt_true best.level next.level above) in
          rw above (
            omega (arith, is.order),
            sym (first_greatest-is signal from next.to next.top
                (top-later signal from next.from next.to best.top next.top first second rises)),
            is.level,
          ))
      | inr other ↦ (
          let falls : sample_at signal next.top ≤ℤ sample_at signal best.top =
          rw (← told.2, ← is.level) (lt_false best.level next.level other) in
          rw other (
            omega (arith, is.order),
            sym (first_greatest-is signal from next.to best.top
                (top-earlier signal from next.from next.to best.top next.top first second falls)),
            told.2,
          ))
    ]

-- segments behind the range tell nothing
best-behind : (signal : Signal) (from to at : ℕ) (xs : List Segment) (end : ℕ) (best : Option Segment) → to ≤ at →
    Covers signal at xs end → fold (best_with from to) best xs ≡ best
best-behind signal from to at [] end best l covers = refl
best-behind signal from to at (x ∷ xs) end best l covers =
    let outside : is_within from to x ≡ false =
    and_right (nat_le from x.from) (nat_le x.to to) (lt-leb x.to to (omega (arith, covers.0, covers.1.order))) in
    rw outside (best-behind signal from to x.to xs end best (omega (arith, covers.0, covers.1.order)) covers.2)

nothing-before : (signal : Signal) (from at next : ℕ) (best : Option Segment) → at < from → next ≤ from →
    BestTo signal from at best → BestTo signal from next best
nothing-before signal from at next None l m told = m
nothing-before signal from at next (Some best) l m told = absurd (omega (arith, told.0))

-- those from this sample on tell the rest of the range
best-to : (signal : Signal) (from to at : ℕ) (xs : List Segment) (end : ℕ) (best : Option Segment) → at ≤ to →
    to ≤ end → Covers signal at xs end → IsMark xs from → IsMark xs to → BestTo signal from at best →
    BestTo signal from to (fold (best_with from to) best xs)
best-to signal from to at [] end best l m covers mark_from mark_to told =
    let same : at ≡ to = omega (arith, covers) in
    subst (λ (k : ℕ). BestTo signal from k best) same told
best-to signal from to at (x ∷ xs) end best l m covers mark_from mark_to told =
    let out_from = All-head (λ x. IsOutside x.from x.to from) x xs mark_from in
    let out_to = All-head (λ x. IsOutside x.from x.to to) x xs mark_to in
    let rest_from = All-tail (λ x. IsOutside x.from x.to from) x xs mark_from in
    let rest_to = All-tail (λ x. IsOutside x.from x.to to) x xs mark_to in
    elim out_to [
      | inl behind ↦ (
          let same : at ≡ to = omega (arith, covers.0) in
          rw (best-behind signal from to at (x ∷ xs) end best (omega arith) covers)
          (subst (λ (k : ℕ). BestTo signal from k best) same told))
      | inr within ↦ elim out_from [
        | inl low ↦ (
            let taken : is_within from to x ≡ true =
            and_from (nat_le from x.from) (nat_le x.to to) (le-leb from x.from low) (le-leb x.to to within) in
            let here : BestTo signal from x.from best = rw covers.0 told in
            let told_x : BestTo signal from x.to (Some (higher best x)) =
            higher-best signal from best x here low covers.1 in
            rw taken (best-to signal from to x.to xs end (Some
            (higher best x)) within m covers.2 rest_from rest_to told_x))
        | inr high ↦ (
            let before : x.from < from = omega (arith, covers.1.order) in
            let left : is_within from to x ≡ false =
            and_left (nat_le from x.from) (nat_le x.to to) (lt-leb from x.from before) in
            let told_x : BestTo signal from x.to best =
            nothing-before signal from at x.to best (omega (arith, covers.0)) high told in
            rw left (best-to signal from to x.to xs end best within m covers.2 rest_from rest_to told_x))
      ]
    ]

top-best : (signal : Signal) (from to : ℕ) (best : Option Segment) → from < to → BestTo signal from to best →
    top_or from best ≡ first_greatest signal from to
top-best signal from to None l told = absurd (omega (arith, told))
top-best signal from to (Some best) l told = told.1

-- the segments tell the first greatest sample of a range that begins and ends at lines
pub top_within-first_greatest : (signal : Signal) (start : ℕ) (xs : List Segment) (end from to : ℕ) →
    Covers signal start xs end → IsMark xs from → IsMark xs to → start ≤ from → from < to → to ≤ end →
    top_within xs from to ≡ first_greatest signal from to
top_within-first_greatest signal start xs end from to covers mark_from mark_to low order high =
    top-best signal from to (fold (best_with from to) None xs) order
    (best-to signal from to start xs end None (omega arith) high covers mark_from mark_to low)
