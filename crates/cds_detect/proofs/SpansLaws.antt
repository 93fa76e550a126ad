-- How the search for peaks goes on in a list of classes.
use Rattle.std.proofs.Common.{◌≡◌, ℕ, zero, suc, ◌+◌, ◌-◌, ◌<◌, ◌≤◌, true, false, List, [], ◌∷◌, ◌++◌, length, refl, arith, ap, sym, ◌∙◌, inl, inr}
use Rattle.std.proofs.lemmas.Bool.{cases_lt, cond_both}
use Rattle.std.proofs.lemmas.List.{get_or_past, length-append}
use Rattle.cds_detect.specs.declared.class.Class.{Class}
use Rattle.cds_detect.specs.declared.class.Class.TheVariants.{Flat}
use Rattle.cds_detect.specs.Spans.{Span, is_down, class_at, ends_climb, ends_fall, next_up, climb, fall, span_from, behind, spans_from, later_spans, spans}
use Rattle.cds_trace.proofs.LeastLaws.{least-end, least-low, least-high}

-- behind the last class there is none but flat ones
pub class_at-past : (cs : List Class) (k : ℕ) → length cs ≤ k → class_at cs k ≡ Flat
class_at-past cs k l = get_or_past cs k Flat l

-- from behind the last class on no climb goes anywhere
climb-past : (cs : List Class) (p s : ℕ) → length cs ≤ s → climb cs p s ≡ length cs
climb-past cs p s l = least-end _ _ _ (omega arith)

pub span_from-past : (cs : List Class) (p s : ℕ) → length cs ≤ s → span_from cs p s ≡ []
span_from-past cs p s l = rw (climb-past cs p s l) (rw (class_at-past cs (length cs) (omega arith)) refl)

pub behind-past : (cs : List Class) (p s : ℕ) → length cs ≤ s → behind cs p s ≡ length cs
behind-past cs p s l = rw (climb-past cs p s l) (rw (class_at-past cs (length cs) (omega arith)) refl)

-- a climb ends behind its start, and not behind the last class
pub climb-low : (cs : List Class) (p s : ℕ) → s < length cs → s < climb cs p s
climb-low cs p s l = let low : s + 1 ≤ climb cs p s = least-low _ _ _ (omega arith) in omega arith

pub climb-high : (cs : List Class) (p s : ℕ) → s < length cs → climb cs p s ≤ length cs
climb-high cs p s l = least-high (ends_climb cs p s) (s + 1) (length cs) (omega arith)

-- a class that is down stands before the end
pub down-before : (cs : List Class) (k : ℕ) → is_down (class_at cs k) ≡ true → k < length cs
down-before cs k e = elim (cases_lt k (length cs)) [
  | inl l ↦ l
  | inr l ↦ (let f : is_down (class_at cs k) ≡ false = rw (class_at-past cs k l) refl in cc)
]

-- a fall ends behind its start, and not behind the last class
pub fall-low : (cs : List Class) (k : ℕ) → is_down (class_at cs k) ≡ true → k < fall cs k
fall-low cs k e =
    let l = down-before cs k e in
    let low : k + 1 ≤ fall cs k = least-low _ _ _ (omega arith) in
    omega arith

pub fall-high : (cs : List Class) (k : ℕ) → is_down (class_at cs k) ≡ true → fall cs k ≤ length cs
fall-high cs k e = least-high (ends_fall cs) (k + 1) (length cs) (let l = down-before cs k e in omega arith)

-- the search goes on behind where it was
pub behind-low : (cs : List Class) (p s : ℕ) → s < length cs → s < behind cs p s
behind-low cs p s l =
    let top = climb cs p s in
    let low : s < top = climb-low cs p s l in
    cond_both (is_down (class_at cs top)) (fall cs top) top (λ k. s < k) (λ e. let f : top < fall cs top = fall-low cs top e in omega arith) (λ e. low)

pub spans_from-past : (turns : ℕ) (cs : List Class) (p k : ℕ) → length cs ≤ k → spans_from turns cs p k ≡ []
spans_from-past zero cs p k l = refl
spans_from-past (suc turns) cs p k l =
    let none : next_up cs k ≡ length cs = least-end _ _ _ l in
    rw none (rw (span_from-past cs p (length cs) (omega arith)) (rw (behind-past cs p (length cs) (omega arith)) (spans_from-past turns cs p (length cs) (omega arith))))

-- from the next rise on fewer turns are enough
behind-next_up : (t : ℕ) (cs : List Class) (p k : ℕ) → length cs ≤ k + suc t → length cs ≤ behind cs p (next_up cs k) + t
behind-next_up t cs p k l =
    let s = next_up cs k in
    elim (cases_lt s (length cs)) [
      | inl m ↦ (
          elim (cases_lt (length cs) k) [
            | inl past ↦ (let low : s < behind cs p s = behind-low cs p s m in let e : s ≡ length cs = least-end _ _ _ (omega arith) in omega arith)
            | inr within ↦ (let low : s < behind cs p s = behind-low cs p s m in let from : k ≤ s = least-low _ _ _ within in omega arith)
          ])
      | inr m ↦ (let e : behind cs p s ≡ length cs = behind-past cs p s m in omega arith)
    ]

-- further turns find nothing more
spans_from-enough : (t u : ℕ) (cs : List Class) (p k : ℕ) → length cs ≤ k + t → length cs ≤ k + u → spans_from t cs p k ≡ spans_from u cs p k
spans_from-enough zero u cs p k l m = sym (spans_from-past u cs p k (omega arith))
spans_from-enough (suc t) zero cs p k l m = spans_from-past (suc t) cs p k (omega arith)
spans_from-enough (suc t) (suc u) cs p k l m =
    ap (λ rest. span_from cs p (next_up cs k) ++ rest) (spans_from-enough t u cs p (behind cs p (next_up cs k)) (behind-next_up t cs p k l) (behind-next_up u cs p k m))

pub later_spans-zero : (cs : List Class) (p : ℕ) → later_spans cs p 0 ≡ spans cs p
unfolding later_spans
later_spans-zero cs p = spans_from-enough (length cs - 0) (length cs) cs p 0 (omega arith) (omega arith)

pub later_spans-end : (cs : List Class) (p k : ℕ) → length cs ≤ k → later_spans cs p k ≡ []
unfolding later_spans
later_spans-end cs p k l = spans_from-past (length cs - k) cs p k l

pub later_spans-step : (cs : List Class) (p k : ℕ) → k < length cs → later_spans cs p k ≡ span_from cs p (next_up cs k) ++ later_spans cs p (behind cs p (next_up cs k))
unfolding later_spans
later_spans-step cs p k l =
    let d : length cs - k ≡ suc (length cs - (k + 1)) = omega arith in
    let b = behind cs p (next_up cs k) in
    rw d (ap (λ more. span_from cs p (next_up cs k) ++ more) (spans_from-enough (length cs - (k + 1)) (length cs - b) cs p b (behind-next_up (length cs - (k + 1)) cs p k (omega arith)) (omega arith)))

-- where no climb begins any more there is no peak
pub later_spans-none : (cs : List Class) (p k : ℕ) → k < length cs → length cs ≤ next_up cs k → later_spans cs p k ≡ []
later_spans-none cs p k l none =
    later_spans-step cs p k l ∙ (rw (span_from-past cs p (next_up cs k) none, behind-past cs p (next_up cs k) none) (later_spans-end cs p (length cs) (omega arith)))

-- a climb without a fall is no peak, and the search goes on where it ends
pub later_spans-abandoned : (cs : List Class) (p k s top : ℕ) → k < length cs → s ≡ next_up cs k → top ≡ climb cs p s → is_down (class_at cs top) ≡ false → later_spans cs p k ≡ later_spans cs p top
later_spans-abandoned cs p k s top l e f down =
    later_spans-step cs p k l ∙ rw (← e, ← f, down) refl

-- a climb with a fall is a peak, and the search goes on where it ends
pub later_spans-peak : (cs : List Class) (p k s top end : ℕ) → k < length cs → s ≡ next_up cs k → top ≡ climb cs p s → is_down (class_at cs top) ≡ true → end ≡ fall cs top → later_spans cs p k ≡ (let span : Span = record { start = s; end = end } in span ∷ later_spans cs p end)
later_spans-peak cs p k s top end l e f down h =
    later_spans-step cs p k l ∙ rw (← e, ← f, down, ← h) refl

-- no more peaks than turns
pub length-spans_from : (turns : ℕ) (cs : List Class) (p k : ℕ) → length (spans_from turns cs p k) ≤ turns
length-spans_from zero cs p k = omega arith
length-spans_from (suc turns) cs p k =
    let s = next_up cs k in
    let more = length-spans_from turns cs p (behind cs p s) in
    let one : length (span_from cs p s) ≤ 1 = cond_both (is_down (class_at cs (climb cs p s))) (let span : Span = record { start = s; end = fall cs (climb cs p s) } in span ∷ []) [] (λ found. length found ≤ 1) (λ _. omega arith) (λ _. omega arith) in
    omega (arith, length-append (span_from cs p s) (spans_from turns cs p (behind cs p s)))
