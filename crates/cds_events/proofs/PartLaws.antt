-- Parts tile their cluster, also when they are cut, and the apex of each lies in it.
use Rattle.std.proofs.Common.{◌≡◌, ℕ, suc, ◌+◌, ◌-◌, ◌*◌, ◌<◌, ◌≤◌, cond, List, [], ◌∷◌, ◌++◌, length, get_or, take}
use Rattle.std.proofs.Common.{drop, fold, refl, arith, ap, inl, inr}
use Rattle.std.specs.Prelude.{All, nat_lt}
use Rattle.std.specs.List.{sum_by}
use Rattle.std.proofs.lemmas.Bool.{cases_Bool, cases_lt, ltb-false, ltb-true, lt-ltb, le-ltb}
use Rattle.std.proofs.lemmas.List.{length-append, take_rest}
use Rattle.std.proofs.lemmas.List.Sums.{sum_by-cons}
use Rattle.std.proofs.lemmas.List.Elements.{All-nil, All-cons, All-head, All-tail, All-append}
use Rattle.cds_base.specs.declared.cluster.Cut.{Cut}
use Rattle.cds_base.specs.declared.cluster.Cut.TheVariants.{Valley}
use Rattle.cds_base.specs.declared.cluster.Part.{Part}
use Rattle.cds_trace.specs.Signal.{Signal}
use Rattle.cds_events.specs.Placed.{Placed}
use Rattle.cds_trace.specs.Extremes.{first_greatest}
use Rattle.cds_base.specs.Tiles.{Tiles}
use Rattle.cds_events.specs.Parts.{valley, part_end, parts_from}
use Rattle.cds_events.specs.Arrangement.{start_of, end_of}
use Rattle.cds_events.specs.Drops.{is_cut, front, back, cut_by, cut_each, cut_all}
use Rattle.cds_events.specs.Ordered.{AreOrdered, IsInside, next_apex}
use Rattle.cds_events.specs.Standing.{IsPart, BeginsAtStart}
use Rattle.cds_events.proofs.TopLaws.{IsTop, first_greatest-top, first_least-within, top-crest}
use Rattle.cds_events.proofs.CutLaws.{cut-inside}

pub Tiles-order : (start : ℕ) (parts : List Part) (end : ℕ) → Tiles start parts end → start ≤ end
Tiles-order start [] end tiles = omega arith
Tiles-order start (part ∷ parts) end tiles = omega (arith, tiles.1, Tiles-order part.end parts end tiles.2)

Tiles-append : (start : ℕ) (xs : List Part) (mid : ℕ) (ys : List Part) (end : ℕ) → Tiles start xs mid →
    Tiles mid ys end → Tiles start (xs ++ ys) end
Tiles-append start [] mid ys end first second = rw first second
Tiles-append start (x ∷ xs) mid ys end first second =
    (first.0, first.1, Tiles-append x.end xs mid ys end first.2 second)

-- parts that tile a range with samples inside are some
pub Tiles-some : (start : ℕ) (parts : List Part) (end : ℕ) → Tiles start parts end → start < end → 0 < length parts
Tiles-some start [] end tiles l = absurd (omega arith)
Tiles-some start (part ∷ parts) end tiles l = omega arith

-- the samples of parts but one, together
pub Tiles-span : (start : ℕ) (parts : List Part) (end : ℕ) → Tiles start parts end →
    sum_by (λ part. 2 * (part.end - part.start)) parts + 2 * start ≡ 2 * end
Tiles-span start [] end tiles = omega (arith, tiles)
Tiles-span start (part ∷ parts) end tiles =
    omega (
      arith,
      tiles.0,
      tiles.1,
      Tiles-order part.end parts end tiles.2,
      Tiles-span part.end parts end tiles.2,
      sum_by-cons (λ (p : Part). 2 * (p.end - p.start)) part parts,
    )

pub Tiles-inside : (signal : Signal) (start : ℕ) (parts : List Part) (end : ℕ) → Tiles start parts end →
    end < length signal.samples → All (IsInside signal) parts
Tiles-inside signal start [] end tiles l = All-nil (IsInside signal)
Tiles-inside signal start (part ∷ parts) end tiles l =
    All-cons (IsInside signal) part parts (record {
      order = omega (arith, tiles.0, tiles.1);
      ends = omega
          (arith, Tiles-order part.end parts end tiles.2);
    }) (Tiles-inside signal part.end parts end tiles.2 l)

-- what a line leaves of one part

cut_by-tiles : (top : ℕ → ℕ → ℕ) (at : ℕ) (part : Part) → part.start < part.end →
    Tiles part.start (cut_by top at part) part.end
cut_by-tiles top at part l = elim (cases_Bool (is_cut at part)) [
  | inl e ↦ (let inside = cut-inside at part e in rw e (refl, inside.0, (refl, inside.1, refl)))
  | inr e ↦ rw e (refl, l, refl)
]

front-part : (signal : Signal) (at : ℕ) (part : Part) → IsPart signal part → part.start < at → at < part.end →
    IsPart signal (front (first_greatest signal) at part)
front-part signal at part is l m = elim (cases_Bool (nat_lt part.apex at)) [
  | inl e ↦ (
      let before : part.apex < at = ltb-true part.apex at e in
      rw e (record { low = is.low; high = omega arith; crest = λ a b. is.crest a (omega arith) }))
  | inr e ↦ (
      let top : IsTop signal part.start at (first_greatest signal part.start at) =
      first_greatest-top signal part.start at (omega arith) in
      rw e (record {
        low = top.low;
        high = top.high;
        crest = λ a b. top-crest signal part.start at
            (first_greatest signal part.start at) top a b;
      }))
]

back-part : (signal : Signal) (at : ℕ) (part : Part) → IsPart signal part → part.start < at → at < part.end →
    IsPart signal (back (first_greatest signal) at part)
back-part signal at part is l m = elim (cases_Bool (nat_lt part.apex at)) [
  | inl e ↦ (
      let top : IsTop signal at part.end (first_greatest signal at part.end) =
      first_greatest-top signal at part.end (omega arith) in
      rw e (record {
        low = top.low;
        high = top.high;
        crest = λ a b. top-crest signal at part.end
            (first_greatest signal at part.end) top a b;
      }))
  | inr e ↦ (
      let behind : at ≤ part.apex = ltb-false part.apex at e in
      rw e (record { low = behind; high = is.high; crest = λ a b. is.crest (omega arith) b }))
]

cut_by-parts : (signal : Signal) (at : ℕ) (part : Part) → IsPart signal part →
    All (IsPart signal) (cut_by (first_greatest signal) at part)
cut_by-parts signal at part is = elim (cases_Bool (is_cut at part)) [
  | inl e ↦ (
      let inside = cut-inside at part e in
      let P : Part → Type 0 = IsPart signal in
      let before : Part = front (first_greatest signal) at part in
      let behind : Part = back (first_greatest signal) at part in
      rw e (All-cons P before (behind ∷ []) (front-part signal at part is inside.0 inside.1)
      (All-cons P behind [] (back-part signal at part is inside.0 inside.1) (All-nil P))))
  | inr e ↦ rw e (All-cons (IsPart signal) part [] is (All-nil (IsPart signal)))
]

-- how many of a line lie before a sample: one or none
abbrev before_one : ℕ → ℕ → ℕ
before_one at end = cond (nat_lt at end) 1 0

before_one-mono : (at x y : ℕ) → x ≤ y → before_one at x ≤ before_one at y
before_one-mono at x y l = elim (cases_lt at x) [
  | inl a ↦ rw (lt-ltb at x a, lt-ltb at y (omega arith)) (omega arith)
  | inr a ↦ rw (le-ltb at x a) (omega arith)
]

before_one-most : (at x : ℕ) → before_one at x ≤ 1
before_one-most at x = elim (cases_lt at x) [
  | inl a ↦ rw (lt-ltb at x a) (omega arith)
  | inr a ↦ rw (le-ltb at x a) (omega arith)
]

cut_by-few : (top : ℕ → ℕ → ℕ) (at : ℕ) (part : Part) → part.start < part.end →
    length (cut_by top at part) + before_one at part.start ≤ 1 + before_one at part.end
cut_by-few top at part l = elim (cases_Bool (is_cut at part)) [
  | inl e ↦ (let inside = cut-inside at part e in rw (
    e,
    le-ltb at part.start
        (omega (arith, inside.0)),
    lt-ltb at part.end inside.1,
  ) (omega arith))
  | inr e ↦ rw e (omega (arith, before_one-mono at part.start part.end (omega arith)))
]

-- what a line leaves of parts that tile a range

cut_each-tiles : (signal : Signal) (start : ℕ) (parts : List Part) (end at : ℕ) → Tiles start parts end →
    Tiles start (cut_each signal parts at) end
cut_each-tiles signal start [] end at tiles = tiles
cut_each-tiles signal start (part ∷ parts) end at tiles =
    let top : ℕ → ℕ → ℕ = first_greatest signal in
    let first : Tiles start (cut_by top at part) part.end =
    rw (← tiles.0) (cut_by-tiles top at part (omega (arith, tiles.0, tiles.1))) in
    Tiles-append start (cut_by top at part) part.end (cut_each signal parts at) end first
    (cut_each-tiles signal part.end parts end at tiles.2)

cut_each-parts : (signal : Signal) (parts : List Part) (at : ℕ) → All (IsPart signal) parts →
    All (IsPart signal) (cut_each signal parts at)
cut_each-parts signal [] at all = all
cut_each-parts signal (part ∷ parts) at all =
    All-append (IsPart signal) (cut_by (first_greatest signal) at part) (cut_each signal parts at)
    (cut_by-parts signal at part (All-head (IsPart signal) part parts all))
    (cut_each-parts signal parts at (All-tail (IsPart signal) part parts all))

cut_each-few : (signal : Signal) (start : ℕ) (parts : List Part) (end at : ℕ) → Tiles start parts end →
    length (cut_each signal parts at) + before_one at start ≤ length parts + before_one at end
cut_each-few signal start [] end at tiles = rw tiles (omega arith)
cut_each-few signal start (part ∷ parts) end at tiles =
    let here : length (cut_by (first_greatest signal) at part) + before_one at start ≤ 1 + before_one at part.end =
    rw (← tiles.0) (cut_by-few (first_greatest signal) at part (omega (arith, tiles.0, tiles.1))) in
    let rest = cut_each-few signal part.end parts end at tiles.2 in
    omega (arith, here, rest, length-append (cut_by (first_greatest signal) at part) (cut_each signal parts at))

cut_each-begins : (signal : Signal) (parts : List Part) (at : ℕ) → BeginsAtStart parts →
    BeginsAtStart (cut_each signal parts at)
cut_each-begins signal [] at begins = tt
cut_each-begins signal (part ∷ parts) at begins = elim (cases_Bool (is_cut at part)) [
  | inl e ↦ rw e begins
  | inr e ↦ rw e begins
]

-- how many lines lie before a sample
abbrev pub lines_before : List ℕ → ℕ → ℕ
lines_before [] end = 0
lines_before (at ∷ drops) end = before_one at end + lines_before drops end

pub lines_before-mono : (drops : List ℕ) (x y : ℕ) → x ≤ y → lines_before drops x ≤ lines_before drops y
lines_before-mono [] x y l = omega arith
lines_before-mono (at ∷ drops) x y l = omega (arith, before_one-mono at x y l, lines_before-mono drops x y l)

pub lines_before-most : (drops : List ℕ) (x : ℕ) → lines_before drops x ≤ length drops
lines_before-most [] x = omega arith
lines_before-most (at ∷ drops) x = omega (arith, before_one-most at x, lines_before-most drops x)

-- what lines leave of parts that tile a range

pub cut_all-tiles : (signal : Signal) (start : ℕ) (parts : List Part) (end : ℕ) (drops : List ℕ) →
    Tiles start parts end → Tiles start (cut_all signal parts drops) end
cut_all-tiles signal start parts end [] tiles = tiles
cut_all-tiles signal start parts end (at ∷ drops) tiles =
    cut_all-tiles signal start (cut_each signal parts at) end drops (cut_each-tiles signal start parts end at tiles)

pub cut_all-parts : (signal : Signal) (parts : List Part) (drops : List ℕ) → All (IsPart signal) parts →
    All (IsPart signal) (cut_all signal parts drops)
cut_all-parts signal parts [] all = all
cut_all-parts signal parts (at ∷ drops) all =
    cut_all-parts signal (cut_each signal parts at) drops (cut_each-parts signal parts at all)

pub cut_all-few : (signal : Signal) (start : ℕ) (parts : List Part) (end : ℕ) (drops : List ℕ) →
    Tiles start parts end →
    length (cut_all signal parts drops) + lines_before drops start ≤ length parts + lines_before drops end
cut_all-few signal start parts end [] tiles = omega arith
cut_all-few signal start parts end (at ∷ drops) tiles =
    omega (
      arith,
      cut_each-few signal start parts end at tiles,
      cut_all-few signal start
          (cut_each signal parts at) end drops (cut_each-tiles signal start parts end at tiles),
    )

pub cut_all-begins : (signal : Signal) (parts : List Part) (drops : List ℕ) → BeginsAtStart parts →
    BeginsAtStart (cut_all signal parts drops)
cut_all-begins signal parts [] begins = begins
cut_all-begins signal parts (at ∷ drops) begins =
    cut_all-begins signal (cut_each signal parts at) drops (cut_each-begins signal parts at begins)

-- the parts of a run

-- the ends of peaks in order lie behind their apexes
pub ordered-reach : (signal : Signal) (at : ℕ) (peaks : List Placed) → AreOrdered signal peaks →
    next_apex at peaks ≤ fold (λ end peak. peak.end) at peaks
ordered-reach signal at [] ordered = omega arith
ordered-reach signal at (peak ∷ []) ordered = omega (arith, ordered.0.falls)
ordered-reach signal at (peak ∷ next ∷ later) ordered =
    omega (arith, ordered.1, ordered-reach signal peak.end (next ∷ later) ordered.2)

pub ordered-ends : (signal : Signal) (at : ℕ) (peaks : List Placed) → at < length signal.samples →
    AreOrdered signal peaks → fold (λ end peak. peak.end) at peaks < length signal.samples
ordered-ends signal at [] l ordered = l
ordered-ends signal at (peak ∷ later) l ordered = ordered-ends signal peak.end later ordered.0.ends ordered.2

valley-between : (signal : Signal) (a b : Placed) → a.apex + 2 ≤ b.apex →
    (a.apex < valley signal a b) × (valley signal a b < b.apex)
valley-between signal a b l =
    let within = first_least-within signal (a.apex + 1) (b.apex - 1) (omega arith) in
    (omega (arith, within.0), omega (arith, within.1))

pub parts_from-tiles : (signal : Signal) (start : ℕ) (left : Cut) (peaks : List Placed) → 0 < length peaks →
    start < next_apex 0 peaks → AreOrdered signal peaks →
    Tiles start (parts_from signal start left peaks) (fold (λ end peak. peak.end) 0 peaks)
parts_from-tiles signal start left [] some l ordered = absurd (omega arith)
parts_from-tiles signal start left (peak ∷ []) some l ordered = (refl, omega (arith, ordered.0.falls), refl)
parts_from-tiles signal start left (peak ∷ next ∷ later) some l ordered =
    let between = valley-between signal peak next ordered.1 in (
      refl,
      omega (arith, between.0),
      parts_from-tiles signal (valley signal peak next) Valley (next ∷ later)
          (omega arith) between.1 ordered.2,
    )

pub parts_from-parts : (signal : Signal) (start : ℕ) (left : Cut) (peaks : List Placed) →
    start < next_apex (start + 1) peaks → AreOrdered signal peaks →
    All (IsPart signal) (parts_from signal start left peaks)
parts_from-parts signal start left [] l ordered = All-nil (IsPart signal)
parts_from-parts signal start left (peak ∷ []) l ordered =
    All-cons (IsPart signal) (record { start = start; apex = peak.apex; end = peak.end; left = left }) []
    (record { low = omega arith; high = omega (arith, ordered.0.falls); crest = λ a b. ordered.0.crest })
    (All-nil (IsPart signal))
parts_from-parts signal start left (peak ∷ next ∷ later) l ordered =
    let between = valley-between signal peak next ordered.1 in
    let at : ℕ = valley signal peak next in
    All-cons (IsPart signal) (record { start = start; apex = peak.apex; end = at; left = left })
    (parts_from signal at Valley (next ∷ later))
    (record { low = omega arith; high = omega (arith, between.0); crest = λ a b. ordered.0.crest })
    (parts_from-parts signal at Valley (next ∷ later) between.1 ordered.2)

pub length-parts_from : (signal : Signal) (start : ℕ) (left : Cut) (peaks : List Placed) →
    length (parts_from signal start left peaks) ≡ length peaks
length-parts_from signal start left [] = refl
length-parts_from signal start left (peak ∷ later) =
    ap suc (length-parts_from signal (part_end signal peak later) Valley later)

-- a run starts before it ends, and before its first apex
pub ordered-order : (signal : Signal) (peaks : List Placed) → 0 < length peaks → AreOrdered signal peaks →
    (start_of peaks ≤ next_apex 0 peaks) × (start_of peaks ≤ end_of peaks)
ordered-order signal [] some ordered = absurd (omega arith)
ordered-order signal (peak ∷ later) some ordered =
    (omega (arith, ordered.0.rises), omega (arith, ordered.0.rises, ordered-reach signal 0 (peak ∷ later) ordered))

-- the apex behind a peak, or its own, lies before the end of the run
next-reach : (signal : Signal) (peak : Placed) (later : List Placed) → AreOrdered signal (peak ∷ later) →
    next_apex peak.apex later ≤ fold (λ end peak. peak.end) peak.end later
next-reach signal peak [] ordered = omega (arith, ordered.0.falls)
next-reach signal peak (next ∷ later) ordered = ordered-reach signal peak.end (next ∷ later) ordered.2

-- the steps of a run, when one more part was found
pub part-steps : (signal : Signal) (run rest : List Placed) (d : Placed) (start old now new : ℕ) → 0 < length run →
    AreOrdered signal run → 0 < length rest → AreOrdered signal rest →
    fold (λ end peak. peak.end) start rest ≡ end_of run → now + next_apex 0 run ≤ old + next_apex start rest →
    new + (get_or rest 0 d).apex ≤ now + next_apex (get_or rest 0 d).apex (take (length rest - 1) (drop 1 rest)) →
    new + start_of run ≤ old + end_of run
part-steps signal run [] d start old now new some ordered more rest_ordered ends before here = absurd (omega arith)
part-steps signal run (peak ∷ later) d start old now new some ordered more rest_ordered ends before here =
    let there = rw (take_rest (peak ∷ later) 1) at here in
    omega (arith, ordered-order signal run some ordered, next-reach signal peak later rest_ordered, ends, before, there)
