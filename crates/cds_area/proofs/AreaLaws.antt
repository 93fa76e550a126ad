-- Laws of areas over a line: areas of ranges that share an end, the area by one sum of samples, and its bound.
use Rattle.std.proofs.Common.{◌≡◌, ℕ, zero, suc, ◌+◌, ◌-◌, ◌*◌, ◌^◌, ◌<◌, ◌≤◌, ℤ, pos, ◌+ℤ◌, ◌-ℤ◌, ◌*ℤ◌, ◌≤ℤ◌, List, length, drop, get_or, arith, sym, refl}
use Rattle.std.specs.Prelude.{unsigned_abs}
use Rattle.std.proofs.lemmas.Int.{ints}
use Rattle.std.proofs.lemmas.List.{length-drop, get_or-drop}
use Rattle.std.proofs.lemmas.List.Elements.{All-get_or}
use Rattle.std.proofs.Math.Nat.{mul-le-mul_right}
use Rattle.std.proofs.lemmas.List.Sums.{fold_more}
use Rattle.cds_base.specs.declared.peak.Line.{Line}
use Rattle.cds_trace.specs.Signal.{Signal, IsSample, IsTrace, sample_at, sum_between}
use Rattle.cds_trace.specs.declared.trace.TheConstants.{GREATEST_SAMPLE}
use Rattle.cds_trace.specs.Heights.{span, level_by_span, height_by_span}
use Rattle.cds_area.specs.Area.{sum_over, trapezoid, area_by_double_span}
use Rattle.cds_area.proofs.LineLaws.{add-mul, neg-mul, level-next, abs-level-le}
use Rattle.cds_trace.proofs.HeightLaws.{abs-mul-le}

-- a sum over some indices and the next ones is the sum over all
pub sum_over-split : (f : ℕ → ℤ) (start m n : ℕ) → sum_over f start (m + n) ≡ sum_over f start m +ℤ sum_over f (start + m) n
sum_over-split f start m zero =
    let e : m + 0 ≡ m = omega arith in
    rw e (omega (arith, ints))
sum_over-split f start m (suc n) =
    let e : m + suc n ≡ suc (m + n) = omega arith in
    let at : start + (m + n) ≡ start + m + n = omega arith in
    rw (e, at) (omega (arith, ints, sum_over-split f start m n))

-- the areas of two ranges that share an end are the area of the whole
pub area-split : (signal : Signal) (line : Line) (start m end : ℕ) → start ≤ m → m ≤ end →
    area_by_double_span signal line start m +ℤ area_by_double_span signal line m end ≡ area_by_double_span signal line start end
area-split signal line start m end left right =
    let f : ℕ → ℤ = trapezoid signal line in
    let count : end - start ≡ (m - start) + (end - m) = omega arith in
    let at : start + (m - start) ≡ m = omega arith in
    sym (rw count (rw at at (sum_over-split f start (m - start) (end - m))))

-- one more sample
sum_between-more : (signal : Signal) (i j : ℕ) → i ≤ j → j < length signal.samples →
    sum_between signal i (j + 1) ≡ sum_between signal i j +ℤ sample_at signal j
sum_between-more signal i j order inside =
    let xs : List ℤ = drop i signal.samples in
    let count : (j + 1) - i ≡ (j - i) + 1 = omega arith in
    let at : i + (j - i) ≡ j = omega arith in
    let fits : j - i < length xs = omega (arith, length-drop i signal.samples) in
    let read : get_or xs (j - i) (pos 0) ≡ sample_at signal j = rw (get_or-drop i signal.samples (j - i) (pos 0), at) refl in
    rw count (rw read at (fold_more ◌+ℤ◌ (pos 0) xs (j - i) (pos 0) fits))

-- the levels at the ends of n + 1 trapezoids, for each of them, and of n
widen : (first rise risen last : ℤ) (n : ℕ) → risen ≡ rise *ℤ pos n → last ≡ first +ℤ risen →
    (first +ℤ (last +ℤ rise)) *ℤ pos (n + 1) ≡ (first +ℤ last) *ℤ pos n +ℤ (last +ℤ (last +ℤ rise))
widen first rise risen last n by at = rw at (simp add-mul (omega (arith, ints, by)))

-- a level by the rise of its line
level-add : (line : Line) (start n : ℕ) → line.from ≤ start → start + n ≤ line.to →
    level_by_span line (start + n) ≡ level_by_span line start +ℤ (line.to_y -ℤ line.from_y) *ℤ pos n
level-add line start zero left right =
    let e : start + 0 ≡ start = omega arith in
    rw e (omega (arith, ints))
level-add line start (suc n) left right =
    let e : start + suc n ≡ start + n + 1 = omega arith in
    let rest = level-add line start n left (omega arith) in
    let next = level-next line (start + n) (omega arith) (omega arith) in
    rw (e, next, rest) (omega (arith, ints))

-- the area over n samples from start on, by the sides of all trapezoids and the levels at both ends
abbrev pub area_by_sum : Signal → Line → ℕ → ℕ → ℤ
area_by_sum signal line start n =
    let sum = sum_between signal start (start + n + 1) in
    ((sum -ℤ sample_at signal (start + n)) +ℤ (sum -ℤ sample_at signal start)) *ℤ pos (span line)
    -ℤ (level_by_span line start +ℤ level_by_span line (start + n)) *ℤ pos n

-- one more trapezoid, over plain numbers: `a`, `b` and `d` are the samples at the start, the end and behind it, `p` and
-- `q` the levels of the line at the start and the end
one-more : (area sum a b d p q rise risen : ℤ) (n span : ℕ) → risen ≡ rise *ℤ pos n → q ≡ p +ℤ risen →
    area ≡ ((sum -ℤ b) +ℤ (sum -ℤ a)) *ℤ pos span -ℤ (p +ℤ q) *ℤ pos n →
    area +ℤ ((b *ℤ pos span -ℤ q) +ℤ (d *ℤ pos span -ℤ (q +ℤ rise)))
    ≡ (((sum +ℤ d) -ℤ d) +ℤ ((sum +ℤ d) -ℤ a)) *ℤ pos span -ℤ (p +ℤ (q +ℤ rise)) *ℤ pos (n + 1)
one-more area sum a b d p q rise risen n span by at is =
    rw (is, widen p rise risen q n by at) (simp (add-mul, neg-mul) (omega (arith, ints)))

-- no trapezoid, over plain numbers: `a` is the sample there and `p` the level of the line
none-yet : (a p : ℤ) (span : ℕ) → pos 0 ≡ (((pos 0 +ℤ a) -ℤ a) +ℤ ((pos 0 +ℤ a) -ℤ a)) *ℤ pos span -ℤ (p +ℤ p) *ℤ pos 0
none-yet a p span = simp (add-mul, neg-mul) (omega (arith, ints))

-- an area, which sums trapezoids, by one sum of samples
pub area-is : (signal : Signal) (line : Line) (start n : ℕ) → line.from ≤ start → start + n ≤ line.to → line.to < length signal.samples →
    sum_over (trapezoid signal line) start n ≡ area_by_sum signal line start n
area-is signal line start zero left right inside =
    let e : start + 0 ≡ start = omega arith in
    let more = sum_between-more signal start start (omega arith) (omega arith) in
    let none : start - start ≡ 0 = omega arith in
    rw (e, more, none) (none-yet (sample_at signal start) (level_by_span line start) (span line))
area-is signal line start (suc n) left right inside =
    let e : start + suc n ≡ start + n + 1 = omega arith in
    let rest = area-is signal line start n left (omega arith) inside in
    let more = sum_between-more signal start (start + n + 1) (omega arith) (omega arith) in
    let rise = level-add line start n left (omega arith) in
    let next = level-next line (start + n) (omega arith) (omega arith) in
    let count : suc n ≡ n + 1 = omega arith in
    rw (e, more, next, count) (one-more _ (sum_between signal start (start + n + 1)) (sample_at signal start) (sample_at signal (start + n)) (sample_at signal (start + n + 1))
    (level_by_span line start) (level_by_span line (start + n)) (line.to_y -ℤ line.from_y) _ n (span line) refl rise rest)

-- the same of an area from start to end
pub area-by-sum : (signal : Signal) (line : Line) (start end : ℕ) → start ≤ end → line.from ≤ start → end ≤ line.to → line.to < length signal.samples →
    area_by_double_span signal line start end
    ≡ ((sum_between signal start (end + 1) -ℤ sample_at signal end) +ℤ (sum_between signal start (end + 1) -ℤ sample_at signal start)) *ℤ pos (span line)
    -ℤ (level_by_span line start +ℤ level_by_span line end) *ℤ pos (end - start)
area-by-sum signal line start end order left right inside =
    let at : start + (end - start) ≡ end = omega arith in
    rw at at (area-is signal line start (end - start) left (omega arith) inside)

-- a height is at most twice the greatest of the samples and the levels of the ends
abs-height-le : (signal : Signal) (line : Line) (i most : ℕ) → unsigned_abs (sample_at signal i) ≤ most →
    line.from ≤ i → i ≤ line.to → unsigned_abs line.from_y ≤ most → unsigned_abs line.to_y ≤ most →
    unsigned_abs (height_by_span signal line i) ≤ 2 * (most * span line)
abs-height-le signal line i most sample left right from_y to_y =
    omega (arith, ints, abs-mul-le (sample_at signal i) (span line) most sample, abs-level-le line i most left right from_y to_y)

-- a sum of n numbers is at most n times their bound
abs-sum_over-le : (f : ℕ → ℤ) (start n most : ℕ) → ((k : ℕ) → k < n → unsigned_abs (f (start + k)) ≤ most) →
    unsigned_abs (sum_over f start n) ≤ n * most
abs-sum_over-le f start zero most each = omega (arith, ints)
abs-sum_over-le f start (suc n) most each =
    omega (arith, ints, abs-sum_over-le f start n most (λ k below. each k (omega arith)), each n (omega arith))

-- an area is at most twice the greatest of the samples and the levels of the ends, for each sample of the range
pub abs-area-le : (signal : Signal) (line : Line) (start end most : ℕ) →
    ((i : ℕ) → i < length signal.samples → unsigned_abs (sample_at signal i) ≤ most) →
    line.from ≤ start → end ≤ line.to → line.to < length signal.samples → unsigned_abs line.from_y ≤ most → unsigned_abs line.to_y ≤ most →
    unsigned_abs (area_by_double_span signal line start end) ≤ 2 * most * (end - start) * (2 * span line)
abs-area-le signal line start end most each left right inside from_y to_y =
    let side : (i : ℕ) → line.from ≤ i → i ≤ line.to → unsigned_abs (height_by_span signal line i) ≤ 2 * (most * span line) =
    λ i from to. abs-height-le signal line i most (each i (omega arith)) from to from_y to_y in
    let all = abs-sum_over-le (trapezoid signal line) start (end - start) (4 * (most * span line))
    (λ k below. omega (arith, ints, side (start + k) (omega arith) (omega arith), side (start + k + 1) (omega arith) (omega arith))) in
    omega (arith, all)

-- each sample of a trace is at most the greatest sample
pub abs-sample-le : (signal : Signal) (most i : ℕ) → IsTrace signal → GREATEST_SAMPLE ≤ℤ pos most → i < length signal.samples →
    unsigned_abs (sample_at signal i) ≤ most
abs-sample-le signal most i trace great inside =
    let range = All-get_or IsSample signal.samples i (pos 0) inside trace.samples in
    omega (arith, ints, range.least, range.greatest)

-- the area over a whole line is a number of halves: it is a multiple of the span
pub area-whole : (signal : Signal) (line : Line) → line.from ≤ line.to → line.to < length signal.samples →
    area_by_double_span signal line line.from line.to
    ≡ ((sum_between signal line.from (line.to + 1) -ℤ sample_at signal line.to) +ℤ (sum_between signal line.from (line.to + 1) -ℤ sample_at signal line.from)
    -ℤ (line.from_y +ℤ line.to_y) *ℤ pos (span line)) *ℤ pos (span line)
area-whole signal line order inside =
    let none : line.from - line.from ≡ 0 = omega arith in
    let none' : line.to - line.to ≡ 0 = omega arith in
    let first : level_by_span line line.from ≡ line.from_y *ℤ pos (span line) = rw none (omega (arith, ints)) in
    let last : level_by_span line line.to ≡ line.to_y *ℤ pos (span line) = rw none' (omega (arith, ints)) in
    rw (area-by-sum signal line line.from line.to order (omega arith) (omega arith) inside, first, last) (simp (add-mul, neg-mul) (omega (arith, ints)))

-- the area under a signal that is nowhere below the line is not negative
pub area-not_negative : (signal : Signal) (line : Line) (start n : ℕ) → ((k : ℕ) → k ≤ n → pos 0 ≤ℤ height_by_span signal line (start + k)) →
    pos 0 ≤ℤ sum_over (trapezoid signal line) start n
area-not_negative signal line start zero above = omega (arith, ints)
area-not_negative signal line start (suc n) above =
    let rest = area-not_negative signal line start n (λ k below. above k (omega arith)) in
    let at : start + suc n ≡ start + n + 1 = omega arith in
    let next = rw at at (above (suc n) (omega arith)) in
    omega (arith, ints, rest, above n (omega arith), next)

-- an area over a line between samples of a trace, over a range of that trace, may be reported
pub units-fit : (num den range period : ℕ) → 1 ≤ den → num ≤ 2 * 100000000 * range * den → range * period ≤ 14400000000 →
    num * period < 2 ^ 52 * (1000 * den)
units-fit num den range period some area time =
    let times = mul-le-mul_right period area in
    let most = mul-le-mul_right (200000000 * den) time in
    omega (arith, times, most)
