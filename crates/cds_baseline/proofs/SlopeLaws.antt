-- Laws of slopes, each a rise over a run of at least one sample, and of chords by their slopes.
use Rattle.std.proofs.Common.{◌≡◌, ℕ, ◌+◌, ◌-◌, ◌*◌, ◌<◌, ◌≤◌, ℤ, pos, ◌+ℤ◌, ◌-ℤ◌, ◌*ℤ◌, ◌≤ℤ◌, ◌<ℤ◌, neg_ℤ, true, false, arith, ap, sym}
use Rattle.std.proofs.lemmas.Int.{ints}
use Rattle.std.proofs.Math.Nat.{mul-le-mul_right, le_of_mul-le-mul_right}
use borrow.Author.Differences.{up, down, sum_is_lem, neg_is, true_is_le, false_is_le, le-true}
use Rattle.cds_trace.specs.Signal.{Signal, sample_at}
use Rattle.cds_baseline.specs.Chord.{chord_by_span, is_over}

-- a slope at most as steep as one that is at most as steep as a third is at most as steep as the third
pub slope-trans : (p q r : ℤ) (a b c : ℕ) → 0 < b → (p *ℤ pos b) ≤ℤ (q *ℤ pos a) → (q *ℤ pos c) ≤ℤ (r *ℤ pos b) → (p *ℤ pos c) ≤ℤ (r *ℤ pos a)
slope-trans p q r a b c some first second =
    let f : up p * b + down q * a ≤ up q * a + down p * b = omega (arith, ints, first) in
    let s : up q * c + down r * b ≤ up r * b + down q * c = omega (arith, ints, second) in
    let goal : (up p * c + down r * a) * b ≤ (up r * a + down p * c) * b = omega (arith, mul-le-mul_right c f, mul-le-mul_right a s) in
    let cut = le_of_mul-le-mul_right goal some in
    omega (arith, ints, cut)

-- a product of a difference
pub sub-mul : (x y : ℤ) (n : ℕ) → (x -ℤ y) *ℤ pos n ≡ x *ℤ pos n -ℤ y *ℤ pos n
sub-mul x y n = omega (arith, ints, ap (λ (k : ℕ). k * n) (sum_is_lem x (neg_ℤ y)), ap (λ (k : ℕ). k * n) (neg_is y).0, ap (λ (k : ℕ). k * n) (neg_is y).1)

-- a slope to the same level is 0
pub flat-mul : (x : ℤ) (n : ℕ) → (x -ℤ x) *ℤ pos n ≡ pos 0
flat-mul x n = rw (sub-mul x x n) (omega (arith, ints))

-- the level of a chord by its slope, over plain numbers: `a` samples to the left and `b` to the right
level-by-slope : (left right here : ℤ) (a b : ℕ) →
    (left *ℤ pos b +ℤ right *ℤ pos a) +ℤ (here -ℤ left) *ℤ pos (a + b) ≡ here *ℤ pos (a + b) +ℤ (right -ℤ left) *ℤ pos a
level-by-slope left right here a b = rw (sub-mul here left (a + b), sub-mul right left a) (omega (arith, ints))

-- the level of a chord by its slope
pub chord-by-slope : (signal : Signal) (a b k : ℕ) → a ≤ k → k ≤ b →
    chord_by_span signal a b k +ℤ (sample_at signal k -ℤ sample_at signal a) *ℤ pos (b - a)
    ≡ sample_at signal k *ℤ pos (b - a) +ℤ (sample_at signal b -ℤ sample_at signal a) *ℤ pos (k - a)
chord-by-slope signal a b k left right =
    let whole : b - a ≡ (k - a) + (b - k) = omega arith in
    rw whole (level-by-slope (sample_at signal a) (sample_at signal b) (sample_at signal k) (k - a) (b - k))

-- a sample doesn't lie under a chord exactly where its slope is at least the chord's
pub over-from : (signal : Signal) (a b k : ℕ) → a ≤ k → k ≤ b →
    ((sample_at signal b -ℤ sample_at signal a) *ℤ pos (k - a)) ≤ℤ ((sample_at signal k -ℤ sample_at signal a) *ℤ pos (b - a)) →
    is_over signal a b k ≡ true
over-from signal a b k left right slope =
    sym (true_is_le (chord_by_span signal a b k) (sample_at signal k *ℤ pos (b - a)) (omega (arith, ints, chord-by-slope signal a b k left right, slope)))

pub over-not : (signal : Signal) (a b k : ℕ) → a ≤ k → k ≤ b →
    ((sample_at signal k -ℤ sample_at signal a) *ℤ pos (b - a)) <ℤ ((sample_at signal b -ℤ sample_at signal a) *ℤ pos (k - a)) →
    is_over signal a b k ≡ false
over-not signal a b k left right slope =
    sym (false_is_le (chord_by_span signal a b k) (sample_at signal k *ℤ pos (b - a)) (omega (arith, ints, chord-by-slope signal a b k left right, slope)))

pub over-slope : (signal : Signal) (a b k : ℕ) → a ≤ k → k ≤ b → is_over signal a b k ≡ true →
    ((sample_at signal b -ℤ sample_at signal a) *ℤ pos (k - a)) ≤ℤ ((sample_at signal k -ℤ sample_at signal a) *ℤ pos (b - a))
over-slope signal a b k left right over =
    omega (arith, ints, chord-by-slope signal a b k left right, le-true (chord_by_span signal a b k) (sample_at signal k *ℤ pos (b - a)) over)
