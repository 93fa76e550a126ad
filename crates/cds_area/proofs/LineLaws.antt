-- Laws of products, and of the level of a line.
use Rattle.std.proofs.Common.{◌≡◌, ℕ, ◌+◌, ◌-◌, ◌*◌, ◌<◌, ◌≤◌, ℤ, pos, ◌+ℤ◌, ◌-ℤ◌, ◌*ℤ◌, neg_ℤ, ap, arith}
use Rattle.std.specs.Prelude.{unsigned_abs}
use Rattle.std.proofs.lemmas.Int.{ints}
use borrow.Author.Differences.{sum_is_lem, neg_is}
use Rattle.cds_base.specs.declared.peak.Line.{Line}
use Rattle.cds_trace.specs.Heights.{span, level_by_span}
use Rattle.cds_trace.proofs.HeightLaws.{abs-mul-le}

-- a product of a sum and of a negative number
pub add-mul : (a b : ℤ) (n : ℕ) → (a +ℤ b) *ℤ pos n ≡ a *ℤ pos n +ℤ b *ℤ pos n
add-mul a b n = omega (arith, ints, ap (λ (x : ℕ). x * n) (sum_is_lem a b))

pub neg-mul : (a : ℤ) (n : ℕ) → neg_ℤ a *ℤ pos n ≡ neg_ℤ (a *ℤ pos n)
neg-mul a n = omega (arith, ints, ap (λ (x : ℕ). x * n) (neg_is a).0, ap (λ (x : ℕ). x * n) (neg_is a).1)

-- the level from one sample to the next
step : (f t : ℤ) (a b : ℕ) → f *ℤ pos a +ℤ t *ℤ pos (b + 1) ≡ f *ℤ pos (a + 1) +ℤ t *ℤ pos b +ℤ (t -ℤ f)
step f t a b = omega (arith, ints)

-- a line rises by the same number from each sample to the next
pub level-next : (line : Line) (i : ℕ) → line.from ≤ i → i < line.to →
    level_by_span line (i + 1) ≡ level_by_span line i +ℤ (line.to_y -ℤ line.from_y)
level-next line i left right =
    let before : line.to - i ≡ (line.to - (i + 1)) + 1 = omega arith in
    let behind : (i + 1) - line.from ≡ (i - line.from) + 1 = omega arith in
    rw (behind, before) (step line.from_y line.to_y (line.to - (i + 1)) (i - line.from))

-- a level lies between those of the ends
pub abs-level-le : (line : Line) (i most : ℕ) → line.from ≤ i → i ≤ line.to → unsigned_abs line.from_y ≤ most → unsigned_abs line.to_y ≤ most →
    unsigned_abs (level_by_span line i) ≤ most * span line
abs-level-le line i most left right from_y to_y =
    let a = abs-mul-le line.from_y (line.to - i) most from_y in
    let b = abs-mul-le line.to_y (i - line.from) most to_y in
    let whole : span line ≡ (line.to - i) + (i - line.from) = omega arith in
    rw whole (omega (arith, ints, a, b))
