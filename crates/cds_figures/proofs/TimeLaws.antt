-- Laws of the vertex of a peak: it lies within a period of the apex sample.
use Rattle.std.proofs.Common.{◌≡◌, ℕ, ◌+◌, ◌*◌, ◌/◌, ◌<◌, ◌≤◌, ℤ, pos, negsuc, ◌+ℤ◌, ◌*ℤ◌, ◌<ℤ◌, arith}
use Rattle.std.specs.Prelude.{unsigned_abs}
use Rattle.std.specs.Int.{int_div_euclid}
use Rattle.std.proofs.lemmas.Int.{ints, unsigned_abs-mul}
use Rattle.std.proofs.Math.Nat.{mul-le-mul_left, mul-le-mul_right, div-le_of_le-mul, div-lt_iff_lt-mul}

-- a quotient, rounded down, is within a bound where the number is within the bound times the divisor
abs-div_euclid-le : (x : ℤ) (n most : ℕ) → 0 < n → unsigned_abs x ≤ most * n → unsigned_abs (int_div_euclid x (pos n)) ≤ most
abs-div_euclid-le (pos a) n most some h = div-le_of_le-mul n (omega (arith, h))
abs-div_euclid-le (negsuc a) n most some h =
    let less : a / n < most = (div-lt_iff_lt-mul {k = n} {x = a} {y = most} some).1 (omega (arith, h)) in
    omega (arith, ints, less)

-- the offset of a vertex whose neighbours rise by no more than it bends is at most a period
pub abs-offset-le : (period : ℕ) (rise bend : ℤ) → pos 0 <ℤ bend → unsigned_abs rise ≤ unsigned_abs bend →
    unsigned_abs (int_div_euclid (pos period *ℤ rise) (pos 2 *ℤ bend)) ≤ period
abs-offset-le period rise bend positive near =
    let whole : pos 2 *ℤ bend ≡ pos (2 * unsigned_abs bend) = omega (arith, ints) in
    let some : 0 < 2 * unsigned_abs bend = omega (arith, ints) in
    let size : unsigned_abs (pos period *ℤ rise) ≡ period * unsigned_abs rise = unsigned_abs-mul (pos period) rise in
    let most = mul-le-mul_left period near in
    rw whole (abs-div_euclid-le (pos period *ℤ rise) (2 * unsigned_abs bend) period some (omega (arith, size, most)))

-- a time that is at most a period away from an apex strictly inside a range lies in the range
pub record IsInside (start apex end period : ℕ) (offset : ℤ) : Type 0 where
  pub late : unsigned_abs offset ≤ apex * period
  pub behind : start * period ≤ unsigned_abs (pos (apex * period) +ℤ offset)
  pub before : unsigned_abs (pos (apex * period) +ℤ offset) ≤ end * period

pub vertex-inside : (start apex end period : ℕ) (offset : ℤ) → start < apex → apex < end → unsigned_abs offset ≤ period →
    IsInside start apex end period offset
vertex-inside start apex end period offset rise fall near =
    let low : (start + 1) * period ≤ apex * period = mul-le-mul_right period (omega arith) in
    let high : (apex + 1) * period ≤ end * period = mul-le-mul_right period (omega arith) in
    record {
      late = omega (arith, near, low);
      behind = omega (arith, ints, near, low);
      before = omega (arith, ints, near, high);
    }
