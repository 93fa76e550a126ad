-- Laws of products and of shares of a period.
use Rattle.std.proofs.Common.{◌≡◌, ℕ, ◌*◌, ◌/◌, ◌<◌, ◌≤◌, true, false, ℤ, pos, negsuc, ◌*ℤ◌, ◌≤ℤ◌, ◌<ℤ◌, arith}
use Rattle.std.specs.Prelude.{int_le}
use Rattle.std.proofs.lemmas.Int.{ints}
use Rattle.std.proofs.Math.Nat.{mul-le-mul_left, mul-lt-mul_of_pos_left, div-le_of_le-mul, div-lt_iff_lt-mul}

-- a part of a whole is at most the whole
pub part-le : (p a b : ℕ) → a ≤ b → p * a / b ≤ p
part-le p a b h = div-le_of_le-mul b (omega (arith, mul-le-mul_left p h))

-- and below it, where it is a part below the whole
pub part-lt : (p a b : ℕ) → a < b → 0 < p → p * a / b < p
part-lt p a b h some = (div-lt_iff_lt-mul {k = b} {x = p * a} {y = p} (omega arith)).1 (mul-lt-mul_of_pos_left h some)

-- fewer times a positive number is less
pub mul-lt : (z : ℤ) (m n : ℕ) → pos 0 <ℤ z → m < n → (z *ℤ pos m) <ℤ (z *ℤ pos n)
mul-lt (pos k) m n positive less =
    let some : 0 < k = omega (arith, ints) in
    omega (arith, ints, mul-lt-mul_of_pos_left {m = m} {n = n} {k = k} less some)
mul-lt (negsuc k) m n positive less = absurd (omega (arith, ints))

-- tests of whole numbers
pub at_most : (x y : ℤ) → x ≤ℤ y → int_le x y ≡ true
at_most x y l = grind (arith, ints)

pub above : (x y : ℤ) → y <ℤ x → int_le x y ≡ false
above x y l = grind (arith, ints)
