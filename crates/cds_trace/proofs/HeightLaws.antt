-- Laws of products with numbers of samples.
use Rattle.std.proofs.Common.{ℕ, ◌*◌, ◌≤◌, ℤ, pos, ◌*ℤ◌}
use Rattle.std.specs.Prelude.{unsigned_abs}
use Rattle.std.proofs.lemmas.Int.{unsigned_abs-mul}
use Rattle.std.proofs.Math.Nat.{mul-le-mul_right}

-- a product with a whole number is at most the bound times that number
pub abs-mul-le : (z : ℤ) (n most : ℕ) → unsigned_abs z ≤ most → unsigned_abs (z *ℤ pos n) ≤ most * n
abs-mul-le z n most h = rw unsigned_abs-mul (mul-le-mul_right n h)
