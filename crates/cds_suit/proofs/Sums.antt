-- The plain sums of a list, their bounds, and how the sum of squares stands to the square of the sum.
use Rattle.std.proofs.Common.{◌≡◌, ℕ, zero, suc, ◌+◌, ◌-◌, ◌*◌, ◌^◌, ◌<◌, ◌≤◌, List, [], ◌∷◌, length, sym, subst, arith, inl, inr}
use Rattle.std.specs.List.{All, sum, sum_by}
use Rattle.std.proofs.Math.Nat.{mul-le-mul}
use Rattle.std.proofs.lemmas.Nat.{mul-lt}
use Rattle.std.proofs.lemmas.Bool.{cases_lt}
use Rattle.std.proofs.lemmas.List.Sums.{sum_by-cons, sum_by-le}
use Rattle.std.proofs.lemmas.List.Elements.{All-weaker}
use Rattle.cds_suit.specs.declared.square.Square.{Square}
use Rattle.cds_suit.specs.Deviation.{sum_of_squares}
use Rattle.cds_suit.specs.Square.{square_of, IsSquare}

-- at most 64 values, each below 2^52
abbrev pub AreValues : List ℕ → Type 0
AreValues values = (length values ≤ 64) × All (λ x. x < 2 ^ 52) values

-- a sum over the values is at most 64 times a bound of its terms
sum_by-few : (f : ℕ → ℕ) (m : ℕ) (values : List ℕ) → AreValues values → ((x : ℕ) → x < 2 ^ 52 → f x ≤ m) → sum_by f values ≤ 64 * m
sum_by-few f m values are bound =
    let terms : sum_by f values ≤ length values * m = sum_by-le f m values (All-weaker (λ x. x < 2 ^ 52) (λ x. f x ≤ m) bound values are.1) in
    let few : length values * m ≤ 64 * m = mul-le-mul {n₁ = length values} {m₁ = m} {n₂ = 64} {m₂ = m} are.0 (omega arith) in
    omega arith

pub sum-small : (values : List ℕ) → AreValues values → sum values < 2 ^ 58
sum-small values are = omega (arith, sum_by-few (λ x. x) 4503599627370495 values are (λ x lt. omega arith))

pub sum_of_squares-small : (values : List ℕ) → AreValues values → sum_of_squares values < 2 ^ 110
sum_of_squares-small values are =
    omega (
      arith,
      sum_by-few (λ x. x * x) (4503599627370495 * 4503599627370495) values are
          (λ x lt. mul-le-mul {n₁ = x} {m₁ = x} {n₂ = 4503599627370495} {m₂ = 4503599627370495} (omega arith) (omega arith)),
    )

-- twice a product is at most the sum of the squares
up_product : (u d : ℕ) → 2 * (u * (u + d)) ≤ u * u + (u + d) * (u + d)
up_product u d = omega arith

two_products : (u v : ℕ) → 2 * (u * v) ≤ u * u + v * v
two_products u v =
    elim (cases_lt u v) [
      | inl lt ↦ let over : u + (v - u) ≡ v = omega arith in subst (λ w. 2 * (u * w) ≤ u * u + w * w) over (up_product u (v - u))
      | inr ge ↦
          let over : v + (u - v) ≡ u = omega arith in
          let turned : 2 * (v * u) ≤ v * v + u * u = subst (λ w. 2 * (v * w) ≤ v * v + w * w) over (up_product v (u - v)) in
          omega arith
    ]

mixed_step : (n u v s q : ℕ) → 2 * (u * v) ≤ u * u + v * v → 2 * (u * s) ≤ n * (u * u) + q → 2 * (u * (v + s)) ≤ suc n * (u * u) + (v * v + q)
mixed_step n u v s q here before = omega arith

mixed : (u : ℕ) (values : List ℕ) → 2 * (u * sum values) ≤ length values * (u * u) + sum_of_squares values
mixed u [] = omega arith
mixed u (v ∷ values) =
    rw (sum_by-cons (λ x. x) v values, sum_by-cons (λ x. x * x) v values)
    (mixed_step (length values) u v (sum values) (sum_of_squares values) (two_products u v) (mixed u values))

square_step : (n u s q : ℕ) → s * s ≤ n * q → 2 * (u * s) ≤ n * (u * u) + q → (u + s) * (u + s) ≤ suc n * (u * u + q)
square_step n u s q before here = omega arith

-- the square of the sum is at most n times the sum of the squares
pub square_le : (values : List ℕ) → sum values * sum values ≤ length values * sum_of_squares values
square_le [] = omega arith
square_le (u ∷ values) =
    rw (sum_by-cons (λ x. x) u values, sum_by-cons (λ x. x * x) u values)
    (square_step (length values) u (sum values) (sum_of_squares values) (square_le values) (mixed u values))

squares_step : (u s q : ℕ) → q ≤ s * s → u * u + q ≤ (u + s) * (u + s)
squares_step u s q before = omega arith

-- the sum of the squares is at most the square of the sum
pub squares_le : (values : List ℕ) → sum_of_squares values ≤ sum values * sum values
squares_le [] = omega arith
squares_le (u ∷ values) =
    rw (sum_by-cons (λ x. x) u values, sum_by-cons (λ x. x * x) u values) (squares_step u (sum values) (sum_of_squares values) (squares_le values))

-- the products of the two numbers of a square fit
pub record AreSmall (n x xx : ℕ) : Type 0 where
  pub whole : n * xx < 2 ^ 116
  pub square : x * x < 2 ^ 116
  pub spread : n * (n * xx - x * x) < 2 ^ 122
  pub level : (n - 1) * (x * x) < 2 ^ 122

pub AreSmall-from : (n x xx : ℕ) → n ≤ 64 → x < 2 ^ 58 → xx < 2 ^ 110 → AreSmall n x xx
AreSmall-from n x xx few x_fits xx_fits =
    let counted : n * xx ≤ 64 * (2 ^ 110 - 1) = mul-le-mul {n₁ = n} {m₁ = xx} {n₂ = 64} {m₂ = 2 ^ 110 - 1} few (omega arith) in
    let squared : x * x < 2 ^ 58 * 2 ^ 58 = mul-lt x x (2 ^ 58) (2 ^ 58) x_fits x_fits in
    let wide : n * (n * xx - x * x) ≤ 64 * (2 ^ 116 - 1) = mul-le-mul {n₁ = n} {m₁ = n * xx - x * x} {n₂ = 64} {m₂ = 2 ^ 116 - 1} few (omega arith) in
    let flat : (n - 1) * (x * x) ≤ 64 * (2 ^ 116 - 1) = mul-le-mul {n₁ = n - 1} {m₁ = x * x} {n₂ = 64} {m₂ = 2 ^ 116 - 1} (omega arith) (omega arith) in
    record { whole = omega arith; square = omega arith; spread = omega arith; level = omega arith }

-- the square is at most the number of values
spread_le : (n s q : ℕ) → 0 < n → q ≤ s → n * (n * q - s) ≤ n * ((n - 1) * s)
spread_le zero s q some le = omega arith
spread_le (suc m) s q some le =
    let grown : suc m * q ≤ suc m * s = mul-le-mul {n₁ = suc m} {m₁ = q} {n₂ = suc m} {m₂ = s} (omega arith) le in
    let apart : suc m * q - s ≤ m * s = omega arith in
    let back : m ≡ suc m - 1 = omega arith in
    subst (λ k. suc m * (suc m * q - s) ≤ suc m * (k * s)) back (mul-le-mul {n₁ = suc m} {m₁ = suc m * q - s} {n₂ = suc m} {m₂ = m * s} (omega arith) apart)

-- the two numbers that the code computes are those of the values, and make a square
pub IsSquare-from : (values : List ℕ) (n x xx : ℕ) → AreValues values → n ≡ length values → 2 ≤ length values → x ≡ sum values → (x ≡ 0 → ⊥) → xx ≡ sum_of_squares values → x < 2 ^ 58 → xx < 2 ^ 110 → IsSquare (record { spread = n * (n * xx - x * x); level = (n - 1) * (x * x) })
IsSquare-from values n x xx are n_is two x_is some xx_is x_fits xx_fits =
    let small = AreSmall-from n x xx (let few = are.0 in omega arith) x_fits xx_fits in
    let le : xx ≤ x * x = subst (λ y. xx ≤ y * y) (sym x_is) (subst (λ y. y ≤ sum values * sum values) (sym xx_is) (squares_le values)) in
    let most : n * (n * xx - x * x) ≤ n * ((n - 1) * (x * x)) = spread_le n (x * x) xx (omega arith) le in
    let few : n * ((n - 1) * (x * x)) ≤ 64 * ((n - 1) * (x * x)) = mul-le-mul {n₁ = n} {m₁ = (n - 1) * (x * x)} {n₂ = 64} {m₂ = (n - 1) * (x * x)} (let h = are.0 in omega arith) (omega arith) in
    let one : 1 * 1 ≤ x * x = mul-le-mul {n₁ = 1} {m₁ = 1} {n₂ = x} {m₂ = x} (omega arith) (omega arith) in
    let above : 1 * 1 ≤ (n - 1) * (x * x) = mul-le-mul {n₁ = 1} {m₁ = 1} {n₂ = n - 1} {m₂ = x * x} (omega arith) (omega arith) in
    record {
      some = omega arith;
      small = omega arith;
      spread_fits = small.spread;
      level_fits = small.level;
    }

-- the difference under the spread is never below 0
pub difference_le : (values : List ℕ) (n x xx : ℕ) → n ≡ length values → x ≡ sum values → xx ≡ sum_of_squares values → x * x ≤ n * xx
difference_le values n x xx n_is x_is xx_is =
    subst (λ y. y * y ≤ n * xx) (sym x_is) (subst (λ y. sum values * sum values ≤ y * xx) (sym n_is) (subst (λ y. sum values * sum values ≤ length values * y) (sym xx_is) (square_le values)))

-- the two numbers that the code computes are those of the values
pub square_of-is : (values : List ℕ) (n x xx : ℕ) → n ≡ length values → x ≡ sum values → xx ≡ sum_of_squares values → (let s : Square = record { spread = n * (n * xx - x * x); level = (n - 1) * (x * x) } in s ≡ square_of values)
square_of-is values n x xx n_is x_is xx_is = cc
