-- Squares of differences, and the inequality of Cauchy and Schwarz for sums of two.
use Rattle.std.proofs.Common.{◌≡◌, ℕ, ◌+◌, ◌-◌, ◌*◌, ◌<◌, ◌≤◌, sym, subst, arith, inl, inr}
use Rattle.std.proofs.Math.Nat.{mul-le-mul}
use Rattle.std.proofs.lemmas.Nat.{mul-lt}
use Rattle.std.proofs.lemmas.Bool.{cases_lt}

-- how far two numbers lie apart
abbrev pub gap : ℕ → ℕ → ℕ
gap x u = (x - u) + (u - x)

up_square : (x d : ℕ) → d * d + 2 * (x * (x + d)) ≡ x * x + (x + d) * (x + d)
up_square x d = omega arith

-- the square of a difference
pub gap_square : (x u : ℕ) → gap x u * gap x u + 2 * (x * u) ≡ x * x + u * u
gap_square x u =
    elim (cases_lt x u) [
      | inl lt ↦
          let over : u ≡ x + (u - x) = omega arith in
          let apart : gap x u ≡ u - x = omega arith in
          subst (λ d. d * d + 2 * (x * u) ≡ x * x + u * u) (sym apart)
          (subst (λ v. (u - x) * (u - x) + 2 * (x * v) ≡ x * x + v * v) (sym over) (up_square x (u - x)))
      | inr ge ↦
          let over : x ≡ u + (x - u) = omega arith in
          let apart : gap x u ≡ x - u = omega arith in
          let turned : (x - u) * (x - u) + 2 * (u * x) ≡ u * u + x * x = subst (λ v. (x - u) * (x - u) + 2 * (u * v) ≡ u * u + v * v) (sym over) (up_square u (x - u)) in
          subst (λ d. d * d + 2 * (x * u) ≡ x * x + u * u) (sym apart) (omega arith)
    ]

-- four times a product is at most the square of the sum
pub four_products : (u v : ℕ) → 4 * (u * v) ≤ (u + v) * (u + v)
four_products u v = let e = gap_square u v in omega (arith, e)

-- a number with the smaller square is smaller
pub le_from_squares : (a b : ℕ) → a * a ≤ b * b → a ≤ b
le_from_squares a b le = elim (cases_lt b a) [ inl lt ↦ absurd (let more : b * b < a * a = mul-lt b b a a lt lt in omega arith) | inr ge ↦ ge ]

-- two products of two, each at least a square
pub cross_products : (s t p q p' q' : ℕ) → s * s ≤ p * q → t * t ≤ p' * q' → 2 * (s * t) ≤ p * q' + p' * q
cross_products s t p q p' q' first second =
    let both : (s * s) * (t * t) ≤ (p * q) * (p' * q') = mul-le-mul {n₁ = s * s} {m₁ = t * t} {n₂ = p * q} {m₂ = p' * q'} first second in
    let four = four_products (p * q') (p' * q) in
    le_from_squares (2 * (s * t)) (p * q' + p' * q) (omega (arith, both, four))

-- the inequality for the sum of two
pub schwarz_add : (h l p q h' l' p' q' : ℕ) → gap h l * gap h l ≤ p * q → gap h' l' * gap h' l' ≤ p' * q' → gap (h + h') (l + l') * gap (h + h') (l + l') ≤ (p + p') * (q + q')
schwarz_add h l p q h' l' p' q' first second =
    let s : ℕ = gap h l in
    let t : ℕ = gap h' l' in
    let r : ℕ = gap (h + h') (l + l') in
    let within : r ≤ s + t = omega arith in
    let square : r * r ≤ (s + t) * (s + t) = mul-le-mul {n₁ = r} {m₁ = r} {n₂ = s + t} {m₂ = s + t} within within in
    let mixed = cross_products s t p q p' q' first second in
    omega (arith, square, mixed, first, second)

same_sign : (x d y e : ℕ) → x * y + (x + d) * (y + e) ≡ x * (y + e) + y * (x + d) + d * e
same_sign x d y e = omega arith

other_sign : (x d y e : ℕ) → x * (y + e) + (x + d) * y + d * e ≡ x * y + (y + e) * (x + d)
other_sign x d y e = omega arith

-- the product of two differences of one sign
pub product_alike : (x u y v : ℕ) → x ≤ u → y ≤ v → x * y + u * v ≡ x * v + y * u + (u - x) * (v - y)
product_alike x u y v p q =
    let e : u ≡ x + (u - x) = omega arith in
    let f : v ≡ y + (v - y) = omega arith in
    subst (λ w. x * y + w * v ≡ x * v + y * w + (u - x) * (v - y)) (sym e) (subst (λ w. x * y + (x + (u - x)) * w ≡ x * w + y * (x + (u - x)) + (u - x) * (v - y)) (sym f) (same_sign x (u - x) y (v - y)))

-- the product of two differences of two signs
pub product_unlike : (x u y v : ℕ) → x ≤ u → v ≤ y → x * y + u * v + (u - x) * (y - v) ≡ x * v + y * u
product_unlike x u y v p q =
    let e : u ≡ x + (u - x) = omega arith in
    let f : y ≡ v + (y - v) = omega arith in
    subst (λ w. x * y + w * v + (u - x) * (y - v) ≡ x * v + y * w) (sym e) (subst (λ w. x * w + (x + (u - x)) * v + (u - x) * (y - v) ≡ x * v + w * (x + (u - x))) (sym f) (other_sign x (u - x) v (y - v)))

-- the product of two differences, by its parts
pub gap_product : (x u y v : ℕ) → gap (x * y + u * v) (x * v + y * u) ≡ gap x u * gap y v
gap_product x u y v =
    elim (cases_lt x u) [
      | inl a ↦ elim (cases_lt y v) [
        | inl b ↦
            let g : gap x u ≡ u - x = omega arith in
            let h : gap y v ≡ v - y = omega arith in
            let s = product_alike x u y v (omega arith) (omega arith) in
            rw (g, h) (omega arith)
        | inr b ↦
            let g : gap x u ≡ u - x = omega arith in
            let h : gap y v ≡ y - v = omega arith in
            let s = product_unlike x u y v (omega arith) b in
            rw (g, h) (omega arith)
      ]
      | inr a ↦ elim (cases_lt y v) [
        | inl b ↦
            let g : gap x u ≡ x - u = omega arith in
            let h : gap y v ≡ v - y = omega arith in
            let s = product_unlike u x v y a (omega arith) in
            rw (g, h) (omega arith)
        | inr b ↦
            let g : gap x u ≡ x - u = omega arith in
            let h : gap y v ≡ y - v = omega arith in
            let s = product_alike u x v y a b in
            rw (g, h) (omega arith)
      ]
    ]
