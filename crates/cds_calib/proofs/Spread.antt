-- How the corrected sums of a list grow with a further point, and that the product of two bounds the square of the third.
use Rattle.std.proofs.Common.{◌≡◌, ℕ, suc, ◌+◌, ◌-◌, ◌*◌, ◌≤◌, List, [], ◌∷◌, length, sym, subst, arith}
use Rattle.std.specs.List.{sum_by}
use Rattle.std.proofs.lemmas.List.Sums.{sum_by-cons}
use Rattle.cds_calib.specs.declared.point.Point.{Point}
use Rattle.cds_calib.proofs.Squares.{gap, gap_square, gap_product, schwarz_add}

-- the sum of the squares of the differences from a number
abbrev pub gaps : (Point → ℕ) → ℕ → List Point → ℕ
gaps f x points = sum_by (λ p. gap x (f p) * gap x (f p)) points

gaps_step : (n x u s q d g : ℕ) → d + 2 * (x * s) ≡ n * (x * x) + q → g + 2 * (x * u) ≡ x * x + u * u → (g + d) + 2 * (x * (u + s)) ≡ suc n * (x * x) + (u * u + q)
gaps_step n x u s q d g before here = omega arith

-- the squares of the differences by plain sums
pub gaps_is : (f : Point → ℕ) (x : ℕ) (points : List Point) → gaps f x points + 2 * (x * sum_by f points) ≡ length points * (x * x) + sum_by (λ p. f p * f p) points
gaps_is f x [] = omega arith
gaps_is f x (p ∷ points) =
    rw (sum_by-cons (λ q. gap x (f q) * gap x (f q)) p points, sum_by-cons f p points, sum_by-cons (λ q. f q * f q) p points)
    (gaps_step (length points) x (f p) (sum_by f points) (sum_by (λ q. f q * f q) points) (gaps f x points) (gap x (f p) * gap x (f p)) (gaps_is f x points) (gap_square x (f p)))

square_step : (n u s q d : ℕ) → s * s ≤ n * q → d + 2 * (u * s) ≡ n * (u * u) + q → (u + s) * (u + s) ≤ suc n * (u * u + q)
square_step n u s q d before here = omega arith

-- n times the sum of the squares is at least the square of the sum
pub square_le : (f : Point → ℕ) (points : List Point) → sum_by f points * sum_by f points ≤ length points * sum_by (λ p. f p * f p) points
square_le f [] = omega arith
square_le f (p ∷ points) =
    rw (sum_by-cons f p points, sum_by-cons (λ q. f q * f q) p points)
    (square_step (length points) (f p) (sum_by f points) (sum_by (λ q. f q * f q) points) (gaps f (f p) points) (square_le f points) (gaps_is f (f p) points))

-- n times the sum of the squares less the square of the sum
abbrev pub corrected : (Point → ℕ) → List Point → ℕ
corrected f points = length points * sum_by (λ p. f p * f p) points - sum_by f points * sum_by f points

corrected_step : (n u s q d : ℕ) → s * s ≤ n * q → d + 2 * (u * s) ≡ n * (u * u) + q → suc n * (u * u + q) - (u + s) * (u + s) ≡ (n * q - s * s) + d
corrected_step n u s q d before here = omega arith

-- a further point adds the squares of the differences from it
pub corrected-cons : (f : Point → ℕ) (p : Point) (points : List Point) → corrected f (p ∷ points) ≡ corrected f points + gaps f (f p) points
corrected-cons f p points =
    rw (sum_by-cons f p points, sum_by-cons (λ q. f q * f q) p points)
    (corrected_step (length points) (f p) (sum_by f points) (sum_by (λ q. f q * f q) points) (gaps f (f p) points) (square_le f points) (gaps_is f (f p) points))

one_product : (x u y v : ℕ) → gap (x * y + u * v) (x * v + y * u) * gap (x * y + u * v) (x * v + y * u) ≤ (gap x u * gap x u) * (gap y v * gap y v)
one_product x u y v = rw (gap_product x u y v) (omega arith)

-- the inequality for the differences from two numbers
pub schwarz_gaps : (f g : Point → ℕ) (x y : ℕ) (points : List Point) → gap (length points * (x * y) + sum_by (λ p. f p * g p) points) (x * sum_by g points + y * sum_by f points) * gap (length points * (x * y) + sum_by (λ p. f p * g p) points) (x * sum_by g points + y * sum_by f points) ≤ gaps f x points * gaps g y points
schwarz_gaps f g x y [] = let none : gap (0 * (x * y) + 0) (x * 0 + y * 0) ≡ 0 = omega arith in subst (λ h. h * h ≤ 0 * 0) (sym none) (omega arith)
schwarz_gaps f g x y (p ∷ points) =
    let n : ℕ = length points in
    let u : ℕ = f p in
    let v : ℕ = g p in
    let sf : ℕ = sum_by f points in
    let sg : ℕ = sum_by g points in
    let sfg : ℕ = sum_by (λ q. f q * g q) points in
    let both = schwarz_add (x * y + u * v) (x * v + y * u) (gap x u * gap x u) (gap y v * gap y v) (n * (x * y) + sfg) (x * sg + y * sf) (gaps f x points) (gaps g y points) (one_product x u y v) (schwarz_gaps f g x y points) in
    let high : (x * y + u * v) + (n * (x * y) + sfg) ≡ suc n * (x * y) + (u * v + sfg) = omega arith in
    let low : (x * v + y * u) + (x * sg + y * sf) ≡ x * (v + sg) + y * (u + sf) = omega arith in
    rw (sum_by-cons f p points, sum_by-cons g p points, sum_by-cons (λ q. f q * g q) p points, sum_by-cons (λ q. gap x (f q) * gap x (f q)) p points, sum_by-cons (λ q. gap y (g q) * gap y (g q)) p points)
    (subst (λ h. gap h (x * (v + sg) + y * (u + sf)) * gap h (x * (v + sg) + y * (u + sf)) ≤ (gap x u * gap x u + gaps f x points) * (gap y v * gap y v + gaps g y points)) high
    (subst (λ l. gap ((x * y + u * v) + (n * (x * y) + sfg)) l * gap ((x * y + u * v) + (n * (x * y) + sfg)) l ≤ (gap x u * gap x u + gaps f x points) * (gap y v * gap y v + gaps g y points)) low both))

-- the inequality of Cauchy and Schwarz for the corrected sums of a list
pub schwarz : (f g : Point → ℕ) (points : List Point) → gap (length points * sum_by (λ p. f p * g p) points) (sum_by f points * sum_by g points) * gap (length points * sum_by (λ p. f p * g p) points) (sum_by f points * sum_by g points) ≤ corrected f points * corrected g points
schwarz f g [] = omega arith
schwarz f g (p ∷ points) =
    let n : ℕ = length points in
    let u : ℕ = f p in
    let v : ℕ = g p in
    let sf : ℕ = sum_by f points in
    let sg : ℕ = sum_by g points in
    let sfg : ℕ = sum_by (λ q. f q * g q) points in
    let both = schwarz_add (n * sfg) (sf * sg) (corrected f points) (corrected g points) (n * (u * v) + sfg) (u * sg + v * sf) (gaps f u points) (gaps g v points) (schwarz f g points) (schwarz_gaps f g u v points) in
    let same : gap (n * sfg + (n * (u * v) + sfg)) (sf * sg + (u * sg + v * sf)) ≡ gap (suc n * (u * v + sfg)) ((u + sf) * (v + sg)) = omega arith in
    rw (corrected-cons f p points, corrected-cons g p points, sum_by-cons f p points, sum_by-cons g p points, sum_by-cons (λ q. f q * g q) p points)
    (subst (λ h. h * h ≤ (corrected f points + gaps f u points) * (corrected g points + gaps g v points)) same both)
