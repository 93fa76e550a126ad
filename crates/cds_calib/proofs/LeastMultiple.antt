-- The least common multiple of the amounts, one amount after another.
use Rattle.std.proofs.Common.{◌≡◌, ℕ, zero, suc, ◌+◌, ◌*◌, ◌/◌, ◌%◌, ◌<◌, ◌≤◌, Bool, true, false, eqb, List, [], ◌∷◌, ◌++◌, length, get_or, take, refl, sym, subst, arith, mul-pos}
use Rattle.std.specs.List.{All, fold}
use Rattle.std.specs.Int.{◌∣◌, IsGcd}
use Rattle.std.proofs.Math.Nat.{dvd_trans, dvd-mul_left, dvd-mul_right, dvd_of_mod-eq-zero, mod-eq-zero_of_dvd, le_of_dvd, one-dvd, dvd_refl, pos_of_dvd_of_pos, div-mul_cancel}
use Rattle.std.proofs.lemmas.Bool.{eqb-true, eq-eqb}
use Rattle.std.proofs.lemmas.List.Sums.{AllPass-from_list_all, list_all-from_AllPass}
use Rattle.std.proofs.lemmas.List.Elements.{All-nil, All-head, All-tail, All-cons, All-weaker, All-more, All-take, All-get_or}
use Rattle.std.proofs.lemmas.List.{take_more, take_all}
use Rattle.cds_frac.specs.Divisors.{IsLcm}
use Rattle.cds_frac.proofs.Coprime.{exists_gcd, IsLcm-product}
use Rattle.cds_frac.proofs.LowestTerms.{least_from-is}
use Rattle.cds_calib.specs.declared.point.Point.{Point}
use Rattle.cds_calib.specs.Points.{IsPoint}
use Rattle.cds_calib.specs.Fit.{divided_by_all, product_x, common_multiple}
use Rattle.cds_calib.proofs.Weighted.{Shares}

-- each amount divides m
abbrev pub IsMultiple : ℕ → List Point → Type 0
IsMultiple m points = All (λ p. p.amount ∣ m) points

-- m is a common multiple above 0, and divides each other one
pub record IsLeast (m : ℕ) (points : List Point) : Type 0 where
  pub some : 0 < m
  pub multiple : IsMultiple m points
  pub least : (k : ℕ) → IsMultiple k points → m ∣ k

-- two numbers above 0 have a least common multiple above 0
pub exists_lcm : (a b : ℕ) → 0 < a → 0 < b → (l : ℕ) × (0 < l) × IsLcm a b l
exists_lcm a b a_some b_some =
    let common : (g : ℕ) × (IsGcd a b g × ((c : ℕ) → IsGcd (a * c) (b * c) (g * c))) = exists_gcd b a b (omega arith) in
    let g : ℕ = common.0 in
    let is : IsGcd a b g = common.1.0 in
    let whole : a / g * g ≡ a = div-mul_cancel g is.0 in
    let some : 0 < a / g = factor_pos (a / g) g (subst (λ n. 0 < n) (sym whole) a_some) in
    (a / g * b, mul-pos some b_some, IsLcm-product a b g a_some b_some is)
  where
    factor_pos : (n k : ℕ) → 0 < n * k → 0 < n
    factor_pos zero k h = absurd (omega arith)
    factor_pos (suc n) k h = omega arith

-- one amount more
pub IsLeast-cons : (m l : ℕ) (p : Point) (points : List Point) → IsLeast m points → 0 < l → IsLcm m p.amount l → IsLeast l (p ∷ points)
IsLeast-cons m l p points is some both = record {
  some = some;
  multiple = All-cons (λ q. q.amount ∣ l) p points both.1 (All-weaker (λ q. q.amount ∣ m) (λ q. q.amount ∣ l) (λ q h. dvd_trans q.amount h both.0) points is.multiple);
  least = λ k all. both.2 k (is.least k (All-tail (λ q. q.amount ∣ k) p points all)) (All-head (λ q. q.amount ∣ k) p points all);
}

-- points within the limits have a least common multiple of their amounts
pub exists_least : (points : List Point) → All IsPoint points → (m : ℕ) × IsLeast m points
exists_least [] all = (1, record { some = omega arith; multiple = All-nil (λ q. q.amount ∣ 1); least = λ k h. one-dvd k })
exists_least (p ∷ points) all =
    let rest : (m : ℕ) × IsLeast m points = exists_least points (All-tail IsPoint p points all) in
    let here : IsPoint p = All-head IsPoint p points all in
    let both : (l : ℕ) × (0 < l) × IsLcm rest.0 p.amount l = exists_lcm rest.0 p.amount rest.1.some here.some in
    (both.0, IsLeast-cons rest.0 both.0 p points rest.1 both.1 both.2)

product_from : (a : ℕ) (points : List Point) → a ∣ fold (λ b p. b * p.amount) a points
product_from a [] = dvd_refl a
product_from a (p ∷ points) = dvd_trans a (dvd-mul_right a p.amount) (product_from (a * p.amount) points)

product_multiple : (a : ℕ) (points : List Point) → IsMultiple (fold (λ b p. b * p.amount) a points) points
product_multiple a [] = All-nil (λ q. q.amount ∣ a)
product_multiple a (p ∷ points) =
    All-cons (λ q. q.amount ∣ fold (λ b p. b * p.amount) (a * p.amount) points) p points
    (dvd_trans p.amount (dvd-mul_left p.amount a) (product_from (a * p.amount) points))
    (product_multiple (a * p.amount) points)

product_pos : (a : ℕ) (points : List Point) → 0 < a → All IsPoint points → 0 < fold (λ b p. b * p.amount) a points
product_pos a [] some all = some
product_pos a (p ∷ points) some all = product_pos (a * p.amount) points (mul-pos some (let here = All-head IsPoint p points all in here.some)) (All-tail IsPoint p points all)

-- the test of a common multiple
divided-true : (points : List Point) (m : ℕ) → IsMultiple m points → divided_by_all points m ≡ true
divided-true points m all = list_all-from_AllPass (λ p. eqb (m % p.amount) 0) points (All-weaker (λ p. p.amount ∣ m) (λ p. eqb (m % p.amount) 0 ≡ true) (λ p h. eq-eqb (m % p.amount) 0 (mod-eq-zero_of_dvd p.amount h)) points all)

multiple_from_divided : (points : List Point) (m : ℕ) → divided_by_all points m ≡ true → IsMultiple m points
multiple_from_divided points m h = All-weaker (λ p. eqb (m % p.amount) 0 ≡ true) (λ p. p.amount ∣ m) (λ p e. dvd_of_mod-eq-zero p.amount (eqb-true (m % p.amount) 0 e)) points (AllPass-from_list_all (λ p. eqb (m % p.amount) 0) points h)

not_true : (b : Bool) → (b ≡ true → ⊥) → b ≡ false
not_true true h = absurd (h refl)
not_true false h = refl

-- the least common multiple is the one that divides all others
pub common_multiple-is : (points : List Point) (m : ℕ) → All IsPoint points → IsLeast m points → common_multiple points ≡ m
unfolding common_multiple
common_multiple-is points m all is =
    let within : m ≤ product_x points = le_of_dvd (product_pos 1 points (omega arith) all) (is.least (product_x points) (product_multiple 1 points)) in
    let some = is.some in
    least_from-is (divided_by_all points) 1 (product_x points) m (omega arith) (omega arith) (divided-true points m is.multiple)
    (λ j low below. not_true (divided_by_all points j) (λ h. let le : m ≤ j = le_of_dvd low (is.least j (multiple_from_divided points j h)) in omega arith))

-- it is a least common multiple
pub IsLeast-common_multiple : (points : List Point) → All IsPoint points → IsLeast (common_multiple points) points
IsLeast-common_multiple points all =
    let some : (m : ℕ) × IsLeast m points = exists_least points all in
    subst (λ m. IsLeast m points) (sym (common_multiple-is points some.0 all some.1)) some.1

-- the amounts share it
pub Shares-common_multiple : (points : List Point) (m : ℕ) → All IsPoint points → m ≡ common_multiple points → (0 < m) × All (Shares m) points
Shares-common_multiple points m all is =
    let least : IsLeast m points = subst (λ k. IsLeast k points) (sym is) (IsLeast-common_multiple points all) in
    (least.some, λ k d within. record { some = let here = all k d within in here.some; divides = least.multiple k d within })

-- of no amount it is 1
pub IsLeast-nil : IsLeast 1 []
IsLeast-nil = record { some = omega arith; multiple = All-nil (λ q. q.amount ∣ 1); least = λ k h. one-dvd k }

-- what holds of a list with one element more holds of the list and of that element
All_front : (P : Point → Type 0) (xs : List Point) (y : Point) → All P (xs ++ y ∷ []) → All P xs × P y
All_front P [] y all = (All-nil P, All-head P y [] all)
All_front P (x ∷ xs) y all =
    let rest : All P xs × P y = All_front P xs y (All-tail P x (xs ++ y ∷ []) all) in
    (All-cons P x xs (All-head P x (xs ++ y ∷ []) all) rest.0, rest.1)

-- one amount more in a loop
pub IsLeast-more : (m l a i : ℕ) (points : List Point) (d : Point) → IsLeast m (take i points) → i < length points → All IsPoint points → a ≡ (get_or points i d).amount → IsLcm m a l → IsLeast l (take (i + 1) points)
IsLeast-more m l a i points d is within all read both =
    let p : Point = get_or points i d in
    let here : IsPoint p = All-get_or IsPoint points i d within all in
    let a_some : 0 < a = subst (λ n. 0 < n) (sym read) here.some in
    let grown : take (i + 1) points ≡ take i points ++ p ∷ [] = take_more points i d within in
    record {
      some = pos_of_dvd_of_pos (both.2 (m * a) (dvd-mul_right m a) (dvd-mul_left a m)) (mul-pos is.some a_some);
      multiple = All-more (λ q. q.amount ∣ l) points i d within (All-weaker (λ q. q.amount ∣ m) (λ q. q.amount ∣ l) (λ q h. dvd_trans q.amount h both.0) (take i points) is.multiple) (subst (λ n. n ∣ l) read both.1);
      least = λ k every.
          let parts : IsMultiple k (take i points) × (p.amount ∣ k) = All_front (λ q. q.amount ∣ k) (take i points) p (subst (IsMultiple k) grown every) in
          both.2 k (is.least k parts.0) (subst (λ n. n ∣ k) (sym read) parts.1);
    }

-- where one amount more passes the limit, all do
pub multiple_past : (m a i limit : ℕ) (points : List Point) (d : Point) → IsLeast m (take i points) → i < length points → All IsPoint points → a ≡ (get_or points i d).amount → ((l : ℕ) → 0 < l → m ∣ l → a ∣ l → limit ≤ l) → limit ≤ common_multiple points
multiple_past m a i limit points d is within all read past =
    let whole : IsLeast (common_multiple points) points = IsLeast-common_multiple points all in
    past (common_multiple points) whole.some
    (is.least (common_multiple points) (All-take (λ q. q.amount ∣ common_multiple points) i points whole.multiple))
    (subst (λ n. n ∣ common_multiple points) (sym read) (whole.multiple i d within))

-- at the end of the loop
pub common_multiple_all : (m i : ℕ) (points : List Point) → All IsPoint points → IsLeast m (take i points) → length points ≤ i → m ≡ common_multiple points
common_multiple_all m i points all is past = sym (common_multiple-is points m all (subst (IsLeast m) (take_all i points past) is))
