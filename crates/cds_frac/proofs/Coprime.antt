-- Numbers without a common divisor.
use Rattle.std.proofs.Common.{◌≡◌, ℕ, zero, suc, ◌+◌, ◌*◌, ◌/◌, ◌%◌, ◌<◌, ◌≤◌, refl, sym, ap, ◌∙◌, subst, arith, mul_comm, mul_assoc, mul-zero, mod-lt, mul_left_comm}
use Rattle.std.specs.Int.{◌∣◌, IsGcd}
use Rattle.std.proofs.Math.Nat.{mod-zero, add-mul, div-add-mod', mul-lt-mul_of_pos_right, dvd_trans, dvd_antisymm, dvd-mul_left, dvd-mul_right, div-mul_cancel, mul-dvd-mul_right, dvd_of_mul-dvd-mul_right, one-dvd, one-mul, pos_of_dvd_of_pos}
use Rattle.std.proofs.lemmas.Nat.{mod-mul-add}
use Rattle.std.proofs.lemmas.Nat.Gcd.{IsGcd-from_mod, IsGcd-from_zero, IsGcd-swap, same_from_IsGcd}
use Rattle.cds_frac.specs.Divisors.{AreCoprime, IsLcm}

-- a remainder grows with its two numbers
mod-mul_right : (a b c : ℕ) → 0 < b → a * c % (b * c) ≡ a % b * c
mod-mul_right a b zero some = rw (mul-zero a, mul-zero b, mul-zero (a % b)) (mod-zero 0)
mod-mul_right a b (suc c) some =
    let small : a % b * suc c < b * suc c = mul-lt-mul_of_pos_right (mod-lt a some) (omega arith) in
    let whole : a / b * b + a % b ≡ a = div-add-mod' a b in
    let parts : (a / b * b + a % b) * suc c ≡ a / b * b * suc c + a % b * suc c = add-mul (a / b * b) (a % b) (suc c) in
    let grown : a / b * (b * suc c) + a % b * suc c ≡ a * suc c = ap (λ n. n + a % b * suc c) (sym (mul_assoc (a / b) b (suc c))) ∙ sym parts ∙ ap (λ n. n * suc c) whole in
    ap (λ n. n % (b * suc c)) (sym grown) ∙ mod-mul-add (a / b) (b * suc c) (a % b * suc c) small

-- two numbers have a greatest common divisor, and it grows with them
pub exists_gcd : (k a b : ℕ) → b ≤ k → (g : ℕ) × (IsGcd a b g × ((c : ℕ) → IsGcd (a * c) (b * c) (g * c)))
exists_gcd k a zero le = (a, (IsGcd-from_zero a 0 refl, λ c. IsGcd-from_zero (a * c) (0 * c) (omega arith)))
exists_gcd zero a (suc b) le = absurd (omega arith)
exists_gcd (suc k) a (suc b) le =
    let below : a % suc b < suc b = mod-lt a (omega arith) in
    let rest : (g : ℕ) × (IsGcd (suc b) (a % suc b) g × ((c : ℕ) → IsGcd (suc b * c) (a % suc b * c) (g * c))) = exists_gcd k (suc b) (a % suc b) (omega arith) in
    (rest.0, (IsGcd-from_mod a (suc b) rest.0 rest.1.0, λ c. IsGcd-from_mod (a * c) (suc b * c) (rest.0 * c) (subst (λ m. IsGcd (suc b * c) m (rest.0 * c)) (sym (mod-mul_right a (suc b) c (omega arith))) (rest.1.1 c))))

-- a greatest common divisor grows with its two numbers
pub IsGcd-mul : (a b g c : ℕ) → IsGcd a b g → IsGcd (a * c) (b * c) (g * c)
IsGcd-mul a b g c is =
    let some : (h : ℕ) × (IsGcd a b h × ((c : ℕ) → IsGcd (a * c) (b * c) (h * c))) = exists_gcd b a b (omega arith) in
    subst (λ h. IsGcd (a * c) (b * c) (h * c)) (same_from_IsGcd a b some.0 g some.1.0 is) (some.1.1 c)

-- what divides a product and has nothing in common with one factor divides the other
pub dvd_other_factor : (a b c : ℕ) → AreCoprime a b → a ∣ b * c → a ∣ c
dvd_other_factor a b c apart whole =
    let grown : IsGcd (a * c) (b * c) (1 * c) = IsGcd-mul a b 1 c apart in
    subst (λ n. a ∣ n) (one-mul c) (grown.2 a (dvd-mul_right a c) whole)

-- a divisor has nothing in common with what the number has nothing in common with
pub coprime_divisor : (a b d : ℕ) → AreCoprime a b → d ∣ a → AreCoprime d b
coprime_divisor a b d apart part = (one-dvd d, one-dvd b, λ k p q. apart.2 k (dvd_trans k p part) q)

pub coprime_swap : (a b : ℕ) → AreCoprime a b → AreCoprime b a
coprime_swap a b h = IsGcd-swap a b 1 h

-- a product has nothing in common with what neither factor has anything in common with
pub coprime_product : (a b c : ℕ) → AreCoprime a c → AreCoprime b c → AreCoprime (a * b) c
coprime_product a b c left right =
    (one-dvd (a * b), one-dvd c, λ k p q. right.2 k (dvd_other_factor k a b (coprime_swap a k (coprime_swap k a (coprime_divisor c a k (coprime_swap a c left) q))) p) q)

-- divided by their greatest common divisor, two numbers have nothing in common
pub coprime_quotients : (a b g : ℕ) → 0 < g → IsGcd a b g → AreCoprime (a / g) (b / g)
coprime_quotients a b g some is = (
  one-dvd (a / g),
  one-dvd (b / g),
  λ k p q.
      let up : (n : ℕ) → g ∣ n → k ∣ n / g → k * g ∣ n = λ n whole part. subst (λ m. k * g ∣ m) (div-mul_cancel g whole) (mul-dvd-mul_right k part g) in
      let one : k * g ∣ 1 * g = subst (λ m. k * g ∣ m) (sym (one-mul g)) (is.2 (k * g) (up a is.0 p) (up b is.1 q)) in
      dvd_of_mul-dvd-mul_right k some one,
)

-- Euclid's step keeps the greatest common divisor
pub gcd_step : (a b : ℕ) (x y : ℕ) → ((g : ℕ) → IsGcd x y g → IsGcd a b g) → (g : ℕ) → IsGcd y (x % y) g → IsGcd a b g
gcd_step a b x y known g is = known g (IsGcd-from_mod x y g is)

-- a greatest common divisor is 0 only of 0 and 0
pub gcd_pos : (a b g : ℕ) → IsGcd a b g → 0 < a + b → 0 < g
gcd_pos a zero g is some = pos_of_dvd_of_pos is.0 (omega arith)
gcd_pos a (suc b) g is some = pos_of_dvd_of_pos is.1 (omega arith)

-- one number divided by the greatest common divisor, times the other, is the least common multiple
pub IsLcm-product : (a b g : ℕ) → 0 < a → 0 < b → IsGcd a b g → IsLcm a b (a / g * b)
IsLcm-product a b g a_some b_some is =
    let some : 0 < g = pos_of_dvd_of_pos is.0 a_some in
    let left : a / g * g ≡ a = div-mul_cancel g is.0 in
    let right : b / g * g ≡ b = div-mul_cancel g is.1 in
    let turned : a / g * b ≡ b / g * a = ap (λ n. a / g * n) (sym right) ∙ mul_left_comm (a / g) (b / g) g ∙ ap (λ n. b / g * n) left in (
      subst (λ n. a ∣ n) (sym turned) (dvd-mul_left a (b / g)),
      dvd-mul_left b (a / g),
      λ k p q.
          let t : ℕ = k / a in
          let whole : t * a ≡ k = div-mul_cancel a p in
          let parts : t * (a / g) * g ≡ k = mul_assoc t (a / g) g ∙ ap (λ n. t * n) left ∙ whole in
          let within : b / g * g ∣ t * (a / g) * g = subst (λ n. n ∣ t * (a / g) * g) (sym right) (subst (λ n. b ∣ n) (sym parts) q) in
          let apart : AreCoprime (b / g) (a / g) = coprime_swap (a / g) (b / g) (coprime_quotients a b g some is) in
          let rest : b / g ∣ a / g * t = subst (λ n. b / g ∣ n) (mul_comm t (a / g)) (dvd_of_mul-dvd-mul_right (b / g) some within) in
          let last : b / g ∣ t = dvd_other_factor (b / g) (a / g) t apart rest in
          let grown : b / g * a ∣ t * a = mul-dvd-mul_right (b / g) last a in
          subst (λ n. n ∣ k) (sym turned) (subst (λ n. b / g * a ∣ n) whole grown),
    )

-- there is one least common multiple
pub same_from_IsLcm : (a b m n : ℕ) → IsLcm a b m → IsLcm a b n → m ≡ n
same_from_IsLcm a b m n p q = dvd_antisymm (p.2 n q.0 q.1) (q.2 m p.0 p.1)

-- a factor divides the product
pub factor_divides : (n k m : ℕ) → n * k ≡ m → n ∣ m
factor_divides n k m is = subst (λ x. n ∣ x) is (dvd-mul_right n k)

-- divisors of two numbers have nothing in common where the numbers don't
pub coprime_divisors : (a b c d : ℕ) → AreCoprime a b → c ∣ a → d ∣ b → AreCoprime c d
coprime_divisors a b c d apart left right = coprime_swap d c (coprime_divisor b c d (coprime_swap c b (coprime_divisor a b c apart left)) right)

-- two products have nothing in common where no two of their factors do
pub coprime_products : (a b c d : ℕ) → AreCoprime a c → AreCoprime a d → AreCoprime b c → AreCoprime b d → AreCoprime (a * b) (c * d)
coprime_products a b c d ac ad bc bd =
    coprime_swap (c * d) (a * b) (coprime_product c d (a * b) (coprime_swap (a * b) c (coprime_product a b c ac bc)) (coprime_swap (a * b) d (coprime_product a b d ad bd)))
