-- How two ratios of whole numbers stand to one another.
use Rattle.std.proofs.Common.{◌≡◌, ℕ, zero, suc, ◌+◌, ◌*◌, ◌/◌, ◌%◌, ◌<◌, ◌≤◌, ◌⊎◌, inl, inr, nat_cmp, Less, Equal, Greater, refl, sym, ap, ap₂, ◌∙◌, arith, mul_comm, mul_right_comm, zero-mul, mul-pos, mul-lt-mul_of_pos_right, mul-le-mul_right, div-add-mod', add-mul}
use Rattle.std.specs.Cmp.{nat_cmp_is}
use Rattle.std.proofs.Math.Nat.{lt-div-mul-add}
use Rattle.std.proofs.lemmas.Cmp.{ranked, by_ranked}

-- a smaller whole part makes a smaller ratio
whole_lt : (a b c d : ℕ) → 0 < b → 0 < d → a / b < c / d → a * d < c * b
whole_lt a b c d b_some d_some lt =
    let above : a < a / b * b + b = lt-div-mul-add b_some in
    let next : (a / b + 1) * b ≤ c / d * b = mul-le-mul_right b (omega arith) in
    let split : (a / b + 1) * b ≡ a / b * b + 1 * b = add-mul (a / b) 1 b in
    let below : a < c / d * b = omega arith in
    let grown : a * d < c / d * b * d = mul-lt-mul_of_pos_right below d_some in
    let turned : c / d * b * d ≡ c / d * d * b = mul_right_comm (c / d) b d in
    let whole : c / d * d + c % d ≡ c = div-add-mod' c d in
    let le : c / d * d * b ≤ c * b = mul-le-mul_right b (omega arith) in
    omega arith

-- where the whole parts differ, they decide
pub nat_cmp-whole : (a b c d : ℕ) → 0 < b → 0 < d → (a / b ≡ c / d → ⊥) → nat_cmp (a / b) (c / d) ≡ nat_cmp (a * d) (c * b)
nat_cmp-whole a b c d b_some d_some differ =
    by_ranked (a / b < c / d) (a / b ≡ c / d) (c / d < a / b) (nat_cmp (a / b) (c / d)) (ranked (a / b) (c / d) (nat_cmp (a / b) (c / d)) refl)
    (λ is lt. is ∙ nat_cmp_is (a * d) (c * b) Less (whole_lt a b c d b_some d_some lt))
    (λ is e. absurd (differ e))
    (λ is gt. is ∙ nat_cmp_is (a * d) (c * b) Greater (whole_lt c d a b d_some b_some gt))

-- what is added to both sides changes nothing
nat_cmp-add : (k x y : ℕ) → nat_cmp (k + x) (k + y) ≡ nat_cmp x y
nat_cmp-add k x y =
    by_ranked (x < y) (x ≡ y) (y < x) (nat_cmp x y) (ranked x y (nat_cmp x y) refl)
    (λ is lt. sym (is ∙ nat_cmp_is (k + x) (k + y) Less (omega arith)))
    (λ is e. sym (is ∙ nat_cmp_is (k + x) (k + y) Equal (omega arith)))
    (λ is gt. sym (is ∙ nat_cmp_is (k + x) (k + y) Greater (omega arith)))

-- where the whole parts are equal, the remainders decide
pub nat_cmp-rest : (a b c d : ℕ) → a / b ≡ c / d → nat_cmp (a % b * d) (c % d * b) ≡ nat_cmp (a * d) (c * b)
nat_cmp-rest a b c d same =
    let left : a * d ≡ a / b * b * d + a % b * d = ap (λ n. n * d) (sym (div-add-mod' a b)) ∙ add-mul (a / b * b) (a % b) d in
    let right : c * b ≡ c / d * d * b + c % d * b = ap (λ n. n * b) (sym (div-add-mod' c d)) ∙ add-mul (c / d * d) (c % d) b in
    let turned : c / d * d * b ≡ a / b * b * d = ap (λ q. q * d * b) (sym same) ∙ mul_right_comm (a / b) d b in
    sym (nat_cmp-add (a / b * b * d) (a % b * d) (c % d * b))
    ∙ sym (ap₂ nat_cmp left (right ∙ ap (λ n. n + c % d * b) turned))

-- a product with a factor 0
none-mul : (r d : ℕ) → r ≡ 0 → r * d ≡ 0
none-mul r d none = ap (λ n. n * d) none ∙ zero-mul d

-- 0 stands to a number as it does to a multiple of it
zero_cmp : (s b : ℕ) → 0 < b → nat_cmp 0 s ≡ nat_cmp 0 (s * b)
zero_cmp zero b some = ap (nat_cmp 0) (sym (zero-mul b))
zero_cmp (suc s) b some = sym (nat_cmp_is 0 (suc s) Less (omega arith)) ∙ nat_cmp_is 0 (suc s * b) Less (mul-pos (omega arith) some)

-- and a number to 0
cmp_zero : (r d : ℕ) → 0 < d → nat_cmp r 0 ≡ nat_cmp (r * d) 0
cmp_zero zero d some = ap (λ n. nat_cmp n 0) (sym (zero-mul d))
cmp_zero (suc r) d some = sym (nat_cmp_is (suc r) 0 Greater (omega arith)) ∙ nat_cmp_is (suc r * d) 0 Greater (mul-pos (omega arith) some)

-- a ratio that is 0 stands to another as its numerator does
pub nat_cmp-zero : (r s b d : ℕ) → 0 < b → 0 < d → (r ≡ 0) ⊎ (s ≡ 0) → nat_cmp r s ≡ nat_cmp (r * d) (s * b)
nat_cmp-zero r s b d b_some d_some (inl none) = ap (λ n. nat_cmp n s) none ∙ zero_cmp s b b_some ∙ ap (λ n. nat_cmp n (s * b)) (sym (none-mul r d none))
nat_cmp-zero r s b d b_some d_some (inr none) = ap (nat_cmp r) none ∙ cmp_zero r d d_some ∙ ap (nat_cmp (r * d)) (sym (none-mul s b none))

-- the step: turned over, the remainders stand as the two ratios do
pub nat_cmp-turned : (a b c d : ℕ) → a / b ≡ c / d → nat_cmp (d * (a % b)) (b * (c % d)) ≡ nat_cmp (a * d) (c * b)
nat_cmp-turned a b c d same = ap₂ nat_cmp (mul_comm d (a % b)) (mul_comm b (c % d)) ∙ nat_cmp-rest a b c d same
