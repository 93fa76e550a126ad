-- One decimal after another.
use Rattle.std.proofs.Common.{◌≡◌, ℕ, zero, suc, ◌+◌, ◌*◌, ◌/◌, ◌%◌, ◌^◌, ◌<◌, List, [], ◌∷◌, ◌++◌, map, ℤ, unsigned_abs, append_assoc, refl, sym, ap, ap₂, ◌∙◌, arith, mul_assoc, mul_right_comm, pow-suc, add-one, subst, add-mul, div-add-mod', mod-lt, div-lt_iff_lt-mul}
use Rattle.std.specs.Fmt.{decimal, sign_text}
use Rattle.std.specs.Int.{is_negative}
use Rattle.std.specs.List.{range_with_len}
use Rattle.std.proofs.Math.Nat.{mul-add-div_right, mul-add-mod_self_right}
use Rattle.std.proofs.lemmas.Nat.{mod-mul-add, mul-mod_first, div-mul-add}
use Rattle.std.proofs.lemmas.List.FromFn.{map-range_with_len_more}
use Rattle.cds_frac.specs.Decimals.{decimal_at, decimals, fraction_text, decimal_text}
use Rattle.cds_frac.specs.Fraction.{Fraction}

-- ten times a number below 1 has a whole part below 10
pub digit_below_ten : (r d : ℕ) → r < d → r * 10 / d < 10
digit_below_ten r d lt =
    let some : 0 < d = omega arith in
    (div-lt_iff_lt-mul some).1 (omega arith)

-- a quotient and a remainder are those of the division
pub quotient_is : (n q r d : ℕ) → q * d + r ≡ n → r < d → q ≡ n / d
quotient_is n q r d is lt = sym (div-mul-add q d r lt) ∙ ap (λ m. m / d) is

pub remainder_is : (n q r d : ℕ) → q * d + r ≡ n → r < d → r ≡ n % d
remainder_is n q r d is lt = sym (mod-mul-add q d r lt) ∙ ap (λ m. m % d) is

-- the whole part of a number times b is that of what is behind its point, but for a multiple of b
split_quotient : (m b d : ℕ) → 0 < d → m * b / d ≡ m / d * b + m % d * b / d
split_quotient m b d some =
    let whole : m / d * d + m % d ≡ m = div-add-mod' m d in
    let grown : m / d * b * d + m % d * b ≡ m * b = ap (λ n. n + m % d * b) (mul_right_comm (m / d) b d) ∙ sym (add-mul (m / d * d) (m % d) b) ∙ ap (λ n. n * b) whole in
    ap (λ n. n / d) (sym grown) ∙ mul-add-div_right some (m / d * b) (m % d * b)

ten_more : (n i : ℕ) → n * 10 ^ (i + 1) ≡ n * 10 ^ i * 10
ten_more n i = ap (λ j. n * 10 ^ j) (add-one i) ∙ ap (λ k. n * k) (pow-suc 10 i) ∙ sym (mul_assoc n (10 ^ i) 10)

-- ten times what is left shows the next decimal
pub next_digit : (n d i : ℕ) → 0 < d → n * 10 ^ i % d * 10 / d ≡ n * 10 ^ (i + 1) / d % 10
next_digit n d i some =
    let m : ℕ = n * 10 ^ i in
    let more : n * 10 ^ (i + 1) ≡ m * 10 = ten_more n i in
    let small : m % d * 10 / d < 10 = digit_below_ten (m % d) d (mod-lt m some) in
    sym (ap (λ k. k / d % 10) more ∙ ap (λ k. k % 10) (split_quotient m 10 d some) ∙ mod-mul-add (m / d) 10 (m % d * 10 / d) small)

-- and leaves what the next step begins with
pub next_rest : (n d i : ℕ) → n * 10 ^ i % d * 10 % d ≡ n * 10 ^ (i + 1) % d
next_rest n d i =
    mul-mod_first (n * 10 ^ i) 10 d ∙ ap (λ k. k % d) (sym (ten_more n i))

-- one more decimal
pub decimals_more : (n d i : ℕ) → decimals n d (i + 1) ≡ decimals n d i ++ decimal_at n d (i + 1) ∷ []
decimals_more n d i = map-range_with_len_more (decimal_at n d) 1 i (i + 1) (omega arith)

-- the decimals are those of what is behind the point
rest_decimal : (n d i : ℕ) → 0 < d → decimal_at (n % d) d (suc i) ≡ decimal_at n d (suc i)
rest_decimal n d i some =
    let q : ℕ = n / d * 10 ^ i in
    let whole : n / d * 10 ^ suc i ≡ q * 10 = ap (λ k. n / d * k) (pow-suc 10 i) ∙ sym (mul_assoc (n / d) (10 ^ i) 10) in
    let split : n * 10 ^ suc i / d ≡ q * 10 + n % d * 10 ^ suc i / d = split_quotient n (10 ^ suc i) d some ∙ ap (λ k. k + n % d * 10 ^ suc i / d) whole in
    ap (λ k. 48 + k) (sym (ap (λ k. k % 10) split ∙ mul-add-mod_self_right q 10 (n % d * 10 ^ suc i / d)))

rest_decimals : (n d a k : ℕ) → 0 < d → map (decimal_at (n % d) d) (range_with_len (suc a) k) ≡ map (decimal_at n d) (range_with_len (suc a) k)
rest_decimals n d a zero some = refl
rest_decimals n d a (suc k) some =
    ap₂ ◌∷◌ (rest_decimal n d a some) (subst (λ s. map (decimal_at (n % d) d) (range_with_len s k) ≡ map (decimal_at n d) (range_with_len s k)) (sym (add-one (suc a))) (rest_decimals n d (suc a) k some))

pub decimals-rest : (n d k : ℕ) → 0 < d → decimals (n % d) d k ≡ decimals n d k
decimals-rest n d k some = rest_decimals n d 0 k some

-- a text with one more decimal
pub written_more : (new text old e : List ℕ) (x n d i : ℕ) → new ≡ text ++ e → e ≡ x ∷ [] → x ≡ decimal_at n d (i + 1) → text ≡ old ++ decimals n d i → new ≡ old ++ decimals n d (i + 1)
written_more new text old e x n d i pushed one is written =
    pushed
    ∙ ap (λ b. text ++ b) (one ∙ ap (λ y. y ∷ []) is)
    ∙ ap (λ t. t ++ decimal_at n d (i + 1) ∷ []) written
    ∙ append_assoc old (decimals n d i) (decimal_at n d (i + 1) ∷ [])
    ∙ ap (λ b. old ++ b) (sym (decimals_more n d i))

fraction_text-rest : (n d k : ℕ) → 0 < d → fraction_text (n % d) d k ≡ fraction_text n d k
fraction_text-rest n d zero some = refl
fraction_text-rest n d (suc k) some = ap (λ ds. 46 ∷ ds) (decimals-rest n d (suc k) some)

-- the text of a number, from the texts of its sign, its whole part and what is behind the point
pub decimal_text-is : (f : Fraction) (z : ℤ) (size k : ℕ) (text front sign : List ℕ) → 0 < f.den → z ≡ f.num → size ≡ unsigned_abs f.num → sign ≡ sign_text (is_negative z) → front ≡ sign ++ decimal (size / f.den) → text ≡ front ++ fraction_text (size % f.den) f.den k → text ≡ decimal_text f k
decimal_text-is f z size k text front sign some number size_is sign_is front_is text_is =
    text_is
    ∙ ap (λ t. t ++ fraction_text (size % f.den) f.den k) (front_is ∙ ap (λ s. s ++ decimal (size / f.den)) (sign_is ∙ ap (λ y. sign_text (is_negative y)) number))
    ∙ ap (λ b. (sign_text (is_negative f.num) ++ decimal (size / f.den)) ++ b) (fraction_text-rest size f.den k some)
    ∙ append_assoc (sign_text (is_negative f.num)) (decimal (size / f.den)) (fraction_text size f.den k)
    ∙ ap (λ n. sign_text (is_negative f.num) ++ (decimal (n / f.den) ++ fraction_text n f.den k)) size_is
