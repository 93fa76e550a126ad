-- Laws of numbers in the text of a trace.
use Rattle.std.proofs.Common.{◌≡◌, ℕ, ◌+◌, ◌-◌, ◌^◌, ◌<◌, ◌≤◌, Bool, true, false, not, ℤ, List, [], ◌∷◌, Option, Some, None, length, drop, pos, neg_ℤ, arith, refl}
use Rattle.std.specs.Prelude.{◌==◌, ◌||◌, if◌then◌else◌, option_map}
use Rattle.std.specs.Char.{is_ascii_digit}
use Rattle.std.specs.List.{list_all, prefix_len, suffix_len}
use Rattle.std.specs.Str.Parse.{digits_value, digits_value_after, starts_with_minus}
use Rattle.std.proofs.Math.Nat.{pow-le-pow_right}
use Rattle.std.proofs.lemmas.Bool.Decides.{nat_tests}
use Rattle.std.proofs.lemmas.List.{take_all}
use Rattle.std.proofs.lemmas.List.Sums.{AllPass-from_list_all, suffix_len_is}
use Rattle.cds_trace.specs.Number.{digits_number, is_blank, is_digits, number_of, signed_number, without_blanks}

-- the number that digits write behind those of a number, if they are digits
abbrev pub digits_after : ℕ → List ℕ → Option ℕ
digits_after value bytes = if list_all is_ascii_digit bytes then Some (digits_value_after 10 value bytes) else None

-- a number of at most 12 digits
pub digits_fit : (value i : ℕ) → value + 1 ≤ 10 ^ i → i ≤ 12 → value < 10 ^ 12
digits_fit value i h few = omega (arith, pow-le-pow_right {n = 10} (omega arith) {i = i} {j = 12} few)

-- a digit or a `-`
abbrev pub is_number_byte : ℕ → Bool
is_number_byte byte = is_ascii_digit byte || (byte == 45)

-- what holds of each element under one test holds under another that it implies
pub list_all-implies : (p q : ℕ → Bool) → ((x : ℕ) → p x ≡ true → q x ≡ true) → (xs : List ℕ) → list_all p xs ≡ true → list_all q xs ≡ true
list_all-implies p q more [] h = refl
list_all-implies p q more (x ∷ xs) h = let one = more x (grind arith) in let rest = list_all-implies p q more xs (grind arith) in grind arith

-- bytes none of which is a blank lose nothing
prefix_len-none : (p : ℕ → Bool) (xs : List ℕ) → list_all (λ x. not (p x)) xs ≡ true → prefix_len p xs ≡ 0
prefix_len-none p [] h = refl
prefix_len-none p (x ∷ xs) h = grind arith

suffix_len-none : (p : ℕ → Bool) (xs : List ℕ) → list_all (λ x. not (p x)) xs ≡ true → suffix_len p xs ≡ 0
suffix_len-none p xs h =
    let each = AllPass-from_list_all (λ x. not (p x)) xs h in
    let none = suffix_len_is p xs (length xs) 0 (omega arith) (λ k low high. absurd (omega arith)) (λ some. let last = each (length xs - 1) 0 (omega arith) in grind arith) in
    omega (arith, none)

pub without_blanks-number : (xs : List ℕ) → list_all is_number_byte xs ≡ true → without_blanks xs ≡ xs
without_blanks-number xs h =
    let none = list_all-implies is_number_byte (λ x. not (is_blank x)) (λ x e. grind (arith, nat_tests)) xs h in
    rw (prefix_len-none is_blank xs none, suffix_len-none is_blank xs none) (take_all (length xs - 0) xs (omega arith))

-- a number has no blanks
pub number_bytes-digits : (xs : List ℕ) → list_all is_ascii_digit xs ≡ true → list_all is_number_byte xs ≡ true
number_bytes-digits xs h = list_all-implies is_ascii_digit is_number_byte (λ x e. grind arith) xs h

pub minus_bytes : (xs : List ℕ) → list_all is_ascii_digit xs ≡ true → list_all is_number_byte (45 ∷ xs) ≡ true
minus_bytes xs h = let rest = number_bytes-digits xs h in rest

some-digits : {B : Type 0} (f : ℕ → B) (xs : List ℕ) (b : B) → option_map f (digits_number xs) ≡ Some b → list_all is_ascii_digit xs ≡ true
some-digits f xs b h = by (is_digits xs) refl h
  where
    by : (v : Bool) → is_digits xs ≡ v → option_map f (if v then Some (digits_value 10 xs) else None) ≡ Some b → list_all is_ascii_digit xs ≡ true
    by true e h = grind arith
    by false e h = absurd (cc h)

signed_number-bytes : (xs : List ℕ) (n : ℤ) → signed_number xs ≡ Some n → list_all is_number_byte xs ≡ true
signed_number-bytes [] n h = refl
signed_number-bytes (x ∷ xs) n h = by (starts_with_minus (x ∷ xs)) refl h
  where
    by : (b : Bool) → starts_with_minus (x ∷ xs) ≡ b
        → (if b then option_map (λ n. neg_ℤ (pos n)) (digits_number (drop 1 (x ∷ xs))) else option_map pos (digits_number (x ∷ xs))) ≡ Some n
        → list_all is_number_byte (x ∷ xs) ≡ true
    by true e h =
        let digits = number_bytes-digits xs (some-digits (λ n. neg_ℤ (pos n)) xs n h) in
        grind (arith, nat_tests)
    by false e h = number_bytes-digits (x ∷ xs) (some-digits pos (x ∷ xs) n h)

-- a field that is a number, without a look at its ends, is that number
pub number_of-signed : (xs : List ℕ) (n : ℤ) → signed_number xs ≡ Some n → number_of xs ≡ Some n
unfolding number_of
number_of-signed xs n h = rw (without_blanks-number xs (signed_number-bytes xs n h)) h
