-- Laws of the bytes of differences.
use Rattle.std.proofs.Common.{◌≡◌, ◌∙◌, ℕ, zero, suc, ◌+◌, ◌/◌, ◌%◌, ◌<◌, ◌≤◌, ℤ, ◌-ℤ◌, List, [], ◌∷◌, ◌++◌, get_or, length, drop, append_assoc, arith, sym, refl, inl, inr}
use Rattle.std.proofs.lemmas.Bool.{cases_lt}
use Rattle.std.proofs.lemmas.Bool.Decides.{nat_tests}
use Rattle.std.proofs.lemmas.List.{append-nil, drop_all, drop_more}
use Rattle.std.proofs.Math.Nat.{div-lt_self}
use Rattle.cds_trace.specs.SevenBits.{seven_bits, seven_bits_within}
use Rattle.cds_trace.specs.Differences.{bytes_behind, folded}

-- as many turns as the number are enough, and more change nothing
seven_bits_within-enough : (t u n : ℕ) → n ≤ t → n ≤ u → seven_bits_within t n ≡ seven_bits_within u n
seven_bits_within-enough zero zero n h k = refl
seven_bits_within-enough zero (suc u) n h k = let none : n ≡ 0 = omega arith in rw none refl
seven_bits_within-enough (suc t) zero n h k = let none : n ≡ 0 = omega arith in rw none refl
seven_bits_within-enough (suc t) (suc u) n h k = elim (cases_lt n 128) [
  | inl few ↦ grind (arith, nat_tests)
  | inr more ↦
      let less : n / 128 < n = div-lt_self (omega arith) (omega arith) in
      let rest = seven_bits_within-enough t u (n / 128) (omega arith) (omega arith) in
      grind (arith, nat_tests, rest)
]

-- a number of 7 bits is one byte
pub seven_bits-few : (n : ℕ) → n < 128 → seven_bits n ≡ n ∷ []
unfolding seven_bits
seven_bits-few n h = by n n h
  where
    by : (turns n : ℕ) → n < 128 → seven_bits_within turns n ≡ n ∷ []
    by zero n h = refl
    by (suc turns) n h = grind (arith, nat_tests)

-- a greater one is a byte with the high bit set, and the rest
pub seven_bits-more : (n : ℕ) → 128 ≤ n → seven_bits n ≡ (128 + n % 128) ∷ seven_bits (n / 128)
unfolding seven_bits
seven_bits-more n h = by n n h (omega arith)
  where
    by : (turns n : ℕ) → 128 ≤ n → n ≤ turns → seven_bits_within turns n ≡ (128 + n % 128) ∷ seven_bits_within (n / 128) (n / 128)
    by zero n h k = absurd (omega arith)
    by (suc turns) n h k =
        let less : n / 128 < n = div-lt_self (omega arith) (omega arith) in
        let rest = seven_bits_within-enough turns (n / 128) (n / 128) (omega arith) (omega arith) in
        grind (arith, nat_tests, rest)

-- one more byte of a number
pub seven_bits-byte : (bytes whole : List ℕ) (n byte : ℕ) → 128 ≤ n → byte ≡ 128 + n % 128 → bytes ++ seven_bits n ≡ whole →
    (bytes ++ byte ∷ []) ++ seven_bits (n / 128) ≡ whole
seven_bits-byte bytes whole n byte h is told =
    rw is (append_assoc bytes ((128 + n % 128) ∷ []) (seven_bits (n / 128)) ∙ rw (seven_bits-more n h) at told)

-- and the last one
pub seven_bits-last : (bytes whole : List ℕ) (n : ℕ) → n < 128 → bytes ++ seven_bits n ≡ whole → bytes ++ n ∷ [] ≡ whole
seven_bits-last bytes whole n h told = rw (seven_bits-few n h) at told

-- one more difference
pub bytes_behind-more : (bytes more whole : List ℕ) (before sample d : ℤ) (samples : List ℤ) (i : ℕ) → i < length samples → sample ≡ get_or samples i d →
    more ≡ bytes ++ seven_bits (folded (sample -ℤ before)) → bytes ++ bytes_behind before (drop i samples) ≡ whole →
    more ++ bytes_behind sample (drop (i + 1) samples) ≡ whole
unfolding bytes_behind
bytes_behind-more bytes more whole before sample d samples i h is pushed told =
    let next = rw (drop_more samples i d h) at told in
    rw (pushed, is) (append_assoc bytes (seven_bits (folded (get_or samples i d -ℤ before))) (bytes_behind (get_or samples i d) (drop (i + 1) samples)) ∙ next)

-- no more of them
pub bytes_behind-last : (bytes whole : List ℕ) (before : ℤ) (samples : List ℤ) (i : ℕ) → length samples ≤ i →
    bytes ++ bytes_behind before (drop i samples) ≡ whole → bytes ≡ whole
unfolding bytes_behind
bytes_behind-last bytes whole before samples i h told = sym (append-nil bytes) ∙ rw (drop_all i samples h) at told
