-- Samples are read as they are written.
use Rattle.std.proofs.Common.{◌≡◌, ◌∙◌, ℕ, zero, suc, ◌+◌, ◌*◌, ◌-◌, ◌/◌, ◌%◌, ◌^◌, ◌<◌, ◌≤◌, ℤ, pos, negsuc, ◌+ℤ◌}
use Rattle.std.proofs.Common.{◌-ℤ◌, Bool, true, false, cond, eqb, List, [], ◌∷◌, ◌++◌, length, Some, None, refl, sym}
use Rattle.std.proofs.Common.{ap, subst, append_assoc, arith, inl, inr}
use Rattle.std.specs.Prelude.{All, nat_lt, flat_map, ◌==◌}
use Rattle.std.specs.Int.{w32, to_be_bytes, cast_signed, cast_unsigned}
use Rattle.std.proofs.lemmas.Bool.{cases_lt, eqb-true}
use Rattle.std.proofs.lemmas.Bool.Decides.{nat_tests}
use Rattle.std.proofs.lemmas.Int.{ints, of_z-to_z}
use Rattle.std.proofs.lemmas.List.Elements.{All-nil, All-cons, All-head, All-tail}
use Rattle.std.proofs.Math.Nat.{pow-succ'}
use Rattle.cds_trace.specs.Differences.{folded, bytes_behind, first_and_differences}
use Rattle.cds_trace.specs.SampleBytes.{bytes_of_sample}
use Rattle.cds_trace.specs.SevenBits.{seven_bits}
use Rattle.cds_trace.specs.Signal.{IsSample}
use Rattle.cds_trace.specs.TraceText.{is_sample}
use Rattle.cds_trace.proofs.DifferenceLaws.{seven_bits-few, seven_bits-more}
use Rattle.cds_codec.specs.Record.{bytes_of_32}
use Rattle.cds_codec.specs.Reading.{◌>>=◌, sevens_at, difference_of, moved, next_at, behind_at, differences_at}
use Rattle.cds_codec.specs.Reading.{items_at, sample_at, samples_at, passing, with_front}
use Rattle.cds_codec.specs.declared.format.TheConstants.{FIRST_FORMAT}
use Rattle.cds_codec.proofs.Lengths.{difference-few}
use Rattle.cds_codec.proofs.FieldLaws.{IsBytes, IsBytes-tail, Takes, Takes-then, then_some, refused_some, passed_some}
use Rattle.cds_codec.proofs.FieldLaws.{some_is, IsField, IsField-32, IsField-through, IsField-items}

-- a number in bytes of 7 bits is read
sevens_takes : (turns : ℕ) (bytes : List ℕ) (n : ℕ) (rest : List ℕ) → IsBytes bytes
    → sevens_at turns bytes ≡ Some (n, rest) → Takes bytes (seven_bits n) rest
unfolding sevens_at
sevens_takes zero [] n rest fits e = absurd cc
sevens_takes (suc turns) [] n rest fits e = absurd cc
sevens_takes zero (byte ∷ bytes) n rest fits e = absurd cc
sevens_takes (suc turns) (byte ∷ bytes) n rest fits e = elim (cases_lt byte 128) [
  | inl few ↦
      let test : nat_lt byte 128 ≡ true = grind (arith, nat_tests) in
      let pair = some_is (byte, bytes) (n, rest) (rw test at e) in
      let made : Takes (byte ∷ bytes) (seven_bits byte) bytes =
      record {
        parts = ap (λ (t : List ℕ). t ++ bytes) (sym (seven_bits-few byte few));
        rest_fits = IsBytes-tail byte bytes fits;
      } in
      subst (λ (p : ℕ × List ℕ). Takes (byte ∷ bytes) (seven_bits p.0) p.1) pair made
  | inr much ↦
      let test : nat_lt byte 128 ≡ false = grind (arith, nat_tests) in
      let high = then_some (sevens_at turns bytes)
      (λ high. cond (eqb high.0 0) None (Some (byte - 128 + 128 * high.0, high.1))) (n, rest) (rw test at e) in
      let h = high.0.0 in
      let g = refused_some (eqb h 0) (Some (byte - 128 + 128 * h, high.0.1)) (n, rest) high.2 in
      let some : 1 ≤ h = grind (arith, nat_tests, g.0) in
      let pair = some_is (byte - 128 + 128 * h, high.0.1) (n, rest) g.1 in
      let later = sevens_takes turns bytes h high.0.1 (IsBytes-tail byte bytes fits) high.1 in
      let below : byte < 256 = fits 0 in
      let value = byte - 128 + 128 * h in
      let head : 128 + value % 128 ≡ byte = omega arith in
      let tail : value / 128 ≡ h = omega arith in
      let spelled : seven_bits value ≡ byte ∷ seven_bits h = seven_bits-more value (omega arith)
      ∙ rw (head, tail) refl in
      let made : Takes (byte ∷ bytes) (seven_bits value) high.0.1 =
      record { parts = rw spelled (ap (λ (t : List ℕ). byte ∷ t) later.parts); rest_fits = later.rest_fits } in
      subst (λ (p : ℕ × List ℕ). Takes (byte ∷ bytes) (seven_bits p.0) p.1) pair made
]

sevens_again : (turns n : ℕ) (rest : List ℕ) → n < 128 ^ suc turns
    → sevens_at (suc turns) (seven_bits n ++ rest) ≡ Some (n, rest)
unfolding sevens_at
sevens_again zero n rest small =
    let few : n < 128 = small in
    let test : nat_lt n 128 ≡ true = grind (arith, nat_tests) in
    rw (seven_bits-few n few, test) refl
sevens_again (suc turns) n rest small = elim (cases_lt n 128) [
  | inl few ↦ let test : nat_lt n 128 ≡ true = grind (arith, nat_tests) in rw (seven_bits-few n few, test) refl
  | inr much ↦
      let test : nat_lt (128 + n % 128) 128 ≡ false = grind (arith, nat_tests) in
      let power = pow-succ' 128 (suc turns) in
      let next = sevens_again turns (n / 128) rest (omega (arith, rw power at small)) in
      let some : eqb (n / 128) 0 ≡ false = grind (arith, nat_tests) in
      let back : 128 + n % 128 - 128 + 128 * (n / 128) ≡ n = omega arith in
      rw (seven_bits-more n much, test, next, some, back) refl
]

-- a difference is read from its whole number, and the other way round
folded-difference_of : (n : ℕ) → folded (difference_of n) ≡ n
folded-difference_of n = by (eqb (n % 2) 0) refl
  where
    by : (b : Bool) → eqb (n % 2) 0 ≡ b → folded (cond b (pos (n / 2)) (negsuc (n / 2))) ≡ n
    by true h = let even : n % 2 ≡ 0 = eqb-true _ _ h in grind (arith, nat_tests)
    by false h = let odd : n % 2 ≡ 1 = grind (arith, nat_tests) in omega arith

difference_of-folded : (d : ℤ) → difference_of (folded d) ≡ d
difference_of-folded (pos a) = grind (arith, nat_tests)
difference_of-folded (negsuc a) = grind (arith, nat_tests)

-- a sample is read by its difference to the one before
sample-test : (s : ℤ) → is_sample s ≡ true → IsSample s
sample-test s h = record { least = grind (arith, ints, h); greatest = grind (arith, ints, h) }

test-sample : (s : ℤ) → IsSample s → is_sample s ≡ true
test-sample s here =
    let low = here.least in
    let high = here.greatest in
    grind (arith, ints)

next_takes : (before : ℤ) (bytes : List ℕ) (s : ℤ) (rest : List ℕ) → IsBytes bytes
    → next_at before bytes ≡ Some (s, rest) → Takes bytes (seven_bits (folded (s -ℤ before))) rest × IsSample s
unfolding next_at moved
next_takes before bytes s rest fits e =
    let number = then_some (sevens_at 5 bytes) (λ n. moved before (difference_of n.0) >>= λ sample. Some (sample, n.1))
    (s, rest) e in
    let n = number.0.0 in
    let sample = then_some (moved before (difference_of n)) (λ sample. Some (sample, number.0.1)) (s, rest) number.2 in
    let passed = passed_some (is_sample (before +ℤ difference_of n)) (Some (before +ℤ difference_of n)) sample.0
    sample.1 in
    let is : before +ℤ difference_of n ≡ sample.0 = some_is _ _ passed.1 in
    let pair = some_is (sample.0, number.0.1) (s, rest) sample.2 in
    let apart : sample.0 -ℤ before ≡ difference_of n = rw (← is) (omega (arith, ints)) in
    let taken = sevens_takes 5 bytes n number.0.1 fits number.1 in
    let made : Takes bytes (seven_bits (folded (sample.0 -ℤ before))) number.0.1 =
    rw (apart, folded-difference_of n) taken in
    let here : IsSample sample.0 = subst (λ (z : ℤ). IsSample z) is (sample-test _ passed.0) in
    subst (λ (p : ℤ × List ℕ). Takes bytes (seven_bits (folded (p.0 -ℤ before))) p.1 × IsSample p.0) pair (made, here)

next_again : (before s : ℤ) (rest : List ℕ) → IsSample before → IsSample s
    → next_at before (seven_bits (folded (s -ℤ before)) ++ rest) ≡ Some (s, rest)
unfolding next_at moved
next_again before s rest there here =
    let low = here.least in
    let high = here.greatest in
    let test = test-sample s here in
    let sum : before +ℤ (s -ℤ before) ≡ s = omega (arith, ints) in
    rw (
      sevens_again 4 (folded (s -ℤ before)) rest (difference-few s before here there),
      difference_of-folded (s -ℤ before),
      sum,
      test,
    ) refl

-- samples are read by their differences
behind_takes : (count : ℕ) (before : ℤ) (bytes : List ℕ) (samples : List ℤ) (rest : List ℕ) → IsBytes bytes
    → behind_at count before bytes ≡ Some (samples, rest)
    → Takes bytes (bytes_behind before samples) rest × All IsSample samples × (length samples ≡ count)
unfolding behind_at bytes_behind
behind_takes zero before bytes samples rest fits e =
    let made : Takes bytes [] bytes = record { parts = refl; rest_fits = fits } in
    subst (λ (p : List ℤ × List ℕ). Takes bytes (bytes_behind before p.0) p.1 × All IsSample p.0 × (length p.0 ≡ zero))
    (some_is ([], bytes) (samples, rest) e) (made, All-nil IsSample, refl)
behind_takes (suc count) before bytes samples rest fits e =
    let first = then_some (next_at before bytes) (λ x. behind_at count x.0 x.1 >>= λ more. Some (x.0 ∷ more.0, more.1))
    (samples, rest) e in
    let s = first.0.0 in
    let more = then_some (behind_at count s first.0.1) (λ more. Some (s ∷ more.0, more.1)) (samples, rest) first.2 in
    let one = next_takes before bytes s first.0.1 fits first.1 in
    let later = behind_takes count s first.0.1 more.0.0 more.0.1 one.0.rest_fits more.1 in
    let joined = Takes-then bytes (seven_bits (folded (s -ℤ before))) first.0.1 (bytes_behind s more.0.0) more.0.1 one.0
    later.0 in
    let pair = some_is (s ∷ more.0.0, more.0.1) (samples, rest) more.2 in
    subst (λ (p : List ℤ × List ℕ). Takes bytes (bytes_behind before p.0) p.1 × All IsSample p.0
    × (length p.0 ≡ suc count)) pair (joined, All-cons IsSample s more.0.0 one.1 later.1, ap suc later.2)

behind_again : (samples : List ℤ) (before : ℤ) (rest : List ℕ) → IsSample before → All IsSample samples
    → behind_at (length samples) before (bytes_behind before samples ++ rest) ≡ Some (samples, rest)
unfolding behind_at bytes_behind
behind_again [] before rest there all = refl
behind_again (s ∷ samples) before rest there all =
    let here = All-head IsSample s samples all in
    let later = behind_again samples s rest here (All-tail IsSample s samples all) in
    let one = next_again before s (bytes_behind s samples ++ rest) there here in
    ap (behind_at (suc (length samples)) before)
    (append_assoc (seven_bits (folded (s -ℤ before))) (bytes_behind s samples) rest) ∙ rw (one, later) refl

-- a sample is read from its bits
pub IsField-sample : IsField sample_at bytes_of_sample IsSample
unfolding sample_at bytes_of_32
IsField-sample = IsField-through IsField-32 (λ bits. passing is_sample (cast_signed w32 bits)) bytes_of_sample IsSample
    to back
  where
    to : (bits : ℕ) (s : ℤ) → bits < 2 ^ 32 → passing is_sample (cast_signed w32 bits) ≡ Some s
        → (to_be_bytes w32 bits ≡ bytes_of_sample s) × IsSample s
    to bits s small e =
        let passed = passed_some (is_sample (cast_signed w32 bits)) (Some (cast_signed w32 bits)) s e in
        let same : to_be_bytes w32 bits ≡ bytes_of_sample (cast_signed w32 bits) =
        sym (ap (to_be_bytes w32) (of_z-to_z w32 bits small)) in
        subst (λ (z : ℤ). (to_be_bytes w32 bits ≡ bytes_of_sample z) × IsSample z) (some_is _ _ passed.1)
        (same, sample-test _ passed.0)

    back : (s : ℤ) → IsSample s
        → (bits : ℕ) × (bits < 2 ^ 32) × (passing is_sample (cast_signed w32 bits) ≡ Some s)
        × (bytes_of_sample s ≡ to_be_bytes w32 bits)
    back s here =
        let low = here.least in
        let high = here.greatest in
        let same : cast_signed w32 (cast_unsigned w32 s) ≡ s = omega (arith, ints) in
        (cast_unsigned w32 s, omega (arith, ints), rw (same, test-sample s here) refl, refl)

-- samples are read, the first one and then the differences
differences_take : (count : ℕ) (bytes : List ℕ) (samples : List ℤ) (rest : List ℕ) → IsBytes bytes
    → differences_at count bytes ≡ Some (samples, rest)
    → Takes bytes (first_and_differences samples) rest × (All IsSample samples × (length samples ≡ count))
unfolding differences_at
differences_take zero bytes samples rest fits e =
    let made : Takes bytes [] bytes = record { parts = refl; rest_fits = fits } in
    subst (λ (p : List ℤ × List ℕ). Takes bytes (first_and_differences p.0) p.1
    × (All IsSample p.0 × (length p.0 ≡ zero))) (some_is ([], bytes) (samples, rest) e)
    (made, (All-nil IsSample, refl))
differences_take (suc count) bytes samples rest fits e =
    let first = then_some (sample_at bytes) (λ x. with_front (x.0 ∷ []) (behind_at count x.0 x.1)) (samples, rest) e in
    let s = first.0.0 in
    let more = then_some (behind_at count s first.0.1) (λ more. Some (s ∷ more.0, more.1)) (samples, rest) first.2 in
    let one = IsField-sample.takes bytes s first.0.1 fits first.1 in
    let later = behind_takes count s first.0.1 more.0.0 more.0.1 one.0.rest_fits more.1 in
    let joined = Takes-then bytes (bytes_of_sample s) first.0.1 (bytes_behind s more.0.0) more.0.1 one.0 later.0 in
    let pair = some_is (s ∷ more.0.0, more.0.1) (samples, rest) more.2 in
    subst (λ (p : List ℤ × List ℕ). Takes bytes (first_and_differences p.0) p.1
    × (All IsSample p.0 × (length p.0 ≡ suc count))) pair
    (joined, (All-cons IsSample s more.0.0 one.1 later.1, ap suc later.2))

differences_again : (samples : List ℤ) (rest : List ℕ) → All IsSample samples
    → differences_at (length samples) (first_and_differences samples ++ rest) ≡ Some (samples, rest)
unfolding differences_at
differences_again [] rest all = refl
differences_again (s ∷ samples) rest all =
    let here = All-head IsSample s samples all in
    let later = behind_again samples s rest here (All-tail IsSample s samples all) in
    let one = IsField-sample.again s (bytes_behind s samples ++ rest) here in
    ap (differences_at (suc (length samples))) (append_assoc (bytes_of_sample s) (bytes_behind s samples) rest)
    ∙ rw (one, later) refl

IsField-differences : (n : ℕ)
    → IsField (differences_at n) first_and_differences (λ xs. All IsSample xs × (length xs ≡ n))
IsField-differences n = record {
  takes = differences_take n;
  again = λ xs rest is. subst (λ (k : ℕ). differences_at k (first_and_differences xs ++ rest) ≡ Some (xs, rest)) is.1
      (differences_again xs rest is.0);
}

-- samples of a format are read
pub IsField-samples : (format n : ℕ)
    → IsField (samples_at format n)
    (λ xs. cond (format == FIRST_FORMAT) (flat_map bytes_of_sample xs) (first_and_differences xs))
    (λ xs. All IsSample xs × (length xs ≡ n))
unfolding samples_at
IsField-samples format n = by (format == FIRST_FORMAT)
  where
    by : (b : Bool) → IsField (λ bytes. cond b (items_at sample_at n bytes) (differences_at n bytes))
        (λ xs. cond b (flat_map bytes_of_sample xs) (first_and_differences xs))
        (λ xs. All IsSample xs × (length xs ≡ n))
    by true = IsField-items IsField-sample n
    by false = IsField-differences n
