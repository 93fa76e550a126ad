-- Laws of the text that is written of a trace: it states the trace.
use Rattle.std.proofs.Common.{◌≡◌, ◌∙◌, ℕ, ◌+◌, ◌-◌, ◌*◌, ◌^◌, ◌<◌, ◌≤◌, true, false, ℤ, pos, negsuc, List, [], ◌∷◌, ◌++◌, Some, Ok, All, get_or, length, suc, drop, append_assoc, add-one, arith, ap, sym, refl}
use Rattle.std.specs.Prelude.{codes, decimal, nat_le, nat_lt}
use Rattle.std.specs.Char.{digit_value, is_ascii_digit}
use Rattle.std.specs.Fmt.{signed_decimal}
use Rattle.std.specs.List.{list_all}
use Rattle.std.specs.Str.Parse.{AllDigits, digits_value, starts_with_minus}
use Rattle.std.proofs.lemmas.Bool.Decides.{nat_tests}
use Rattle.std.proofs.lemmas.Fmt.{decimal_is_IsNumeral, length-decimal-le}
use Rattle.std.proofs.lemmas.Int.{ints}
use Rattle.std.proofs.lemmas.List.{append-nil, drop_all, drop_more}
use Rattle.std.proofs.Math.Nat.{mul-le-mul_right}
use Rattle.std.proofs.lemmas.List.Elements.{All-head, All-tail}
use Rattle.csv.specs.Reading.{default_config, records, records_from, strip_bom}
use Rattle.csv.specs.declared.parser.State.TheVariants as st
use Rattle.cds_base.specs.declared.time.TheConstants.{LAST_TIME_US}
use Rattle.cds_trace.specs.declared.trace.TheConstants.{MOST_SAMPLES}
use Rattle.cds_trace.specs.Number.{digits_number, number_of}
use Rattle.cds_trace.specs.Signal.{IsSample, IsTrace, Signal}
use Rattle.cds_trace.specs.TraceText.{Fields, csv_trace, period_of, sample_of, samples_of}
use Rattle.cds_trace.specs.WrittenText.{csv_text, line_of, lines_of}
use Rattle.cds_trace.proofs.NumberLaws.{is_number_byte, list_all-implies, minus_bytes, number_bytes-digits, without_blanks-number}
use Rattle.cds_trace.proofs.LineLaws.{is_plain, next_record-line}
use Rattle.cds_trace.proofs.RecordLaws.{records_from-end, records_from-some}

digit-is : (byte : ℕ) → digit_value byte < 10 → is_ascii_digit byte ≡ true
digit-is byte h = grind (arith, nat_tests)

list_all-digits : (ds : List ℕ) → AllDigits 10 ds → list_all is_ascii_digit ds ≡ true
list_all-digits [] h = refl
list_all-digits (d ∷ ds) h = let one = digit-is d h.0 in let rest = list_all-digits ds h.1 in grind arith

plain-number : (xs : List ℕ) → list_all is_number_byte xs ≡ true → list_all is_plain xs ≡ true
plain-number xs h = list_all-implies is_number_byte is_plain (λ x e. grind (arith, nat_tests)) xs h

-- what the digits of a number of at most 12 digits are
record IsWritten (n : ℕ) : Type 0 where
  some : 0 < length (decimal n)
  few : length (decimal n) ≤ 12
  digits : list_all is_ascii_digit (decimal n) ≡ true
  value : digits_value 10 (decimal n) ≡ n

decimal-IsWritten : (n : ℕ) → n < 10 ^ 12 → IsWritten n
decimal-IsWritten n h =
    let numeral = decimal_is_IsNumeral n (omega arith) in
    record {
      some = numeral.0.0;
      few = length-decimal-le 12 n (omega arith) h (omega arith);
      digits = list_all-digits (decimal n) numeral.0.1;
      value = numeral.1;
    }

digits_number-decimal : (n : ℕ) → IsWritten n → digits_number (decimal n) ≡ Some n
digits_number-decimal n w =
    let low : nat_le 1 (length (decimal n)) ≡ true = grind (arith, nat_tests, w.some) in
    let high : nat_le (length (decimal n)) 12 ≡ true = grind (arith, nat_tests, w.few) in
    rw (low, high, w.digits, w.value) refl

no_minus : (xs : List ℕ) → 0 < length xs → list_all is_ascii_digit xs ≡ true → starts_with_minus xs ≡ false
no_minus [] some digits = absurd (omega arith)
no_minus (x ∷ xs) some digits = grind (arith, nat_tests)

-- the digits of a number are read as the number
number_of-decimal : (n : ℕ) → n < 10 ^ 12 → number_of (decimal n) ≡ Some (pos n)
unfolding number_of
number_of-decimal n h =
    let w = decimal-IsWritten n h in
    rw (without_blanks-number (decimal n) (number_bytes-digits (decimal n) w.digits), no_minus (decimal n) w.some w.digits, digits_number-decimal n w) refl

number_of-signed_decimal : (sample : ℤ) → IsSample sample → number_of (signed_decimal sample) ≡ Some sample
unfolding number_of
number_of-signed_decimal (pos n) h = number_of-decimal n (omega (arith, ints, h))
number_of-signed_decimal (negsuc n) h =
    let w = decimal-IsWritten (n + 1) (omega (arith, ints, h)) in
    let next : n + 1 ≡ suc n = add-one n in
    let v = rw next at w in
    rw (without_blanks-number (45 ∷ decimal (suc n)) (minus_bytes (decimal (suc n)) v.digits), digits_number-decimal (suc n) v) refl

-- the record of a time and a sample
abbrev row_of : ℕ → ℤ → Fields
row_of time sample = decimal time ∷ signed_decimal sample ∷ []

unfoldable rows_of : ℕ → ℕ → List ℤ → List Fields
rows_of period i [] = []
rows_of period i (sample ∷ rest) = row_of (i * period) sample ∷ rows_of period (i + 1) rest

-- samples from index i on that keep the limits of a trace
record AreWritable (period i : ℕ) (samples : List ℤ) : Type 0 where
  range : All IsSample samples
  few : i + length samples ≤ MOST_SAMPLES
  times : (k : ℕ) → k < i + length samples → k * period ≤ LAST_TIME_US
  ticking : 1 ≤ period

AreWritable-tail : (period i : ℕ) (sample : ℤ) (rest : List ℤ) → AreWritable period i (sample ∷ rest) → AreWritable period (i + 1) rest
AreWritable-tail period i sample rest h =
    record { range = All-tail IsSample sample rest h.range; few = omega (arith, h.few); times = λ k below. h.times k (omega arith); ticking = h.ticking }

signed_bytes : (sample : ℤ) → IsSample sample → (0 < length (signed_decimal sample)) × (list_all is_number_byte (signed_decimal sample) ≡ true)
signed_bytes (pos n) h = let w = decimal-IsWritten n (omega (arith, ints, h)) in (w.some, number_bytes-digits (decimal n) w.digits)
signed_bytes (negsuc n) h =
    let w = decimal-IsWritten (n + 1) (omega (arith, ints, h)) in
    let next : n + 1 ≡ suc n = add-one n in
    let v = rw next at w in
    (omega arith, minus_bytes (decimal (suc n)) v.digits)

-- a line is the record
records_from-line : (time : ℕ) (sample : ℤ) (rest : List ℕ) → time < 10 ^ 12 → IsSample sample
    → records_from default_config (length (line_of time sample ++ rest) + 1) st.StartRecord (line_of time sample ++ rest)
    ≡ row_of time sample ∷ records_from default_config (length rest + 1) st.StartRecord rest
records_from-line time sample rest small h =
    let w = decimal-IsWritten time small in
    let signed = signed_bytes sample h in
    let shape : line_of time sample ++ rest ≡ decimal time ++ (44 ∷ (signed_decimal sample ++ (10 ∷ rest))) = simp append_assoc in
    rw shape (records_from-some default_config st.StartRecord (decimal time ++ (44 ∷ (signed_decimal sample ++ (10 ∷ rest)))) (row_of time sample, st.StartRecord, rest)
    (next_record-line (decimal time) (signed_decimal sample) rest w.some signed.0 (plain-number (decimal time) (number_bytes-digits (decimal time) w.digits)) (plain-number (signed_decimal sample) signed.1)))

records_from-lines_of : (period i : ℕ) (samples : List ℤ) → AreWritable period i samples
    → records_from default_config (length (lines_of period i samples) + 1) st.StartRecord (lines_of period i samples) ≡ rows_of period i samples
unfolding lines_of rows_of
records_from-lines_of period i [] h = records_from-end default_config 1
records_from-lines_of period i (sample ∷ rest) h =
    records_from-line (i * period) sample (lines_of period (i + 1) rest) (omega (arith, h.times i (omega arith))) (All-head IsSample sample rest h.range)
    ∙ ap (λ (rows : List Fields). row_of (i * period) sample ∷ rows) (records_from-lines_of period (i + 1) rest (AreWritable-tail period i sample rest h))

-- the record of a sample states the sample
sample_of-row_of : (period i : ℕ) (sample : ℤ) → i < MOST_SAMPLES → i * period ≤ LAST_TIME_US → 1 ≤ period → IsSample sample → sample_of period i (row_of (i * period) sample) ≡ Ok sample
unfolding sample_of
sample_of-row_of period i sample few time ticking h =
    rw (number_of-decimal (i * period) (omega arith), number_of-signed_decimal sample h) (grind (arith, nat_tests, ints, h.least, h.greatest))

samples_of-rows_of : (period i : ℕ) (samples : List ℤ) → AreWritable period i samples → samples_of period i (rows_of period i samples) ≡ Ok samples
unfolding samples_of rows_of
samples_of-rows_of period i [] h = refl
samples_of-rows_of period i (sample ∷ rest) h =
    rw (
      sample_of-row_of period i sample (omega (arith, h.few)) (h.times i (omega arith)) h.ticking (All-head IsSample sample rest h.range),
      samples_of-rows_of period (i + 1) rest (AreWritable-tail period i sample rest h),
    ) refl

period_of-rows_of : (period : ℕ) (samples : List ℤ) → 2 ≤ length samples → AreWritable period 0 samples → period_of (rows_of period 0 samples) ≡ period
unfolding rows_of
period_of-rows_of period [] two h = absurd (omega arith)
period_of-rows_of period (a ∷ []) two h = absurd (omega arith)
period_of-rows_of period (a ∷ b ∷ rest) two h =
    let time : (0 + 1) * period ≡ period = omega arith in
    rw (time, number_of-decimal period (omega (arith, rw time at (h.times (0 + 1) (omega arith))))) refl

IsTrace-AreWritable : (signal : Signal) → IsTrace signal → AreWritable signal.period 0 signal.samples
IsTrace-AreWritable signal h =
    record {
      range = h.samples;
      few = omega (arith, h.few);
      times = λ k below. let most = mul-le-mul_right {m = k} {n = length signal.samples - 1} signal.period (omega arith) in omega (arith, most, h.last);
      ticking = h.period;
    }

-- one more line
pub lines_of-more : (text whole : List ℕ) (period i : ℕ) (samples : List ℤ) (sample d : ℤ) → i < length samples → sample ≡ get_or samples i d
    → text ++ lines_of period i (drop i samples) ≡ whole → (text ++ line_of (i * period) sample) ++ lines_of period (i + 1) (drop (i + 1) samples) ≡ whole
unfolding lines_of
lines_of-more text whole period i samples sample d h e told =
    let next = rw (drop_more samples i d h) at told in
    rw e (append_assoc text (line_of (i * period) (get_or samples i d)) (lines_of period (i + 1) (drop (i + 1) samples)) ∙ next)

-- no more lines
pub lines_of-last : (text whole : List ℕ) (period i : ℕ) (samples : List ℤ) → length samples ≤ i → text ++ lines_of period i (drop i samples) ≡ whole → text ≡ whole
unfolding lines_of
lines_of-last text whole period i samples h told = sym (append-nil text) ∙ rw (drop_all i samples h) at told

-- the written text states the trace
pub csv_trace-csv_text : (signal : Signal) → IsTrace signal → csv_trace (csv_text signal) ≡ Ok signal
unfolding csv_trace strip_bom
csv_trace-csv_text signal h =
    let writable = IsTrace-AreWritable signal h in
    let first : records default_config (csv_text signal) ≡ (codes "time_us" ∷ codes "signal" ∷ []) ∷ rows_of signal.period 0 signal.samples =
    records_from-some default_config st.StartRecord (csv_text signal) (codes "time_us" ∷ codes "signal" ∷ [], st.StartRecord, lines_of signal.period 0 signal.samples)
    (next_record-line (codes "time_us") (codes "signal") (lines_of signal.period 0 signal.samples) (omega arith) (omega arith) refl refl)
    ∙ ap (λ (rows : List Fields). (codes "time_us" ∷ codes "signal" ∷ []) ∷ rows) (records_from-lines_of signal.period 0 signal.samples writable) in
    let long : nat_lt (length signal.samples) 2 ≡ false = grind (arith, nat_tests, h.enough) in
    rw (first, period_of-rows_of signal.period signal.samples h.enough writable, samples_of-rows_of signal.period 0 signal.samples writable, long) refl
