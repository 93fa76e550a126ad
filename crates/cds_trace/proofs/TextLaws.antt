-- Laws of the text of a trace: what is stated by the records that were read and those that are left is what is
-- stated by all of them.
use Rattle.std.proofs.Common.{◌≡◌, ◌∙◌, ℕ, zero, suc, ◌+◌, ◌-◌, ◌*◌, ◌<◌, ◌≤◌, Bool, true, false, ℤ, pos, negsuc, ◌<ℤ◌, ◌≤ℤ◌, List, [], ◌∷◌, ◌++◌, Option, Some, None, Result, Ok, Err, All, length, append_assoc, arith, ap, sym, refl, inl}
use Rattle.std.specs.Prelude.{◌==◌, ◌&&◌, codes, nat_le, if◌then◌else◌, option_and_then, unsigned_abs, IsErrAnd}
use Rattle.std.proofs.lemmas.Bool.Decides.{nat_tests}
use Rattle.std.proofs.lemmas.Int.{ints}
use Rattle.std.proofs.lemmas.List.{append-nil}
use Rattle.std.proofs.lemmas.List.Elements.{All-cons, All-nil}
use Rattle.csv.specs.Records.{field_at}
use Rattle.cds_base.specs.Answers.{Gives}
use Rattle.cds_trace.specs.Number.{number_of}
use Rattle.cds_trace.specs.Period.{period_at}
use Rattle.cds_trace.specs.Signal.{IsSample, IsTrace, Signal}
use Rattle.cds_trace.specs.TraceText.{Fields, first_time, is_header, is_word_at, period_of, sample_before, sample_of, sample_of_numbers, samples_of, time_in_us, time_of, trace_of_rows, trace_of_samples}
use Rattle.cds_trace.specs.declared.error.TraceError.{TraceError}
use Rattle.cds_trace.specs.declared.error.TraceError.TheVariants.{BadCsv, NotNumber, TooLong, NoMemory}
use Rattle.cds_base.specs.declared.time.TheConstants.{LAST_TIME_US}
use Rattle.cds_trace.specs.declared.trace.TheConstants.{FEWEST_SAMPLES, MOST_SAMPLES}
use Rattle.cds_trace.proofs.LimitLaws.{IsSample-test}

-- the time of a record, by its first field
pub time_of-field_at : (fields : Fields) → time_of fields ≡ time_in_us (option_and_then number_of (field_at fields 0))
unfolding field_at
time_of-field_at [] = refl
time_of-field_at (time ∷ rest) = refl

-- a time above 0, and another number, as a time
pub time_of-above : (fields : Fields) (time : ℤ) → option_and_then number_of (field_at fields 0) ≡ Some time → pos 0 <ℤ time → time_of fields ≡ unsigned_abs time
time_of-above fields (pos time) e h = time_of-field_at fields ∙ ap time_in_us e
time_of-above fields (negsuc time) e h = absurd (omega (arith, ints))

pub time_of-below : (fields : Fields) (time : ℤ) → option_and_then number_of (field_at fields 0) ≡ Some time → time ≤ℤ pos 0 → time_of fields ≡ 0
time_of-below fields (pos time) e h = time_of-field_at fields ∙ ap time_in_us e ∙ omega (arith, ints)
time_of-below fields (negsuc time) e h = time_of-field_at fields ∙ ap time_in_us e

-- the header, by its fields
pub is_header-field_at : (fields : Fields) → is_header fields
    ≡ ((length fields == 2) && is_word_at (codes "time_us") (field_at fields 0)) && is_word_at (codes "signal") (field_at fields 1)
unfolding field_at
is_header-field_at [] = refl
is_header-field_at (time ∷ []) = refl
is_header-field_at (time ∷ signal ∷ []) = refl
is_header-field_at (time ∷ signal ∷ more ∷ rest) = grind (arith, nat_tests)

-- what two fields state
pub sample_of-two : (period i : ℕ) (fields : Fields) → i < MOST_SAMPLES → length fields ≡ 2
    → sample_of period i fields ≡ sample_of_numbers period i (option_and_then number_of (field_at fields 0)) (option_and_then number_of (field_at fields 1))
unfolding field_at sample_of
sample_of-two period i [] h two = absurd (omega arith)
sample_of-two period i (time ∷ []) h two = absurd (omega arith)
sample_of-two period i (time ∷ sample ∷ []) h two = grind (arith, nat_tests)
sample_of-two period i (time ∷ sample ∷ more ∷ rest) h two = absurd (omega arith)

-- no time
pub sample_of-no_time : (period i : ℕ) (fields : Fields) → i < MOST_SAMPLES → length fields ≡ 2 → option_and_then number_of (field_at fields 0) ≡ None
    → sample_of period i fields ≡ Err (NotNumber (i + 2))
sample_of-no_time period i fields h two none = rw none at (sample_of-two period i fields h two)

-- no sample
pub sample_of-no_sample : (period i : ℕ) (fields : Fields) (time : ℤ) → i < MOST_SAMPLES → length fields ≡ 2
    → option_and_then number_of (field_at fields 0) ≡ Some time → option_and_then number_of (field_at fields 1) ≡ None
    → sample_of period i fields ≡ Err (NotNumber (i + 2))
sample_of-no_sample period i fields time h two some none = rw (some, none) at (sample_of-two period i fields h two)

-- another number of fields than two
pub sample_of-other : (period i : ℕ) (fields : Fields) → i < MOST_SAMPLES → (length fields ≡ 2 → ⊥) → sample_of period i fields ≡ Err (BadCsv (i + 2))
unfolding sample_of
sample_of-other period i [] h other = grind (arith, nat_tests)
sample_of-other period i (time ∷ []) h other = grind (arith, nat_tests)
sample_of-other period i (time ∷ sample ∷ []) h other = absurd (other refl)
sample_of-other period i (time ∷ sample ∷ more ∷ rest) h other = grind (arith, nat_tests)

-- a record too many
sample_of-long : (period i : ℕ) (fields : Fields) → MOST_SAMPLES ≤ i → sample_of period i fields ≡ Err TooLong
unfolding sample_of
sample_of-long period i fields h = grind (arith, nat_tests)

-- the first record states the same under every period
sample_of-first : (p q : ℕ) (fields : Fields) → sample_of p 0 fields ≡ sample_of q 0 fields
unfolding sample_of
sample_of-first p q [] = refl
sample_of-first p q (time ∷ []) = refl
sample_of-first p q (time ∷ sample ∷ []) = by (number_of time) (number_of sample)
  where
    by : (a b : Option ℤ) → sample_of_numbers p 0 a b ≡ sample_of_numbers q 0 a b
    by None b = refl
    by (Some a) None = refl
    by (Some (pos a)) (Some b) = let none : 0 * p ≡ 0 * q = omega arith in rw none refl
    by (Some (negsuc a)) (Some b) = refl
sample_of-first p q (time ∷ sample ∷ more ∷ rest) = refl

-- the period that is known before the record of the sample of index i is read, where `rest` is left and the whole
-- text has the period `whole`
unfoldable pub Knows : ℕ → ℕ → List Fields → ℕ → Type 0
Knows zero period rest whole = (period ≡ 0) × (whole ≡ period_of rest)
Knows (suc zero) period rest whole = (period ≡ 0) × (whole ≡ first_time rest)
Knows (suc (suc i)) period rest whole = whole ≡ period

pub Knows-first : (rest : List Fields) → Knows 0 0 rest (period_of rest)
unfolding Knows
Knows-first rest = (refl, refl)

-- no later record gives the period
period_at-late : (period i : ℕ) (fields : Fields) → period_at period (suc (suc i)) fields ≡ period
period_at-late period i fields = grind (arith, nat_tests)

pub Knows-more : (i period whole : ℕ) (fields : Fields) (rest : List Fields) → Knows i period (fields ∷ rest) whole → Knows (i + 1) (period_at period i fields) rest whole
unfolding Knows
Knows-more zero period whole fields rest h = h
Knows-more (suc zero) period whole fields rest h = h.1
Knows-more (suc (suc i)) period whole fields rest h = let next : suc (suc i) + 1 ≡ suc (suc (suc i)) = omega arith in rw (next, period_at-late period i fields) h

-- the period so far serves for the record of the sample of index i
pub Knows-serves : (i period whole : ℕ) (fields : Fields) (rest : List Fields) → Knows i period (fields ∷ rest) whole
    → sample_of (period_at period i fields) i fields ≡ sample_of whole i fields
unfolding Knows
Knows-serves zero period whole fields rest h = sample_of-first _ _ fields
Knows-serves (suc zero) period whole fields rest h = ap (λ (p : ℕ). sample_of p 1 fields) (sym h.1)
Knows-serves (suc (suc i)) period whole fields rest h = rw (period_at-late period i fields) (ap (λ (p : ℕ). sample_of p (suc (suc i)) fields) (sym h))

-- behind the last record the period so far is that of the whole text
pub Knows-last : (i period whole : ℕ) → Knows i period [] whole → period ≡ whole
unfolding Knows
Knows-last zero period whole h = h.0 ∙ sym h.1
Knows-last (suc zero) period whole h = h.0 ∙ sym h.1
Knows-last (suc (suc i)) period whole h = sym h

-- samples that were read, before those that are left
abbrev pub read_before : List ℤ → Result (List ℤ) TraceError → Result (List ℤ) TraceError
read_before samples (Err e) = Err e
read_before samples (Ok more) = Ok (samples ++ more)

pub read_before-none : (stated : Result (List ℤ) TraceError) → stated ≡ read_before [] stated
read_before-none (Err e) = refl
read_before-none (Ok samples) = refl

-- a record that states a sample
pub read_before-more : (samples : List ℤ) (sample : ℤ) (stated : Result (List ℤ) TraceError)
    → read_before samples (sample_before (Ok sample) stated) ≡ read_before (samples ++ (sample ∷ [])) stated
read_before-more samples sample (Err e) = refl
read_before-more samples sample (Ok more) = ap Ok (sym (append_assoc samples (sample ∷ []) more))

pub samples_of-more : (whole i : ℕ) (fields : Fields) (rest : List Fields) (samples : List ℤ) (sample : ℤ) (all : Result (List ℤ) TraceError)
    → all ≡ read_before samples (samples_of whole i (fields ∷ rest)) → sample_of whole i fields ≡ Ok sample
    → all ≡ read_before (samples ++ (sample ∷ [])) (samples_of whole (i + 1) rest)
unfolding samples_of
samples_of-more whole i fields rest samples sample all h e = rw e at h ∙ read_before-more samples sample (samples_of whole (i + 1) rest)

-- a record with which something is wrong
pub samples_of-wrong : (whole i : ℕ) (fields : Fields) (rest : List Fields) (samples : List ℤ) (e : TraceError) (all : Result (List ℤ) TraceError)
    → all ≡ read_before samples (samples_of whole i (fields ∷ rest)) → sample_of whole i fields ≡ Err e → all ≡ Err e
unfolding samples_of
samples_of-wrong whole i fields rest samples e all h wrong = rw wrong at h

-- behind the last record
pub samples_of-last : (whole i : ℕ) (samples : List ℤ) (all : Result (List ℤ) TraceError) → all ≡ read_before samples (samples_of whole i []) → all ≡ Ok samples
unfolding samples_of
samples_of-last whole i samples all h = h ∙ ap Ok (append-nil samples)

-- what a record that states a sample of index i keeps to
record KeepsLimits (period i : ℕ) (sample : ℤ) : Type 0 where
  few : i < MOST_SAMPLES
  range : IsSample sample
  time : i * period ≤ LAST_TIME_US
  ticking : 1 ≤ i → 1 ≤ period

sample_of_numbers-limits : (period i : ℕ) (a b : Option ℤ) (sample : ℤ) → i < MOST_SAMPLES → sample_of_numbers period i a b ≡ Ok sample → KeepsLimits period i sample
sample_of_numbers-limits period i None b sample few h = absurd (cc h)
sample_of_numbers-limits period i (Some a) None sample few h = absurd (cc h)
sample_of_numbers-limits period i (Some (negsuc a)) (Some b) sample few h = absurd (grind arith)
sample_of_numbers-limits period i (Some (pos a)) (Some b) sample few h = record {
  few = few;
  range = IsSample-test sample (grind (arith, nat_tests));
  time = grind (arith, nat_tests);
  ticking = λ later. grind (arith, nat_tests);
}

sample_of-limits : (period i : ℕ) (fields : Fields) (sample : ℤ) → sample_of period i fields ≡ Ok sample → KeepsLimits period i sample
unfolding sample_of
sample_of-limits period i [] sample h = absurd (grind (arith, nat_tests))
sample_of-limits period i (time ∷ []) sample h = absurd (grind (arith, nat_tests))
sample_of-limits period i (time ∷ signal ∷ []) sample h = by (nat_le MOST_SAMPLES i) refl h
  where
    by : (b : Bool) → nat_le MOST_SAMPLES i ≡ b → (if b then Err TooLong else sample_of_numbers period i (number_of time) (number_of signal)) ≡ Ok sample
        → KeepsLimits period i sample
    by true e h = absurd (cc h)
    by false e h = sample_of_numbers-limits period i (number_of time) (number_of signal) sample (grind (arith, nat_tests)) h
sample_of-limits period i (time ∷ signal ∷ more ∷ rest) sample h = absurd (grind (arith, nat_tests))

-- what the samples from index i on keep to
record KeepLimits (period i : ℕ) (samples : List ℤ) : Type 0 where
  range : All IsSample samples
  few : 0 < length samples → i + length samples ≤ MOST_SAMPLES
  last : 0 < length samples → (i + length samples - 1) * period ≤ LAST_TIME_US
  ticking : 0 < length samples → 2 ≤ i + length samples → 1 ≤ period

KeepLimits-cons : (period i : ℕ) (sample : ℤ) (samples : List ℤ) → KeepsLimits period i sample → KeepLimits period (i + 1) samples → KeepLimits period i (sample ∷ samples)
KeepLimits-cons period i sample [] one rest = record {
  range = All-cons IsSample sample [] one.range rest.range;
  few = λ _. omega (arith, one.few);
  last = λ _. let same : i + 1 - 1 ≡ i = omega arith in rw same one.time;
  ticking = λ _ two. one.ticking (omega arith);
}
KeepLimits-cons period i sample (next ∷ samples) one rest = record {
  range = All-cons IsSample sample (next ∷ samples) one.range rest.range;
  few = λ _. omega (arith, rest.few);
  last = λ _. let same : i + length (sample ∷ next ∷ samples) - 1 ≡ i + 1 + length (next ∷ samples) - 1 = omega arith in rw same (rest.last (omega arith));
  ticking = λ _ two. rest.ticking (omega arith) (omega arith);
}

samples_of-limits : (period i : ℕ) (rows : List Fields) (samples : List ℤ) → samples_of period i rows ≡ Ok samples → KeepLimits period i samples
unfolding samples_of
samples_of-limits period i [] samples h =
    let none : [] ≡ samples = cc in
    rw (← none) (record { range = All-nil IsSample; few = λ some. absurd (omega arith); last = λ some. absurd (omega arith); ticking = λ some. absurd (omega arith) })
samples_of-limits period i (fields ∷ rest) samples h =
    by (sample_of period i fields) refl (samples_of period (i + 1) rest) refl h (λ xs e. samples_of-limits period (i + 1) rest xs e)
  where
    by : (one : Result ℤ TraceError) → sample_of period i fields ≡ one → (more : Result (List ℤ) TraceError) → samples_of period (i + 1) rest ≡ more
        → sample_before one more ≡ Ok samples → ((xs : List ℤ) → samples_of period (i + 1) rest ≡ Ok xs → KeepLimits period (i + 1) xs) → KeepLimits period i samples
    by (Err a) one more rest_is h keep = absurd (cc h)
    by (Ok a) one (Err b) rest_is h keep = absurd (cc h)
    by (Ok a) one (Ok xs) rest_is h keep =
        let all : a ∷ xs ≡ samples = cc in
        rw (← all) (KeepLimits-cons period i a xs (sample_of-limits period i fields a one) (keep xs rest_is))

-- stated samples, at least two, are those of a trace
pub samples_of-IsTrace : (period : ℕ) (rows : List Fields) (samples : List ℤ) → samples_of period 0 rows ≡ Ok samples → FEWEST_SAMPLES ≤ length samples
    → IsTrace (record { period = period; samples = samples })
samples_of-IsTrace period rows samples h two =
    let keep = samples_of-limits period 0 rows samples h in
    let count : 0 + length samples - 1 ≡ length samples - 1 = omega arith in
    record {
      enough = two;
      few = omega (arith, keep.few);
      samples = keep.range;
      period = keep.ticking (omega arith) (omega arith);
      last = rw count at (keep.last (omega arith));
    }

-- what is stated by the samples of the records that were read, i of them, and by the records that are left, is what
-- is stated by all rows
pub record IsTold (rows : List Fields) (i period : ℕ) (samples : List ℤ) (rest : List Fields) : Type 0 where
  pub known : Knows i period rest (period_of rows)
  pub stated : samples_of (period_of rows) 0 rows ≡ read_before samples (samples_of (period_of rows) i rest)

pub IsTold-first : (rows : List Fields) (samples : List ℤ) → samples ≡ [] → IsTold rows 0 0 samples rows
IsTold-first rows samples none = record { known = Knows-first rows; stated = rw none (read_before-none (samples_of (period_of rows) 0 rows)) }

-- a record that states a sample
pub IsTold-more : (rows : List Fields) (i period : ℕ) (samples : List ℤ) (rest : List Fields) (fields : Fields) (left : List Fields) (sample : ℤ)
    → IsTold rows i period samples rest → rest ≡ fields ∷ left → Ok sample ≡ sample_of (period_at period i fields) i fields
    → IsTold rows (i + 1) (period_at period i fields) (samples ++ (sample ∷ [])) left
IsTold-more rows i period samples rest fields left sample told front ok =
    let known = rw front at told.known in
    record {
      known = Knows-more i period (period_of rows) fields left known;
      stated = samples_of-more (period_of rows) i fields left samples sample _ (rw front at told.stated) (sym (ok ∙ Knows-serves i period (period_of rows) fields left known));
    }

-- a record with which something is wrong
pub IsTold-wrong : (rows : List Fields) (i period : ℕ) (samples : List ℤ) (rest : List Fields) (fields : Fields) (left : List Fields) (e : TraceError)
    → IsTold rows i period samples rest → rest ≡ fields ∷ left → Err e ≡ sample_of (period_at period i fields) i fields → trace_of_rows rows ≡ Err e
IsTold-wrong rows i period samples rest fields left e told front wrong =
    let known = rw front at told.known in
    ap (trace_of_samples (period_of rows)) (samples_of-wrong (period_of rows) i fields left samples e _ (rw front at told.stated) (sym (wrong ∙ Knows-serves i period (period_of rows) fields left known)))

-- a record too many
pub IsTold-long : (rows : List Fields) (i period : ℕ) (samples : List ℤ) (rest : List Fields) (fields : Fields) (left : List Fields)
    → IsTold rows i period samples rest → rest ≡ fields ∷ left → MOST_SAMPLES ≤ i → trace_of_rows rows ≡ Err TooLong
IsTold-long rows i period samples rest fields left told front long =
    IsTold-wrong rows i period samples rest fields left TooLong told front (sym (sample_of-long (period_at period i fields) i fields long))

-- behind the last record
pub IsTold-last : (rows : List Fields) (i period : ℕ) (samples : List ℤ) (rest : List Fields) → IsTold rows i period samples rest → rest ≡ []
    → trace_of_rows rows ≡ trace_of_samples period (Ok samples)
IsTold-last rows i period samples rest told none =
    let whole = Knows-last i period (period_of rows) (rw none at told.known) in
    let all = samples_of-last (period_of rows) i samples _ (rw none at told.stated) in
    rw (whole, all) refl

pub IsTold-IsTrace : (rows : List Fields) (i period : ℕ) (samples : List ℤ) (rest : List Fields) → IsTold rows i period samples rest → rest ≡ []
    → FEWEST_SAMPLES ≤ length samples → IsTrace (record { period = period; samples = samples })
IsTold-IsTrace rows i period samples rest told none two =
    let whole = Knows-last i period (period_of rows) (rw none at told.known) in
    rw whole (samples_of-IsTrace (period_of rows) rows samples (samples_of-last (period_of rows) i samples _ (rw none at told.stated)) two)

-- an answer that is the stated refusal
pub Gives-err : (answer : Result Signal TraceError) (e : TraceError) (stated : Result Signal TraceError) → IsErrAnd answer (λ x. x ≡ e) → stated ≡ Err e → Gives NoMemory (λ (trace : Signal). trace) stated answer
Gives-err (Ok trace) e stated h said = absurd h
Gives-err (Err x) e stated h said = inl (said ∙ ap Err (sym h))
