-- The fields of a trace are read as they are written.
use Rattle.std.proofs.Common.{◌≡◌, ◌∙◌, ℕ, ◌*◌, ◌-◌, ◌^◌, ◌<◌, ◌≤◌, ℤ, pos, Bool, true, false, not, cond, List, ◌++◌}
use Rattle.std.proofs.Common.{length, Option, Some, None, Result, Ok, Err, refl, sym, ap, subst, arith}
use Rattle.std.specs.Prelude.{All, ◌==◌, ◌||◌, position, nat_lt, flat_map}
use Rattle.std.proofs.lemmas.Bool.Decides.{nat_tests}
use Rattle.std.proofs.lemmas.Int.{ints}
use Rattle.std.proofs.lemmas.List.Quantifiers.{position-Some}
use Rattle.std.proofs.Math.Nat.{mul-le-mul_right}
use Rattle.cds_base.specs.declared.time.TheConstants.{LAST_TIME_US}
use Rattle.cds_trace.specs.Differences.{first_and_differences}
use Rattle.cds_trace.specs.GivenSamples.{given_trace, trace_in_range}
use Rattle.cds_trace.specs.SampleBytes.{bytes_of_sample}
use Rattle.cds_trace.specs.Signal.{Signal, IsSample, IsTrace}
use Rattle.cds_trace.specs.TraceText.{is_sample}
use Rattle.cds_trace.specs.declared.error.TraceError.{TraceError}
use Rattle.cds_trace.specs.declared.error.TraceError.TheVariants.{TooLong, TooShort, BadPeriod}
use Rattle.cds_trace.specs.declared.trace.TheConstants.{FEWEST_SAMPLES, MOST_SAMPLES}
use Rattle.cds_trace.proofs.LimitLaws.{All-in_range}
use Rattle.cds_sign.specs.Ranges.{IsWithin}
use Rattle.cds_codec.specs.Record.{bytes_of_32, bytes_of_64, bytes_of_samples, bytes_of_signal, most_samples_in}
use Rattle.cds_codec.specs.Reading.{accepted, signal_at}
use Rattle.cds_codec.specs.declared.format.TheConstants.{FIRST_FORMAT}
use Rattle.cds_codec.proofs.FieldLaws.{some_is, IsField, IsField-both, IsField-through, IsField-counted, IsField-64}
use Rattle.cds_codec.proofs.FieldLaws.{IsField-32_in}
use Rattle.cds_codec.proofs.SampleLaws.{IsField-samples}

-- a signal that wasn't refused
accepted_some : (b : Bool) (x : TraceError) (r : Result Signal TraceError) (signal : Signal)
    → accepted (cond b (Err x) r) ≡ Some signal → (b ≡ false) × (accepted r ≡ Some signal)
accepted_some true x r signal e = absurd cc
accepted_some false x r signal e = (refl, e)

-- no sample was out of range
in_range_some : (period : ℕ) (samples : List ℤ) (o : Option ℕ) (signal : Signal)
    → accepted (trace_in_range period samples o) ≡ Some signal
    → let whole : Signal = record { period = period; samples = samples } in (o ≡ None) × (whole ≡ signal)
in_range_some period samples (Some i) signal e = absurd cc
in_range_some period samples None signal e = (refl, some_is _ signal e)

-- a period and samples that weren't refused are a trace
given_takes : (period : ℕ) (samples : List ℤ) (signal : Signal) → accepted (given_trace period samples) ≡ Some signal
    → let whole : Signal = record { period = period; samples = samples } in IsTrace whole × (whole ≡ signal)
unfolding given_trace
given_takes period samples signal e =
    let first = position (λ sample. not (is_sample sample)) samples in
    let last = (period == 0) || nat_lt LAST_TIME_US ((length samples - 1) * period) in
    let a = accepted_some (nat_lt MOST_SAMPLES (length samples)) TooLong _ signal e in
    let b = accepted_some (nat_lt (length samples) FEWEST_SAMPLES) TooShort _ signal a.1 in
    let c = accepted_some last BadPeriod (trace_in_range period samples first) signal b.1 in
    let d = in_range_some period samples first signal c.1 in (
      record {
        enough = grind (arith, nat_tests, b.0);
        few = grind (arith, nat_tests, a.0);
        samples = All-in_range samples d.0;
        period = grind (arith, nat_tests, c.0);
        last = grind (arith, nat_tests, c.0);
      },
      d.1,
    )

-- no sample of a trace is out of range
none_outside : (samples : List ℤ) → All IsSample samples → position (λ sample. not (is_sample sample)) samples ≡ None
none_outside samples all = by (position (λ sample. not (is_sample sample)) samples) refl
  where
    by : (o : Option ℕ) → position (λ sample. not (is_sample sample)) samples ≡ o → o ≡ None
    by None e = refl
    by (Some i) e =
        let at = position-Some (λ sample. not (is_sample sample)) samples i (pos 0) e in
        let here = all i (pos 0) at.0 in
        let low = here.least in
        let high = here.greatest in
        absurd (grind (arith, ints, at.1))

-- a trace isn't refused
given_again : (signal : Signal) → IsTrace signal → given_trace signal.period signal.samples ≡ Ok signal
unfolding given_trace
given_again signal h =
    let long : nat_lt MOST_SAMPLES (length signal.samples) ≡ false = grind (arith, nat_tests, h.few) in
    let short : nat_lt (length signal.samples) FEWEST_SAMPLES ≡ false = grind (arith, nat_tests, h.enough) in
    let bad : ((signal.period == 0) || nat_lt LAST_TIME_US ((length signal.samples - 1) * signal.period)) ≡ false =
    grind (arith, nat_tests, h.period, h.last) in
    rw (long, short, bad, none_outside signal.samples h.samples) refl

-- their number stands before them in both
counted : (b : Bool) (front x y : List ℕ) → front ++ cond b x y ≡ cond b (front ++ x) (front ++ y)
counted true front x y = refl
counted false front x y = refl

-- a period is below 2^64
period-small : (signal : Signal) → IsTrace signal → signal.period < 2 ^ 64
period-small signal h =
    let once = mul-le-mul_right {m = 1} {n = length signal.samples - 1} signal.period (omega (arith, h.enough)) in
    omega (arith, once, h.last)

-- the most samples of a format
most-small : (format : ℕ) → most_samples_in format < 2 ^ 32
most-small format = by (format == FIRST_FORMAT)
  where
    by : (b : Bool) → cond b 100000 400000 < 2 ^ 32
    by true = omega arith
    by false = omega arith

-- a trace that stands in a record of a format
pub record IsStanding (format : ℕ) (signal : Signal) : Type 0 where
  pub trace : IsTrace signal
  pub few : length signal.samples ≤ most_samples_in format

-- the samples of a format with their number
abbrev bytes_of_counted : ℕ → List ℤ → List ℕ
bytes_of_counted format samples =
    bytes_of_32 (length samples)
    ++ cond (format == FIRST_FORMAT) (flat_map bytes_of_sample samples) (first_and_differences samples)

counted-samples : (format : ℕ) (samples : List ℤ) → bytes_of_counted format samples ≡ bytes_of_samples format samples
unfolding bytes_of_32
counted-samples format samples =
    counted (format == FIRST_FORMAT) (bytes_of_32 (length samples)) (flat_map bytes_of_sample samples)
    (first_and_differences samples)

pub IsField-signal : (format : ℕ) → IsField (signal_at format) (bytes_of_signal format) (IsStanding format)
unfolding signal_at
IsField-signal format =
    IsField-through (IsField-both IsField-64
    (IsField-counted (IsField-32_in 0 (most_samples_in format) (most-small format)) (All IsSample) length
    (IsField-samples format)))
    (λ s. accepted (given_trace s.0 s.1)) (bytes_of_signal format) (IsStanding format) to back
  where
    to : (s : ℕ × List ℤ) (signal : Signal)
        → (s.0 < 2 ^ 64) × (IsWithin 0 (most_samples_in format) (length s.1) × All IsSample s.1)
        → accepted (given_trace s.0 s.1) ≡ Some signal
        → (bytes_of_64 s.0 ++ bytes_of_counted format s.1 ≡ bytes_of_signal format signal) × IsStanding format signal
    to s signal p e =
        let given = given_takes s.0 s.1 signal e in
        let stands : IsStanding format (record { period = s.0; samples = s.1 }) =
        record { trace = given.0; few = p.1.0.few } in (
          ap (λ (t : List ℕ). bytes_of_64 s.0 ++ t) (counted-samples format s.1)
              ∙ ap (bytes_of_signal format) given.1,
          subst (IsStanding format) given.1 stands,
        )

    back : (signal : Signal) → IsStanding format signal
        → (s : ℕ × List ℤ) × ((s.0 < 2 ^ 64) × (IsWithin 0 (most_samples_in format) (length s.1) × All IsSample s.1))
        × (accepted (given_trace s.0 s.1) ≡ Some signal)
        × (bytes_of_signal format signal ≡ bytes_of_64 s.0 ++ bytes_of_counted format s.1)
    back signal q =
        let here : IsWithin 0 (most_samples_in format) (length signal.samples) =
        record { enough = omega arith; few = q.few } in (
          (signal.period, signal.samples),
          (period-small signal q.trace, (here, q.trace.samples)),
          ap accepted (given_again signal q.trace),
          ap (λ (t : List ℕ). bytes_of_64 signal.period ++ t) (sym (counted-samples format signal.samples)),
        )
