-- Where bunches lie in a trace.
use Rattle.std.proofs.Common.{◌≡◌, ℕ, ◌+◌, ◌-◌, ◌*◌, ◌/◌, ◌<◌, ◌≤◌, length, inl, inr, refl, arith}
use Rattle.std.proofs.Math.Nat.{mul-le-mul_right, div-mul-le_self}
use Rattle.std.proofs.lemmas.Bool.{eq-eqb, ne_eqb, cases_eq}
use Rattle.cds_base.specs.declared.time.TheConstants.{LAST_TIME_US}
use Rattle.cds_trace.specs.Signal.{Signal}
use Rattle.cds_detect.specs.Classes.{class_count}
use Rattle.cds_detect.specs.Raw.{end_sample}

-- a whole bunch ends within the trace
pub bunch-within : (j bunch samples : ℕ) → j < samples / bunch → j * bunch + bunch ≤ samples
bunch-within j bunch samples l =
    let ends : (j + 1) * bunch ≤ samples / bunch * bunch = mul-le-mul_right bunch (omega arith) in
    omega (arith, ends, div-mul-le_self samples bunch)

-- a class begins before the last sample, and its time is not behind that one's
pub class-within : (j bunch samples : ℕ) → 1 ≤ bunch → j < class_count samples bunch → j * bunch + 1 ≤ samples - 1
class-within j bunch samples some l = omega (arith, bunch-within (j + 1) bunch samples (omega arith))

pub time-within : (j bunch samples period : ℕ) → 1 ≤ bunch → j < class_count samples bunch → (samples - 1) * period ≤ LAST_TIME_US → j * bunch * period ≤ LAST_TIME_US
time-within j bunch samples period some l m =
    let before : j * bunch ≤ samples - 1 = omega (arith, class-within j bunch samples some l) in
    omega (arith, mul-le-mul_right period before)

-- where a peak that ends at a class ends, or one that ends with the classes
pub end_sample-class : (signal : Signal) (bunch e : ℕ) → e < class_count (length signal.samples) bunch → end_sample signal bunch e ≡ e * bunch
end_sample-class signal bunch e l = rw (ne_eqb e (class_count (length signal.samples) bunch) (λ same. omega arith)) refl

pub end_sample-last : (signal : Signal) (bunch e : ℕ) → e ≡ class_count (length signal.samples) bunch → end_sample signal bunch e ≡ length signal.samples - 1
end_sample-last signal bunch e same = rw (eq-eqb e (class_count (length signal.samples) bunch) same) refl

-- it ends behind each sample at which an earlier bunch begins
pub end_sample-behind : (signal : Signal) (bunch s e : ℕ) → 1 ≤ bunch → s < e → e ≤ class_count (length signal.samples) bunch → s * bunch + 1 ≤ end_sample signal bunch e
end_sample-behind signal bunch s e some l m = elim (cases_eq e (class_count (length signal.samples) bunch)) [
  | inl same ↦ rw (end_sample-last signal bunch e same) (class-within s bunch (length signal.samples) some (omega arith))
  | inr other ↦ (
      let before : e < class_count (length signal.samples) bunch = omega arith in
      let further : (s + 1) * bunch ≤ e * bunch = mul-le-mul_right bunch (omega arith) in
      rw (end_sample-class signal bunch e before) (omega arith))
]

-- it ends within the trace
pub end_sample-within : (signal : Signal) (bunch e : ℕ) → 1 ≤ bunch → 2 ≤ length signal.samples → e ≤ class_count (length signal.samples) bunch → end_sample signal bunch e + 1 ≤ length signal.samples
end_sample-within signal bunch e some enough m = elim (cases_eq e (class_count (length signal.samples) bunch)) [
  | inl same ↦ rw (end_sample-last signal bunch e same) (omega arith)
  | inr other ↦ (
      let before : e < class_count (length signal.samples) bunch = omega arith in
      rw (end_sample-class signal bunch e before) (omega (arith, class-within e bunch (length signal.samples) some before)))
]
