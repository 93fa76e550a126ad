-- The search for the tangent sample: it is the last sample of the least slope.
use Rattle.std.proofs.Common.{◌≡◌, ℕ, zero, suc, ◌+◌, ◌-◌, ◌<◌, ◌≤◌, ℤ, pos, ◌-ℤ◌, ◌*ℤ◌, ◌≤ℤ◌, ◌<ℤ◌, true, false, inl, inr, arith, refl}
use Rattle.std.specs.Prelude.{int_le}
use Rattle.std.proofs.lemmas.Int.{ints}
use Rattle.std.proofs.lemmas.Bool.{cases_Bool, cases_lt, cases_eq}
use borrow.Author.Differences.{le-true, le-false}
use Rattle.cds_base.proofs.SearchLaws.{greatest-here, greatest-skip}
use Rattle.cds_trace.specs.Signal.{Signal, sample_at}
use Rattle.cds_baseline.specs.declared.slopes.Slope.{Slope}
use Rattle.cds_baseline.specs.Chord.{is_over}
use Rattle.cds_baseline.specs.Tangent.{is_clear, tangent_sample}
use Rattle.cds_baseline.proofs.NumberLaws.{each_below-from, each_below-fails}
use Rattle.cds_baseline.proofs.SlopeLaws.{slope-trans, over-from, over-not, flat-mul}

-- the rise from sample v to sample k
abbrev pub rise_to : Signal → ℕ → ℕ → ℤ
rise_to signal v k = sample_at signal k -ℤ sample_at signal v

-- `last` is the last sample up to j of the least slope from v, and `least` is that slope
pub record IsLastLeast (signal : Signal) (v j last : ℕ) (least : Slope) : Type 0 where
  pub beyond : v < last
  pub inside : last ≤ j
  pub rise : least.rise ≡ rise_to signal v last
  pub run : least.run ≡ last - v
  pub value : last ≡ tangent_sample signal v j
  pub each : (k : ℕ) → v < k → k ≤ j → (least.rise *ℤ pos (k - v)) ≤ℤ (rise_to signal v k *ℤ pos least.run)

-- a chord is clear where its slope is at most that to each sample before
clear-from : (signal : Signal) (v j : ℕ) → v ≤ j →
    ((k : ℕ) → v < k → k < j → (rise_to signal v j *ℤ pos (k - v)) ≤ℤ (rise_to signal v k *ℤ pos (j - v))) → is_clear signal v j ≡ true
clear-from signal v j order each =
    each_below-from (λ n. is_over signal v j (v + n)) (j - v + 1)
    (λ n below. over-from signal v j (v + n) (omega arith) (omega arith)
    (elim (cases_eq n 0) [
      | inl start ↦
          let here : v + 0 ≡ v = omega arith in
          let none : v - v ≡ 0 = omega arith in
          rw (start, here, none, flat-mul (sample_at signal v) (j - v)) (omega (arith, ints))
      | inr beyond ↦ elim (cases_lt (v + n) j) [
        | inl before ↦ each (v + n) (omega arith) before
        | inr end ↦ let e : v + n ≡ j = omega arith in rw e (omega (arith, ints))
      ]
    ]))

-- the first sample behind v
pub least-start : (signal : Signal) (v : ℕ) (least : Slope) → least.rise ≡ rise_to signal v (v + 1) → least.run ≡ v + 1 - v →
    IsLastLeast signal v (v + 1) (v + 1) least
least-start signal v least rise run =
    let clear : is_clear signal v (v + (0 + 1)) ≡ true = clear-from signal v (v + (0 + 1)) (omega arith) (λ k after before. absurd (omega arith)) in
    let count : v + 1 - v ≡ 0 + 1 = omega arith in
    record {
      beyond = omega arith;
      inside = omega arith;
      rise = rise;
      run = run;
      value = rw (count, greatest-here (λ n. is_clear signal v (v + n)) 0 clear) refl;
      each = λ k after before. let e : k ≡ v + 1 = omega arith in rw (e, rise, run) (omega (arith, ints));
    }

-- a sample of a slope that is at most the least takes its place
pub least-takes : (signal : Signal) (v j last : ℕ) (least slope : Slope) → IsLastLeast signal v j last least →
    slope.rise ≡ rise_to signal v (j + 1) → slope.run ≡ j + 1 - v →
    int_le (slope.rise *ℤ pos least.run) (least.rise *ℤ pos slope.run) ≡ true → IsLastLeast signal v (j + 1) (j + 1) slope
least-takes signal v j last least slope h rise run at_most =
    let some : 0 < least.run = omega (arith, h.run, h.beyond) in
    let before : (slope.rise *ℤ pos least.run) ≤ℤ (least.rise *ℤ pos slope.run) = omega (arith, ints, le-true (slope.rise *ℤ pos least.run) (least.rise *ℤ pos slope.run) at_most) in
    let each : (k : ℕ) → v < k → k ≤ j → (slope.rise *ℤ pos (k - v)) ≤ℤ (rise_to signal v k *ℤ pos slope.run) =
    λ k after inside. slope-trans slope.rise least.rise (rise_to signal v k) slope.run least.run (k - v) some before (h.each k after inside) in
    let count : j + 1 - v ≡ (j - v) + 1 = omega (arith, h.beyond, h.inside) in
    let at : v + ((j - v) + 1) ≡ j + 1 = omega (arith, h.beyond, h.inside) in
    let clear : is_clear signal v (v + ((j - v) + 1)) ≡ true =
    rw at (clear-from signal v (j + 1) (omega (arith, h.beyond, h.inside)) (λ k after inside. rw (rise, run) at (each k after (omega arith)))) in
    record {
      beyond = omega (arith, h.beyond, h.inside);
      inside = omega arith;
      rise = rise;
      run = run;
      value = rw (count, greatest-here (λ n. is_clear signal v (v + n)) (j - v) clear) (omega arith);
      each = λ k after inside. elim (cases_eq k (j + 1)) [
        | inl end ↦ rw (end, rise, run) (omega (arith, ints))
        | inr other ↦ each k after (omega arith)
      ];
    }

-- a sample of a steeper slope leaves it
pub least-keeps : (signal : Signal) (v j last : ℕ) (least slope : Slope) → IsLastLeast signal v j last least →
    slope.rise ≡ rise_to signal v (j + 1) → slope.run ≡ j + 1 - v →
    int_le (slope.rise *ℤ pos least.run) (least.rise *ℤ pos slope.run) ≡ false → IsLastLeast signal v (j + 1) last least
least-keeps signal v j last least slope h rise run steeper =
    let above : (least.rise *ℤ pos slope.run) <ℤ (slope.rise *ℤ pos least.run) = omega (arith, ints, le-false (slope.rise *ℤ pos least.run) (least.rise *ℤ pos slope.run) steeper) in
    let under : is_over signal v (j + 1) (v + (last - v)) ≡ false =
    let at : v + (last - v) ≡ last = omega (arith, h.beyond) in
    rw at (over-not signal v (j + 1) last (omega (arith, h.beyond)) (omega (arith, h.inside)) (rw (rise, run, h.rise, h.run) at above)) in
    let count : j + 1 - v ≡ (j - v) + 1 = omega (arith, h.beyond, h.inside) in
    let at : v + ((j - v) + 1) ≡ j + 1 = omega (arith, h.beyond, h.inside) in
    let clear : is_clear signal v (v + ((j - v) + 1)) ≡ false =
    rw at (each_below-fails (λ n. is_over signal v (j + 1) (v + n)) (j + 1 - v + 1) (last - v) (omega (arith, h.beyond, h.inside)) under) in
    record {
      beyond = h.beyond;
      inside = omega (arith, h.inside);
      rise = h.rise;
      run = h.run;
      value = rw (count, greatest-skip (λ n. is_clear signal v (v + n)) (j - v) clear) h.value;
      each = λ k after inside. elim (cases_eq k (j + 1)) [
        | inl end ↦ rw (end) (omega (arith, ints, rw (rise, run) at above))
        | inr other ↦ h.each k after (omega arith)
      ];
    }

-- no sample lies under the chord to the last sample of the least slope
pub least-clear : (signal : Signal) (v j last : ℕ) (least : Slope) → IsLastLeast signal v j last least →
    (k : ℕ) → v ≤ k → k ≤ last → is_over signal v last k ≡ true
least-clear signal v j last least h k after inside =
    over-from signal v last k after inside
    (elim (cases_eq k v) [
      | inl start ↦
          let none : v - v ≡ 0 = omega arith in
          rw (start, none, flat-mul (sample_at signal v) (last - v)) (omega (arith, ints))
      | inr beyond ↦ rw (h.rise, h.run) at (h.each k (omega arith) (omega (arith, h.inside)))
    ])

-- the least slope to the samples from v + 1 up to v + 1 + n
abbrev pub HasLeast : Signal → ℕ → ℕ → Type 0
HasLeast signal v j = (last : ℕ) × (least : Slope) × IsLastLeast signal v j last least

has-least : (signal : Signal) (v n : ℕ) → HasLeast signal v (v + 1 + n)
has-least signal v zero =
    let e : v + 1 + 0 ≡ v + 1 = omega arith in
    let slope : Slope = record { rise = rise_to signal v (v + 1); run = v + 1 - v } in
    rw e (v + 1, slope, least-start signal v slope refl refl)
has-least signal v (suc n) =
    let e : v + 1 + suc n ≡ v + 1 + n + 1 = omega arith in
    let j : ℕ = v + 1 + n in
    let before = has-least signal v n in
    let slope : Slope = record { rise = rise_to signal v (j + 1); run = j + 1 - v } in
    rw e (elim (cases_Bool (int_le (slope.rise *ℤ pos before.1.run) (before.1.rise *ℤ pos slope.run))) [
      | inl is ↦ (j + 1, slope, least-takes signal v j before.0 before.1 slope before.2 refl refl is)
      | inr other ↦ (before.0, before.1, least-keeps signal v j before.0 before.1 slope before.2 refl refl other)
    ])

-- what holds of the sample at which a tangent ends
pub record IsTangent (signal : Signal) (v end : ℕ) : Type 0 where
  pub beyond : v < tangent_sample signal v end
  pub inside : tangent_sample signal v end ≤ end
  pub clear : (k : ℕ) → v ≤ k → k ≤ tangent_sample signal v end → is_over signal v (tangent_sample signal v end) k ≡ true

pub tangent-is : (signal : Signal) (v end : ℕ) → v < end → IsTangent signal v end
tangent-is signal v end order =
    let e : v + 1 + (end - (v + 1)) ≡ end = omega (arith, order) in
    let h = rw e at (has-least signal v (end - (v + 1))) in
    let is : h.0 ≡ tangent_sample signal v end = h.2.value in
    record {
      beyond = omega (arith, is, h.2.beyond);
      inside = omega (arith, is, h.2.inside);
      clear = rw is at (least-clear signal v end h.0 h.1 h.2);
    }
