-- The area of a rider, which lies over the whole of a chord and nowhere under it.
use Rattle.std.proofs.Common.{◌≡◌, ℕ, ◌+◌, ◌-◌, ◌<◌, ◌≤◌, true, ℤ, pos, negsuc, ◌+ℤ◌, ◌-ℤ◌, ◌*ℤ◌, ◌≤ℤ◌, length}
use Rattle.std.proofs.Common.{sym, ap, ◌∙◌, arith}
use Rattle.std.specs.Int.{int_div_euclid}
use Rattle.std.proofs.lemmas.Int.{ints}
use Rattle.std.proofs.Math.IntN.{pos-*ℤ-pos}
use Rattle.std.proofs.Math.Nat.{mul-div_cancel}
use borrow.Author.Differences.{le-true}
use Rattle.cds_base.specs.declared.peak.Line.{Line}
use Rattle.cds_trace.specs.Signal.{Signal, sample_at, sum_between}
use Rattle.cds_trace.specs.Heights.{chord, span, height_by_span}
use Rattle.cds_area.specs.Area.{area_by_double_span}
use Rattle.cds_area.proofs.AreaLaws.{area-whole, area-not_negative}
use Rattle.cds_baseline.specs.Chord.{chord_by_span, is_over}
use Rattle.cds_integrate.proofs.NumberLaws.{times-sign}

-- what is a multiple is divided exactly
exact-quotient : (z : ℤ) (s : ℕ) → 0 < s → pos 0 ≤ℤ z → int_div_euclid (z *ℤ pos s) (pos s) ≡ z
exact-quotient (pos n) s some least =
    ap (λ (z : ℤ). int_div_euclid z (pos s)) (pos-*ℤ-pos n s) ∙ ap pos (mul-div_cancel n some)
exact-quotient (negsuc n) s some least = absurd (omega (arith, ints))

-- twice the area over the whole of a chord, by a formula: its samples but the last and but the first, together, less
-- the levels of its ends for each sample from the one to the other
abbrev pub twice_whole : Signal → Line → ℤ
twice_whole signal line =
    let sum = sum_between signal line.from (line.to + 1) in
    (sum -ℤ line.to_y) +ℤ (sum -ℤ line.from_y) -ℤ (line.from_y +ℤ line.to_y) *ℤ pos (span line)

-- a chord under which no sample lies: the formula gives twice its area, which isn't negative
pub record IsWhole (signal : Signal) (v j : ℕ) : Type 0 where
  pub formula : int_div_euclid (area_by_double_span signal (chord signal v j) v j) (pos (j - v)) ≡ twice_whole signal
      (chord signal v j)
  pub exact : area_by_double_span signal (chord signal v j) v j
      ≡ int_div_euclid (area_by_double_span signal (chord signal v j) v j) (pos (j - v)) *ℤ pos (j - v)
  pub least : pos 0 ≤ℤ int_div_euclid (area_by_double_span signal (chord signal v j) v j) (pos (j - v))

pub chord-whole : (signal : Signal) (v j : ℕ) → v < j → j < length signal.samples →
    ((k : ℕ) → v ≤ k → k ≤ j → is_over signal v j k ≡ true) → IsWhole signal v j
chord-whole signal v j order inside over =
    let line : Line = chord signal v j in
    let area : ℤ = area_by_double_span signal line v j in
    let twice : ℤ = twice_whole signal line in
    let high : (k : ℕ) → k ≤ j - v → pos 0 ≤ℤ height_by_span signal line (v + k) =
    λ k below. omega (
      arith,
      ints,
      le-true (chord_by_span signal v j (v + k)) (sample_at signal (v + k) *ℤ pos (j - v))
          (over (v + k) (omega arith) (omega arith)),
    ) in
    let whole : area ≡ twice *ℤ pos (j - v) = area-whole signal line (omega arith) inside in
    let sum : pos 0 ≤ℤ area = area-not_negative signal line v (j - v) high in
    let least : pos 0 ≤ℤ twice = times-sign twice (j - v) (omega arith) (rw whole at sum) in
    let formula : int_div_euclid area (pos (j - v)) ≡ twice =
    ap (λ (z : ℤ). int_div_euclid z (pos (j - v))) whole ∙ exact-quotient twice (j - v) (omega arith) least in
    record {
      formula = formula;
      exact = whole ∙ ap (λ (z : ℤ). z *ℤ pos (j - v)) (sym formula);
      least = rw formula least;
    }
