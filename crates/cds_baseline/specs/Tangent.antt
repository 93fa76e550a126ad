-- Where the tangent from a valley to the falling side of a peak ends.
use Rattle.std.specs.Prelude.{ℕ, ◌+◌, ◌-◌, Bool}
use Rattle.cds_base.specs.Search.{greatest}
use Rattle.cds_trace.specs.Signal.{Signal}
use Rattle.cds_baseline.specs.Numbers.{each_below}
use Rattle.cds_baseline.specs.Chord.{is_over}

-- whether no sample from v to j lies under the chord from v to j
abbrev pub is_clear : Signal → ℕ → ℕ → Bool
is_clear signal v j = each_below (λ n. is_over signal v j (v + n)) (j - v + 1)

-- the tangent sample: the greatest j up to end such that no sample from v to j lies under the chord from v to j
abbrev pub tangent_sample : Signal → ℕ → ℕ → ℕ
tangent_sample signal v end = v + greatest (λ n. is_clear signal v (v + n)) (end - v)
