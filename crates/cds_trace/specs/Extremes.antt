-- The first greatest and the first least sample of a range.
use Rattle.std.specs.Prelude.{ℕ, ◌+◌, ◌-◌, Bool, int_le}
use Rattle.std.specs.List.{range_with_len, list_all}
use Rattle.cds_base.specs.Search.{least}
use Rattle.cds_trace.specs.Signal.{Signal, sample_at}

-- no sample of the range from..to, its ends in it, is above sample i
abbrev pub is_greatest : Signal → ℕ → ℕ → ℕ → Bool
is_greatest signal from to i =
    list_all (λ k. int_le (sample_at signal k) (sample_at signal i)) (range_with_len from (to + 1 - from))

-- no sample of the range from..to, its ends in it, is below sample i
abbrev pub is_least : Signal → ℕ → ℕ → ℕ → Bool
is_least signal from to i =
    list_all (λ k. int_le (sample_at signal i) (sample_at signal k)) (range_with_len from (to + 1 - from))

-- the first greatest sample of the range from..to
abbrev pub first_greatest : Signal → ℕ → ℕ → ℕ
first_greatest signal from to = least (is_greatest signal from to) from (to + 1)

-- the first least sample of the range from..to
abbrev pub first_least : Signal → ℕ → ℕ → ℕ
first_least signal from to = least (is_least signal from to) from (to + 1)
