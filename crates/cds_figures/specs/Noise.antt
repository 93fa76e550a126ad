-- The noise of a blank: the greatest minus the least of its samples in a window of time. This project's own rule.
use Rattle.std.specs.Prelude.{ℕ, ◌*◌, ◌-ℤ◌, ◌==◌, ℤ, List, [], ◌∷◌, Option, Some, None, map, fold, length, nat_lt, unsigned_abs, if◌then◌else◌}
use Rattle.std.specs.Int.{int_min, int_max}
use Rattle.std.specs.List.{range_with_len, filter}
use Rattle.cds_base.specs.EventTime.{is_in_window}
use Rattle.cds_trace.specs.Signal.{Signal, sample_at}

-- of the first `count` samples those whose time lies in the window
abbrev pub samples_in : Signal → ℕ → ℕ → ℕ → List ℤ
samples_in signal from to count =
    map (sample_at signal) (filter (λ i. is_in_window from to (i * signal.period)) (range_with_len 0 count))

-- the greatest of these samples minus the least; 0 where there is none
abbrev pub range_of : List ℤ → ℕ
range_of [] = 0
range_of (sample ∷ samples) = unsigned_abs (fold int_max sample samples -ℤ fold int_min sample samples)

-- the range of a list of samples, if it has two samples and they aren't all alike
abbrev pub noise_of_samples : List ℤ → Option ℕ
noise_of_samples samples =
    let range = range_of samples in
    if nat_lt (length samples) 2 then None else (if range == 0 then None else Some range)

-- the noise of a signal in a window
abbrev pub noise_of : Signal → ℕ → ℕ → Option ℕ
noise_of signal from to = noise_of_samples (samples_in signal from to (length signal.samples))
