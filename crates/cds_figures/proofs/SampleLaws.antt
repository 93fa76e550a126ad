-- The samples of a window, one more at a time.
use Rattle.std.proofs.Common.{◌≡◌, ℕ, zero, suc, ◌+◌, ◌*◌, Bool, true, false, [], ◌∷◌, ◌++◌, map, refl, ap, arith, append-nil, ◌∙◌}
use Rattle.std.specs.List.{range_with_len, filter}
use Rattle.std.proofs.lemmas.List.{map-append}
use Rattle.std.proofs.lemmas.List.Elements.{filter-append}
use Rattle.cds_trace.specs.Signal.{Signal, sample_at}
use Rattle.cds_base.specs.EventTime.{is_in_window}
use Rattle.cds_figures.specs.Noise.{samples_in}

-- one more number in a row
range-more : (a n : ℕ) → range_with_len a (n + 1) ≡ range_with_len a n ++ (a + n) ∷ []
range-more a zero = let e : a + 0 ≡ a = omega arith in rw e refl
range-more a (suc n) =
    let count : suc n + 1 ≡ suc (n + 1) = omega arith in
    let at : a + suc n ≡ a + 1 + n = omega arith in
    rw (count, at) (ap (λ xs. a ∷ xs) (range-more (a + 1) n))

-- a sample of the window stands behind those before it
pub samples-more : (signal : Signal) (from to i : ℕ) → is_in_window from to (i * signal.period) ≡ true →
    samples_in signal from to (i + 1) ≡ samples_in signal from to i ++ sample_at signal i ∷ []
samples-more signal from to i inside =
    let at : 0 + i ≡ i = omega arith in
    let test : ℕ → Bool = λ k. is_in_window from to (k * signal.period) in
    let all : filter test (range_with_len 0 (i + 1)) ≡ filter test (range_with_len 0 i) ++ i ∷ [] =
    rw (range-more 0 i, at, filter-append test (range_with_len 0 i) (i ∷ []), inside) refl in
    rw all (map-append (sample_at signal) (filter test (range_with_len 0 i)) (i ∷ []))

-- another one leaves them
pub samples-skip : (signal : Signal) (from to i : ℕ) → is_in_window from to (i * signal.period) ≡ false →
    samples_in signal from to (i + 1) ≡ samples_in signal from to i
samples-skip signal from to i outside =
    let at : 0 + i ≡ i = omega arith in
    let test : ℕ → Bool = λ k. is_in_window from to (k * signal.period) in
    let all : filter test (range_with_len 0 (i + 1)) ≡ filter test (range_with_len 0 i) ++ [] =
    rw (range-more 0 i, at, filter-append test (range_with_len 0 i) (i ∷ []), outside) refl in
    ap (map (sample_at signal)) (all ∙ append-nil (filter test (range_with_len 0 i)))
