-- How the searches for both crossings end.
use Rattle.std.proofs.Common.{◌≡◌, ℕ, ◌+◌, ◌-◌, ◌<◌, ◌≤◌, Some, None, ℤ, ◌-ℤ◌, ◌≤ℤ◌, ◌<ℤ◌, option_map, refl, sym, ◌∙◌, ap, arith}
use Rattle.std.specs.Prelude.{unsigned_abs}
use Rattle.std.proofs.lemmas.Int.{ints}
use Rattle.cds_base.specs.declared.peak.Line.{Line}
use Rattle.cds_trace.specs.Signal.{Signal}
use Rattle.cds_figures.specs.Crossings.{last_passing, first_passing, is_down_to, scaled_height, meeting_time, meets_at, left_crossing, right_crossing}
use Rattle.cds_figures.proofs.NumberLaws.{at_most, above}
use Rattle.cds_figures.proofs.PassingLaws.{last-skip, last-here, last-end, first-skip, first-here, first-end}

-- a level between two heights is nearer to the lower one than the higher one is
pub nearer_low : (low high level : ℤ) → low ≤ℤ level → level <ℤ high → unsigned_abs (level -ℤ low) < unsigned_abs (high -ℤ low)
nearer_low low high level l h = omega (arith, ints)

-- and not farther from the higher one than the lower one is
pub nearer_high : (low high level : ℤ) → low ≤ℤ level → level <ℤ high → unsigned_abs (level -ℤ high) ≤ unsigned_abs (low -ℤ high)
nearer_high low high level l h = omega (arith, ints)

pub apart : (low high level : ℤ) → low ≤ℤ level → level <ℤ high → 0 < unsigned_abs (low -ℤ high)
apart low high level l h = omega (arith, ints)

-- the search to the left finds the first sample that it comes to which is down to the level
pub left-found : (signal : Signal) (line : Line) (level : ℤ) (start apex i : ℕ) (outer inner : ℤ) →
    last_passing (is_down_to signal line level) start (i - start) ≡ last_passing (is_down_to signal line level) start (apex - start) →
    start < i → outer ≡ scaled_height signal line (i - 1) → inner ≡ scaled_height signal line i → outer ≤ℤ level →
    left_crossing signal line level start apex ≡ Some (meeting_time signal.period (i - 1) outer inner level)
left-found signal line level start apex i outer inner search some low high down =
    let next : i - 1 + 1 ≡ i = omega arith in
    let found = last-here (is_down_to signal line level) start i some (rw (← low) (at_most outer level down)) in
    let meets : meets_at signal line level (i - 1) ≡ meeting_time signal.period (i - 1) outer inner level = rw (next, low, high) refl in
    ap (option_map (meets_at signal line level)) (sym search ∙ found) ∙ ap Some meets

-- it passes over a sample above the level
pub left-on : (signal : Signal) (line : Line) (level : ℤ) (start i : ℕ) (outer : ℤ) →
    start < i → outer ≡ scaled_height signal line (i - 1) → level <ℤ outer →
    last_passing (is_down_to signal line level) start (i - start) ≡ last_passing (is_down_to signal line level) start (i - 1 - start)
left-on signal line level start i outer some high up =
    last-skip (is_down_to signal line level) start i some (rw (← high) (above outer level up))

-- and ends at the start
pub left-none : (signal : Signal) (line : Line) (level : ℤ) (start apex i : ℕ) →
    last_passing (is_down_to signal line level) start (i - start) ≡ last_passing (is_down_to signal line level) start (apex - start) →
    i ≤ start → left_crossing signal line level start apex ≡ None
left-none signal line level start apex i search none =
    ap (option_map (meets_at signal line level)) (sym search ∙ last-end (is_down_to signal line level) start i none)

-- the search to the right
pub right-found : (signal : Signal) (line : Line) (level : ℤ) (apex end i : ℕ) (inner outer : ℤ) →
    first_passing (is_down_to signal line level) i (end + 1 - i) ≡ first_passing (is_down_to signal line level) (apex + 1) (end - apex) →
    0 < i → i < end + 1 → inner ≡ scaled_height signal line (i - 1) → outer ≡ scaled_height signal line i → outer ≤ℤ level →
    right_crossing signal line level apex end ≡ Some (meeting_time signal.period (i - 1) inner outer level)
right-found signal line level apex end i inner outer search some within high low down =
    let next : i - 1 + 1 ≡ i = omega arith in
    let found = first-here (is_down_to signal line level) i (end + 1) within (rw (← low) (at_most outer level down)) in
    let meets : meets_at signal line level (i - 1) ≡ meeting_time signal.period (i - 1) inner outer level = rw (next, low, high) refl in
    ap (option_map (λ k. meets_at signal line level (k - 1))) (sym search ∙ found) ∙ ap Some meets

pub right-on : (signal : Signal) (line : Line) (level : ℤ) (end i : ℕ) (outer : ℤ) →
    i < end + 1 → outer ≡ scaled_height signal line i → level <ℤ outer →
    first_passing (is_down_to signal line level) i (end + 1 - i) ≡ first_passing (is_down_to signal line level) (i + 1) (end + 1 - (i + 1))
right-on signal line level end i outer within high up =
    first-skip (is_down_to signal line level) i (end + 1) within (rw (← high) (above outer level up))

pub right-none : (signal : Signal) (line : Line) (level : ℤ) (apex end i : ℕ) →
    first_passing (is_down_to signal line level) i (end + 1 - i) ≡ first_passing (is_down_to signal line level) (apex + 1) (end - apex) →
    end + 1 ≤ i → right_crossing signal line level apex end ≡ None
right-none signal line level apex end i search none =
    ap (option_map (λ k. meets_at signal line level (k - 1))) (sym search ∙ first-end (is_down_to signal line level) i (end + 1) none)
