-- The times with their places, and those in a window.
use Rattle.std.proofs.Common.{◌≡◌, ℕ, ◌+◌, ◌-◌, ◌<◌, ◌≤◌, ◌↔◌, inl, inr, leb, ltb, List, length, get_or, take, drop, Some, Contains, map, slice_get, sym, ap, ◌∙◌, subst, arith, length-drop, length-take, get_or-drop, get_or-take}
use Rattle.std.specs.List.{AllWithin, range_with_len}
use Rattle.std.proofs.lemmas.List.FromFn.{length-map-range_with_len, get_or-map-range_with_len}
use Rattle.std.proofs.lemmas.Option.{slice_get-get_or, slice_get_within, get_or_from_slice_get}
use Rattle.std.specs.List.Sorted.{IsNonDecreasingBy, IsPartitionedBy}
use Rattle.std.proofs.lemmas.Bool.{cases_lt}
use Rattle.std.proofs.lemmas.Bool.Decides.{nat_tests}
use Rattle.cds_base.specs.declared.Window.{Window}
use Rattle.cds_names.specs.Wanting.{PeakTime, IsInWindow, IsBeforeWindow, IsAfterWindow}

-- the time of the peak at a place
abbrev pub time_at : List ℕ → ℕ → PeakTime
time_at times k = record { time = get_or times k 0; peak = k }

-- times in order of time come before a window up to a place
pub starts_parted : (w : Window) (xs : List PeakTime) → IsNonDecreasingBy (λ x. x.time) xs → IsPartitionedBy (λ x. ltb w.width_us (w.time_us - x.time)) xs
starts_parted w xs rises i j d le below early =
    let times : (get_or xs i d).time ≤ (get_or xs j d).time = rises i j d le below in
    grind (arith, nat_tests)

-- and come after it from a place on
pub ends_parted : (w : Window) (xs : List PeakTime) → IsNonDecreasingBy (λ x. x.time) xs → IsPartitionedBy (λ x. leb (x.time - w.time_us) w.width_us) xs
ends_parted w xs rises i j d le below within =
    let times : (get_or xs i d).time ≤ (get_or xs j d).time = rises i j d le below in
    grind (arith, nat_tests)

-- the times before the window end before those after it begin
pub start_le_end : (w : Window) (xs : List PeakTime) (first end : ℕ) → first ≤ length xs → AllWithin (IsBeforeWindow w) xs 0 first → AllWithin (IsAfterWindow w) xs end (length xs) → first ≤ end
start_le_end w xs first end bound before after =
    elim (cases_lt end first) [
      | inr le ↦ le
      | inl lt ↦
          let d : PeakTime = record { time = 0; peak = 0 } in
          let early : w.width_us < w.time_us - (get_or xs end d).time = before end d (omega arith) lt in
          let late : w.width_us < (get_or xs end d).time - w.time_us = after end d (omega arith) (omega arith) in
          absurd (omega arith)
    ]

-- a time that is neither before nor after a window lies in it
in_window : (a t d : ℕ) → (d < a - t → ⊥) → (d < t - a → ⊥) → (a - t) + (t - a) ≤ d
in_window a t d not_before not_after =
    elim (cases_lt d (a - t)) [
      | inl early ↦ absurd (not_before early)
      | inr low ↦ elim (cases_lt d (t - a)) [ inl late ↦ absurd (not_after late) | inr high ↦ omega arith ]
    ]

-- what is between is what lies in the window
pub Contains-between : (w : Window) (xs : List PeakTime) (first end : ℕ) → first ≤ end → end ≤ length xs → AllWithin (IsBeforeWindow w) xs 0 first → AllWithin (λ x. IsBeforeWindow w x → ⊥) xs first (length xs) → AllWithin (λ x. IsAfterWindow w x → ⊥) xs 0 end → AllWithin (IsAfterWindow w) xs end (length xs) → (x : PeakTime) → Contains (drop first (take end xs)) x ↔ (Contains xs x × IsInWindow w x)
Contains-between w xs first end le bound early started unended late x =
    let front : length (take end xs) ≡ end = omega (arith, length-take end xs) in
    let all : length (drop first (take end xs)) ≡ end - first = length-drop first (take end xs) ∙ ap (λ n. n - first) front in (
      λ found.
          let k : ℕ = found.0 in
          let below : k < length (drop first (take end xs)) = found.1 in
          let within : first + k < end = omega arith in
          let at : get_or xs (first + k) x ≡ x = sym (get_or-take end xs (first + k) x within) ∙ sym (get_or-drop first (take end xs) k x) ∙ found.2 in
          let not_before : IsBeforeWindow w x → ⊥ = subst (λ y. IsBeforeWindow w y → ⊥) at (started (first + k) x (omega arith) (omega arith)) in
          let not_after : IsAfterWindow w x → ⊥ = subst (λ y. IsAfterWindow w y → ⊥) at (unended (first + k) x (omega arith) within) in
          ((first + k, omega arith, at), in_window w.time_us x.time w.width_us not_before not_after),
      λ known.
          let k : ℕ = known.0.0 in
          let below : k < length xs = known.0.1 in
          let near : IsInWindow w x = known.1 in
          let low : first ≤ k =
          elim (cases_lt k first) [
            | inr le ↦ le
            | inl lt ↦ let far : IsBeforeWindow w x = subst (IsBeforeWindow w) known.0.2 (early k x (omega arith) lt) in absurd (omega arith)
          ] in
          let high : k < end =
          elim (cases_lt k end) [
            | inl lt ↦ lt
            | inr ge ↦ let far : IsAfterWindow w x = subst (IsAfterWindow w) known.0.2 (late k x ge below) in absurd (omega arith)
          ] in
          let back : first + (k - first) ≡ k = omega arith in
          (k - first, omega arith, get_or-drop first (take end xs) (k - first) x ∙ ap (λ i. get_or (take end xs) i x) back ∙ get_or-take end xs k x high ∙ known.0.2),
    )

-- the listed times are those of the peaks
pub Contains-listed : (times : List ℕ) (x : PeakTime) → Contains (map (time_at times) (range_with_len 0 (length times))) x ↔ (slice_get times x.peak ≡ Some x.time)
Contains-listed times x =
    let n : ℕ = length times in
    let all : length (map (time_at times) (range_with_len 0 n)) ≡ n = length-map-range_with_len (time_at times) 0 n in (
      λ found.
          let below : found.0 < length (map (time_at times) (range_with_len 0 n)) = found.1 in
          let within : found.0 < n = omega arith in
          let is : time_at times found.0 ≡ x = sym (get_or-map-range_with_len (time_at times) 0 n found.0 found.0 x within (omega arith)) ∙ found.2 in
          subst (λ (y : PeakTime). slice_get times y.peak ≡ Some y.time) is (slice_get-get_or times found.0 0 within),
      λ known.
          let within : x.peak < n = slice_get_within times x.peak x.time known in
          let time : get_or times x.peak 0 ≡ x.time = get_or_from_slice_get times x.peak x.time 0 known in
          (x.peak, omega arith, get_or-map-range_with_len (time_at times) 0 n x.peak x.peak x within (omega arith) ∙ ap (λ t. record { time = t; peak = x.peak }) time),
    )
