-- The runs of fused peaks.
use Rattle.std.proofs.Common.{◌≡◌, ℕ, ◌<◌, Bool, false, List, [], ◌∷◌, length, get_or, take, drop, refl, arith, inl}
use Rattle.std.proofs.Common.{inr, sym, ap}
use Rattle.std.proofs.lemmas.Bool.{cases_Bool}
use Rattle.std.proofs.lemmas.List.Elements.{All-nil, All-cons, All-head, All-tail}
use Rattle.cds_events.specs.Placed.{Placed}
use Rattle.cds_events.specs.Runs.{before_runs, runs_of, fused_after, run_length, AreFused, AreParted, AreMaximal}

abbrev nobody : Placed
nobody = record { start = 0; apex = 0; end = 0; forced = false }

-- the peak of index k
abbrev pub peak_at : List Placed → ℕ → Placed
peak_at peaks k = get_or peaks k nobody

-- the first run holds the first peak and those fused behind it
pub runs_of-cons : (joins : Placed → Placed → Bool) (peak : Placed) (later : List Placed) →
    runs_of joins (peak ∷ later) ≡ (peak ∷ take (fused_after joins peak later) later) ∷ runs_of joins
    (drop (fused_after joins peak later) later)
runs_of-cons joins peak [] = refl
runs_of-cons joins peak (next ∷ later) =
    let rest = runs_of-cons joins next later in
    elim (cases_Bool (joins peak next)) [
      | inl e ↦ rw (rest, e) refl
      | inr e ↦ rw (rest, e) (ap (λ runs. (peak ∷ []) ∷ runs) (sym rest))
    ]

pub runs_of-split : (joins : Placed → Placed → Bool) (peaks : List Placed) → 0 < length peaks →
    runs_of joins peaks ≡ take (run_length joins peaks) peaks ∷ runs_of joins (drop (run_length joins peaks) peaks)
runs_of-split joins [] some = absurd (omega arith)
runs_of-split joins (peak ∷ later) some = runs_of-cons joins peak later

-- a peak in front of a run stands on its border where the run did
longer-parted : (joins : Placed → Placed → Bool) (peak next : Placed) (run : List Placed) (runs : List (List Placed)) →
    AreParted joins ((next ∷ run) ∷ runs) → AreParted joins ((peak ∷ next ∷ run) ∷ runs)
longer-parted joins peak next run [] parted = tt
longer-parted joins peak next run (later ∷ runs) parted = parted

before_runs-maximal :
    (joins : Placed → Placed → Bool) (peak : Placed) (peaks : List Placed) (runs : List (List Placed)) →
    AreMaximal joins peaks runs → AreMaximal joins (peak ∷ peaks) (before_runs joins peak runs)
before_runs-maximal joins peak peaks [] is = record {
  together = ap (λ rest. peak ∷ rest) is.together;
  some = All-cons (λ run. 0 < length run) (peak ∷ []) [] (omega arith) is.some;
  fused_inside = All-cons (AreFused joins) (peak ∷ []) [] tt is.fused_inside;
  parted = tt;
}
before_runs-maximal joins peak peaks ([] ∷ runs) is =
    absurd (omega (arith, All-head (λ (run : List Placed). 0 < length run) [] runs is.some))
before_runs-maximal joins peak peaks ((next ∷ run) ∷ runs) is =
    let Some : List Placed → Type 0 = λ run. 0 < length run in
    elim (cases_Bool (joins peak next)) [
      | inl e ↦ rw e (record {
        together = ap (λ rest. peak ∷ rest) is.together;
        some = All-cons Some (peak ∷ next ∷ run) runs (omega arith) (All-tail Some (next ∷ run) runs is.some);
        fused_inside = All-cons (AreFused joins) (peak ∷ next ∷ run) runs
            (e, All-head (AreFused joins) (next ∷ run) runs is.fused_inside)
            (All-tail (AreFused joins) (next ∷ run) runs is.fused_inside);
        parted = longer-parted joins peak next run runs is.parted;
      })
      | inr e ↦ rw e (record {
        together = ap (λ rest. peak ∷ rest) is.together;
        some = All-cons Some (peak ∷ []) ((next ∷ run) ∷ runs) (omega arith) is.some;
        fused_inside = All-cons (AreFused joins) (peak ∷ []) ((next ∷ run) ∷ runs) tt is.fused_inside;
        parted = (e, is.parted);
      })
    ]

-- the runs are maximal
pub runs_of-maximal : (joins : Placed → Placed → Bool) (peaks : List Placed) →
    AreMaximal joins peaks (runs_of joins peaks)
runs_of-maximal joins [] = record {
  together = refl;
  some = All-nil (λ run. 0 < length run);
  fused_inside = All-nil (AreFused joins);
  parted = tt;
}
runs_of-maximal joins (peak ∷ peaks) =
    before_runs-maximal joins peak peaks (runs_of joins peaks) (runs_of-maximal joins peaks)
