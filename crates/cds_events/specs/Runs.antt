-- Which neighbours stand in one cluster. This project's own rule.
use Rattle.std.specs.Prelude.{◌≡◌, ℕ, suc, ◌+◌, ◌<◌, ◌&&◌, ◌||◌, ◌==◌, Bool, true, false, not, List, [], ◌∷◌, Option}
use Rattle.std.specs.Prelude.{Some, None, All, length, nat_le, if◌then◌else◌}
use Rattle.std.specs.List.{list_any, flat_map, last_or}
use Rattle.cds_events.specs.Pieces.{Piece}
use Rattle.cds_events.specs.Placed.{Placed}

-- a forced piece lies between two peaks
abbrev pub lies_between : Placed → Placed → Piece → Bool
lies_between a b piece = nat_le a.apex piece.start && nat_le piece.end b.apex

-- two neighbours stand in one cluster: where one belongs to a forced piece, the other must belong to the same; else the
-- later must start at most `gap` samples behind the end of the earlier, and no forced piece may lie between them
abbrev pub fused : ℕ → List Piece → Placed → Placed → Bool
fused gap pieces a b =
    if a.forced || b.forced then (a.forced && b.forced) && a.start == b.start
    else nat_le b.start (a.end + gap) && not (list_any (lies_between a b) pieces)

-- one more peak in front of runs: in the first run, where it is fused with that one's first peak, or in a run of its
-- own
abbrev pub before_runs : (Placed → Placed → Bool) → Placed → List (List Placed) → List (List Placed)
before_runs joins peak [] = (peak ∷ []) ∷ []
before_runs joins peak ([] ∷ runs) = (peak ∷ []) ∷ runs
before_runs joins peak ((next ∷ run) ∷ runs) =
    if joins peak next then (peak ∷ next ∷ run) ∷ runs else (peak ∷ []) ∷ (next ∷ run) ∷ runs

-- the maximal runs of peaks in order, of which each is fused with the next
abbrev pub runs_of : (Placed → Placed → Bool) → List Placed → List (List Placed)
runs_of joins [] = []
runs_of joins (peak ∷ peaks) = before_runs joins peak (runs_of joins peaks)

-- how many of these peaks are fused with the one before each, from the first on, where this one stands before them
abbrev pub fused_after : (Placed → Placed → Bool) → Placed → List Placed → ℕ
fused_after joins peak [] = 0
fused_after joins peak (next ∷ later) = if joins peak next then suc (fused_after joins next later) else 0

-- how many peaks the first run has
abbrev pub run_length : (Placed → Placed → Bool) → List Placed → ℕ
run_length joins [] = 0
run_length joins (peak ∷ later) = suc (fused_after joins peak later)

-- each peak of these is fused with the next one
abbrev pub AreFused : (Placed → Placed → Bool) → List Placed → Type 0
AreFused joins [] = Unit {0}
AreFused joins (peak ∷ []) = Unit {0}
AreFused joins (peak ∷ next ∷ later) = (joins peak next ≡ true) × AreFused joins (next ∷ later)

-- this one, where it is there, isn't fused with the first of these peaks
abbrev pub IsParted : (Placed → Placed → Bool) → Option Placed → List Placed → Type 0
IsParted joins None peaks = Unit {0}
IsParted joins (Some last) [] = Unit {0}
IsParted joins (Some last) (next ∷ later) = joins last next ≡ false

-- the last peak of each of these runs isn't fused with the first of the next run
abbrev pub AreParted : (Placed → Placed → Bool) → List (List Placed) → Type 0
AreParted joins [] = Unit {0}
AreParted joins (run ∷ []) = Unit {0}
AreParted joins (run ∷ next ∷ runs) = IsParted joins (last_or None run) next × AreParted joins (next ∷ runs)

-- these are the maximal runs of peaks
pub record AreMaximal (joins : Placed → Placed → Bool) (peaks : List Placed) (runs : List (List Placed)) : Type 0 where
  -- together, one after the other, they are the peaks, and none is empty
  pub together : flat_map (λ run. run) runs ≡ peaks
  pub some : All (λ run. 0 < length run) runs
  -- neighbours inside a run are fused, those at the border of two runs aren't
  pub fused_inside : All (AreFused joins) runs
  pub parted : AreParted joins runs
