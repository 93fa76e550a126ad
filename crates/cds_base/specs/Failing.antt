-- Which calls of an object in memory fail.
use Rattle.std.specs.Prelude.{ℕ, ◌+◌, ◌==◌, Bool, List, min, if◌then◌else◌}
use Rattle.std.specs.List.{list_any}
use Rattle.cds_base.specs.Faults.{most_faults}

-- the numbers of the calls that are to fail, counted from 1, how many calls there were, and how many faults
pub record FailingState : Type 0 where
  pub numbers : List ℕ
  pub calls : ℕ
  pub faults : ℕ

-- one more, up to the greatest count
abbrev pub one_more : ℕ → ℕ
one_more count = min (count + 1) most_faults

-- the next call is one that is to fail
abbrev pub fails_next : FailingState → Bool
fails_next failing = list_any (λ number. number == one_more failing.calls) failing.numbers

-- once that call was made: a call that is to fail is a fault
abbrev pub after_call : FailingState → FailingState
after_call failing = record {
  numbers = failing.numbers;
  calls = one_more failing.calls;
  faults = if fails_next failing then one_more failing.faults else failing.faults;
}

-- once a call failed for another cause
abbrev pub after_fault : FailingState → FailingState
after_fault failing = record { numbers = failing.numbers; calls = failing.calls; faults = one_more failing.faults }
