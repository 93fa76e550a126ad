-- The straight lines below peaks: the baseline between two neighbouring nodes.
use Rattle.std.specs.Prelude.{ℕ, List, nat_le, nat_lt, if◌then◌else◌}
use Rattle.std.specs.List.{fold, find}
use Rattle.std.specs.Option.{unwrap_or}
use Rattle.cds_base.specs.declared.peak.Line.{Line}
use Rattle.cds_trace.specs.Signal.{Signal}
use Rattle.cds_trace.specs.Heights.{chord}

-- the last of some rising samples that doesn't lie behind this one
abbrev pub last_up_to : List ℕ → ℕ → ℕ
last_up_to nodes at = fold (λ found node. if nat_le node at then node else found) 0 nodes

-- the first of them that does
abbrev pub first_behind : List ℕ → ℕ → ℕ
first_behind nodes at = unwrap_or (find (nat_lt at) nodes) at

-- the baseline over a part that starts at this sample: straight from the node before it, or at it, to the next one
abbrev pub line_over : Signal → List ℕ → ℕ → Line
line_over signal nodes at = chord signal (last_up_to nodes at) (first_behind nodes at)
