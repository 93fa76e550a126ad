use Rattle.std.proofs.Common.{ℕ, List, [], ◌∷◌, arith}
use Rattle.std.specs.List.Sorted.{IsStrictlySortedBy}
use Rattle.std.proofs.lemmas.List.Elements.{All-nil, All-cons}
use Rattle.cds_base.specs.NameText.{IsName}
use Rattle.cds_sign.specs.Ranges.{AreAmountNames}
use Rattle.cds_graph.proofs.turn_lines.amounts_of.Goals as goal

-- no amount, and one
none : AreAmountNames []
unfolding IsStrictlySortedBy
none = record { few = omega arith; each = All-nil IsName; rising = tt }

one : (name : List ℕ) → IsName name → AreAmountNames (name ∷ [])
unfolding IsStrictlySortedBy
one name is = record { few = omega arith; each = All-cons IsName name [] is (All-nil IsName); rising = (tt, tt) }

pub returns-then-eq : goal.returns-then-eq
returns-then-eq c = rw (c.from_vec.ensures, c.new.ensures.items) none

pub returns : goal.returns
returns c = rw (c.from_vec-2.ensures, c.in_ok-push.ensures.items, c.new-amounts.ensures.items) (one _ c.as_bytes-component.ensures.name)
