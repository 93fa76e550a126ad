use Rattle.std.proofs.Common.{ℕ, List, [], ◌∷◌, arith}
use Rattle.std.specs.List.{IsDistinct}
use Rattle.std.proofs.lemmas.List.Elements.{All-nil, All-cons}
use Rattle.cds_base.specs.NameText.{IsName}
use Rattle.cds_sign.specs.Ranges.{AreStandards}
use Rattle.cds_graph.proofs.turn_lines.standards_of.Goals as goal

-- one sequence is listed
one : (name : List ℕ) → IsName name → AreStandards (name ∷ [])
unfolding IsDistinct
one name is = record {
  count = record { enough = omega arith; few = omega arith };
  each = All-cons IsName name [] is (All-nil IsName);
  different = (tt, tt);
}

pub returns : goal.returns
returns c = rw (c.from_vec.ensures, c.in_ok-push.ensures.items, c.new-names.ensures.items) (one _ c.as_bytes-listed.ensures.name)
