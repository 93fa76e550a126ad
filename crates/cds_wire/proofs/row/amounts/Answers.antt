use Rattle.cds_wire.proofs.NameLaws.{as_many_names, no_amounts}
use Rattle.cds_wire.proofs.row.amounts.Goals as goal

pub returns-then-not-has-clause-names : goal.returns-then-not-has-clause-names
returns-then-not-has-clause-names c = rw (c.from_vec.ensures, c.new.ensures.items) no_amounts

pub returns-clause-names : goal.returns-clause-names
returns-clause-names c = rw c.from_vec-2.ensures (record {
  few = as_many_names _ _ c.in_ok-amounts.ensures.count;
  each = c.in_ok-amounts.ensures.names;
  rising = c.in_ok-amounts.ensures.rising;
})
