use Rattle.std.proofs.Common.{◌≡◌, true, false, sym, ◌∙◌}
use Rattle.cds_rules.specs.Ranges.{has_other}
use Rattle.cds_rules.proofs.read_check.only_fields.Goals as goal

pub returns-then-has_other : goal.returns-then-has_other
returns-then-has_other c = let h : has_other c.args.kind ≡ true = sym c.has_other.ensures ∙ c.if-has_other.true in rw h c.only.ensures

pub returns : goal.returns
returns c = let h : has_other c.args.kind ≡ false = sym c.has_other.ensures ∙ c.if-has_other.false in rw h c.only-2.ensures
