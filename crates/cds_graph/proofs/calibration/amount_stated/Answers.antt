use Rattle.std.proofs.Common.{ℕ, List, sym, ap, ◌∙◌}
use Rattle.cds_base.proofs.NamedLaws.{named-All}
use Rattle.cds_base.specs.Named.{named}
use Rattle.cds_base.specs.declared.limits.TheConstants.{MOST_AMOUNT}
use Rattle.cds_sign.specs.Ranges.{IsWithin}
use Rattle.cds_graph.proofs.calibration.amount_stated.Goals as goal

pub returns-in-Some-clause-range : goal.returns-in-Some-clause-range
returns-in-Some-clause-range c =
    named-All (λ (a : List ℕ × ℕ). a.0) (λ (a : List ℕ × ℕ). IsWithin 1 MOST_AMOUNT a.1) c.args.amounts.now c.args.name
    c.in-Some.amount.now c.requires
    (sym (c.in-Some.ensures ∙ ap (λ amounts. named (λ (a : List ℕ × ℕ). a.0) amounts c.args.name) c.as_slice.ensures))
