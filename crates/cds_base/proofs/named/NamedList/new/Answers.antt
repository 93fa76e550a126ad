use Rattle.std.proofs.Common.{sym, subst, map}
use Rattle.cds_base.specs.Named.{AreRising}
use Rattle.cds_base.specs.declared.named.Named.{Named}
use Rattle.cds_base.proofs.NamedLaws.{AreRising-none}
use Rattle.cds_base.proofs.named.NamedList.new.Goals as goal

-- no name stands before another
pub returns-clause-rising : goal.returns-clause-rising
returns-clause-rising g c = subst (λ es. AreRising (map (λ (e : Named g.row.V.Denot). e.name) es)) (sym c.new.ensures.items) AreRising-none
