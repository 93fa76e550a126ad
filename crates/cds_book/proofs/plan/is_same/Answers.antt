use Rattle.std.proofs.lemmas.Bool.Decides.{same_from_decides}
use Rattle.cds_book.proofs.VersionLaws.{same_signal-Decides}
use Rattle.cds_book.proofs.plan.is_same.Goals as goal

pub returns : goal.returns
returns c = same_from_decides _ _ c.same.ensures (same_signal-Decides c.args.version.now c.args.trace.now)
