use Rattle.std.proofs.Common.{◌∙◌, sym, length}
use Rattle.cds_baseline.specs.Nodes.{sample_of, is_fixed}
use Rattle.cds_baseline.specs.Chain.{level_of, vertex}
use Rattle.cds_baseline.proofs.HullLaws.{keeping-drop}
use Rattle.cds_baseline.proofs.hulls.kept.Goals as goal

pub loop-count-preserved : goal.loop-count-preserved
loop-count-preserved c =
    keeping-drop (sample_of c.args.points.now) (level_of c.args.levels.now) (is_fixed c.args.fixed.now) (vertex c.args.chain.now)
    (length c.args.points.now) (length c.args.chain.now) c.loop-count.count c.args.next c.requires.points.rising c.requires.within c.loop-count.invariant
    (sym c.is_top_hidden.ensures ∙ c.loop-count-test.true)
