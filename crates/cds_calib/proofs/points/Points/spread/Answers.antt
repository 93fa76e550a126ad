use Rattle.cds_calib.proofs.Reached.{if_rising-few, if_rising-flat, spread-some}
use Rattle.cds_calib.proofs.points.Points.spread.Goals as goal

pub returns-then-xx-eq0-clause-value : goal.returns-then-xx-eq0-clause-value
returns-then-xx-eq0-clause-value c = if_rising-few c.args.self.now _ _ c.corrected_xx-xx.ensures.value c.if-xx-eq0.true

pub returns-then-xy-eq0-clause-value : goal.returns-then-xy-eq0-clause-value
returns-then-xy-eq0-clause-value c = if_rising-flat c.args.self.now _ _ _ c.corrected_xx-xx.ensures.value c.if-xx-eq0.false c.corrected_xy-xy.ensures.value c.if-xy-eq0.true

pub returns-clause-value : goal.returns-clause-value
returns-clause-value c = spread-some c.args.self.now _ _ _ c.corrected_xx-xx.ensures.value c.if-xx-eq0.false c.corrected_xy-xy.ensures.value c.if-xy-eq0.false c.corrected_yy-yy.ensures.value
